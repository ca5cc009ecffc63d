-- How long spellings are.
use Rattle.std.proofs.Common.{◌≡◌, ℕ, zero, suc, ◌+◌, ◌*◌, ◌/◌, ◌<◌, ◌≤◌, ◌^◌, length, refl, ap, ◌∙◌, arith, length-append}
use Rattle.arz_json.specs.declared.tree.Json.TheVariants.{List as ListOf, Object}
use Rattle.arz_json.specs.declared.tree.Json.{Json}
use Rattle.arz_json.specs.declared.tree.Member.{Member}
use Rattle.std.specs.Prelude.{List}
use Rattle.arz_wire.specs.Spelling.{number_within, number, spelling, spellings, member_spellings}
use Rattle.arz_wire.proofs.Layers.{spelling_list, spelling_object}
use Rattle.arz_wire.proofs.Numbers.{reach, number_within-suc}

pub one_byte_more : (k n : ℕ) → 128 ≤ n → n < reach k → (l : ℕ) × (suc l ≡ k) × (n / 128 < reach l) × (length (number_within k n) ≡ suc (length (number_within l (n / 128))))
one_byte_more zero n h less = absurd (omega arith)
one_byte_more (suc k) n h less = (k, refl, omega arith, ap length (number_within-suc k n h))

abbrev full : ℕ → ℕ
full zero = 1
full (suc k) = 128 * full k

full-one : (k : ℕ) → 1 ≤ full k
full-one zero = omega arith
full-one (suc k) = let more : 1 ≤ full k = full-one k in omega arith

long_within : (k n : ℕ) → full k ≤ n → length (number_within k n) ≡ suc k
unfolding number_within
long_within zero n h = refl
long_within (suc k) n h =
    let one : 1 ≤ full k = full-one k in
    let wide : 128 * full k ≤ n = h in
    ap length (number_within-suc k n (omega arith)) ∙ ap (λ l. suc l) (long_within k (n / 128) (omega arith))

-- from 2^63 on a number takes all its ten bytes
pub long_number : (n : ℕ) → 2 ^ 64 ≤ n → length (number n) ≡ 10
long_number n h = long_within 9 n (let far : 2 ^ 63 ≤ n = omega arith in far)

pub list_length : (js : List Json) → length (spelling (ListOf js)) ≡ 1 + length (number (length js)) + length (spellings js)
list_length js = ap length (spelling_list js) ∙ (let split = length-append (number (length js)) (spellings js) in omega (arith, split))

pub object_length : (ms : List Member) → length (spelling (Object ms)) ≡ 1 + length (number (length ms)) + length (member_spellings ms)
object_length ms = ap length (spelling_object ms) ∙ (let split = length-append (number (length ms)) (member_spellings ms) in omega (arith, split))
