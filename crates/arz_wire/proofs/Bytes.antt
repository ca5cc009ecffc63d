-- Numbers and texts at the front of bytes.
use Rattle.std.proofs.Common.{◌≡◌, ℕ, zero, suc, ◌+◌, ◌-◌, zero-add, ◌≤◌, List, length, take, drop, Ok, Err, Bool, true, false, refl, ap, ◌∙◌, arith}
use Rattle.std.specs.Prelude.{IsUtf8}
use Rattle.std.specs.Str.{is_utf8}
use Rattle.std.proofs.lemmas.Str.{IsUtf8-from_is_utf8, is_utf8-from_IsUtf8}
use Rattle.std.proofs.lemmas.Bool.{le-ltb}
use Rattle.arz_wire.specs.declared.fault.WireFault.TheVariants.{NotCanonical}
use Rattle.arz_json.specs.Answer.{◌>>=◌}
use Rattle.arz_wire.specs.Reading.{place, number_at, largest_number, text_if, text_at}
use Rattle.arz_wire.specs.Bounds.{bound}

pub bound_least : (k : ℕ) → 256 ≤ bound k
bound_least zero = omega arith
bound_least (suc k) = omega (arith, bound_least k)

bound_up : (j k : ℕ) → bound k ≤ bound (j + k)
bound_up zero k = rw zero-add (omega arith)
bound_up (suc j) k = let e : suc j + k ≡ suc (j + k) = omega arith in rw e (omega (arith, bound_up j k))

pub bound_most : (k : ℕ) → k ≤ 9 → bound k ≤ 2361183241434822606848
bound_most k h = let e : (9 - k) + k ≡ 9 = omega arith in rw e at (bound_up (9 - k) k)

bool_cases : (b : Bool) → (b ≡ true → ⊥) → b ≡ false
bool_cases true h = absurd (h refl)
bool_cases false h = refl

pub is_text : (bs : List ℕ) → IsUtf8 bs → is_utf8 bs ≡ true
is_text bs h = is_utf8-from_IsUtf8 bs h

pub is_no_text : (bs : List ℕ) → (IsUtf8 bs → ⊥) → is_utf8 bs ≡ false
is_no_text bs h = bool_cases (is_utf8 bs) (λ e. h (IsUtf8-from_is_utf8 bs e))

pub text_taken : (total : ℕ) (bytes : List ℕ) (n : ℕ) (rest : List ℕ) → number_at total largest_number bytes ≡ Ok (n, rest) → n ≤ length rest → is_utf8 (take n rest) ≡ true → text_at total bytes ≡ Ok (take n rest, drop n rest)
unfolding text_at
text_taken total bytes n rest e h u = ap (λ r. r >>= text_if total) e ∙ rw (le-ltb (length rest) n h, u)

pub text_refused : (total : ℕ) (bytes : List ℕ) (n : ℕ) (rest : List ℕ) → number_at total largest_number bytes ≡ Ok (n, rest) → n ≤ length rest → is_utf8 (take n rest) ≡ false → text_at total bytes ≡ Err (NotCanonical (place total rest))
unfolding text_at
text_refused total bytes n rest e h u = ap (λ r. r >>= text_if total) e ∙ rw (le-ltb (length rest) n h, u)
