-- How long the spellings of members are.
use Rattle.std.proofs.Common.{◌≡◌, ℕ, suc, ◌+◌, ◌<◌, ◌≤◌, ◌^◌, List, [], ◌∷◌, ◌++◌, map, length, get_or, drop, drop-cons, add-one, length-append, Option, Some, None, IfSome, IfNone, refl, sym, ap, ◌∙◌, subst, arith}
use Rattle.std.proofs.lemmas.List.{length-map}
use Rattle.arz_json.specs.declared.Json.TheVariants.{Text, Object}
use Rattle.arz_json.specs.declared.Member.{Member}
use Rattle.arz_wire.specs.Spelling.{spelling, number, counted, member_spellings}
use Rattle.arz_wire.proofs.Layers.{spelling_text}
use Rattle.arz_wire.proofs.Measures.{object_length}
use Rattle.arz_flow.specs.declared.bundle.Bundle.{Bundle}
use Rattle.arz_start.specs.Lengths.{Measures, member_bytes}
use Rattle.arz_start.specs.StartTree.{description_first, limits_next, servers_next, sources_last, start_tree}

-- what is told by two clauses
pub measured : (o : Option ℕ) (n : ℕ) → IfSome o (λ m. m ≡ n) → IfNone o (2 ^ 64 ≤ n) → Measures o n
measured None n some none = none
measured (Some m) n some none = some

pub measures_same : (o : Option ℕ) (m n : ℕ) → Measures o m → m ≡ n → Measures o n
measures_same o m n measures is = subst (Measures o) is measures

-- one more byte
pub measures_more : (o more : Option ℕ) (n : ℕ) → ((a b : ℕ) → Measures o a → Measures (Some 1) b → Measures more (a + b)) → Measures o n → Measures more (n + 1)
measures_more o more n goes measures = goes n 1 measures refl

pub text_bytes : (s : List ℕ) → length (spelling (Text s)) ≡ length (counted s) + 1
text_bytes s = ap length (spelling_text s) ∙ omega arith

pub one_member : (m : Member) (ms : List Member) → length (member_spellings (m ∷ ms)) ≡ member_bytes m + length (member_spellings ms)
one_member m ms =
    let all = length-append (counted m.name ++ spelling m.value) (member_spellings ms) in
    let own = length-append (counted m.name) (spelling m.value) in
    omega (arith, all, own)

pub more_members : (ms rest : List Member) → length (member_spellings (ms ++ rest)) ≡ length (member_spellings ms) + length (member_spellings rest)
more_members [] rest = omega arith
more_members (m ∷ ms) rest =
    let one = one_member m (ms ++ rest) in
    let own = one_member m ms in
    let others = more_members ms rest in
    omega (arith, one, own, others)

-- from an item of a list on
pub from_item : {X : Type 0} (xs : List X) (i : ℕ) (x : X) → i < length xs → x ≡ get_or xs i x → drop i xs ≡ x ∷ drop (i + 1) xs
from_item xs i x lt is = drop-cons xs i x lt ∙ ap (λ y. y ∷ drop (suc i) xs) (sym is) ∙ ap (λ n. x ∷ drop n xs) (sym (add-one i))

pub item_bytes : {X : Type 0} (f : X → Member) (xs : List X) (i : ℕ) (x : X) → i < length xs → x ≡ get_or xs i x
    → length (member_spellings (map f (drop i xs))) ≡ member_bytes (f x) + length (member_spellings (map f (drop (i + 1) xs)))
item_bytes f xs i x lt is = ap (λ ys. length (member_spellings (map f ys))) (from_item xs i x lt is) ∙ one_member (f x) (map f (drop (i + 1) xs))

pub member_bytes_at : (ms : List Member) (i : ℕ) (m : Member) → i < length ms → m ≡ get_or ms i m
    → length (member_spellings (drop i ms)) ≡ member_bytes m + length (member_spellings (drop (i + 1) ms))
member_bytes_at ms i m lt is = ap (λ xs. length (member_spellings xs)) (from_item ms i m lt is) ∙ one_member m (drop (i + 1) ms)

-- the bytes of an object, where its members are those that were counted
pub object_bytes : (ms rest : List Member) (a : ℕ) → rest ≡ [] → a + length (member_spellings rest) ≡ 1 + length (number (length ms)) + length (member_spellings ms) → a ≡ length (spelling (Object ms))
object_bytes ms rest a none counted = let ended = ap (λ xs. length (member_spellings xs)) none in let whole = object_length ms in omega (arith, counted, ended, whole)

pub mapped_bytes : {X : Type 0} (f : X → Member) (xs rest : List X) (a : ℕ) → rest ≡ []
    → a + length (member_spellings (map f rest)) ≡ 1 + length (number (length xs)) + length (member_spellings (map f xs)) → a ≡ length (spelling (Object (map f xs)))
mapped_bytes f xs rest a none counted =
    let ended = ap (λ ys. length (member_spellings (map f ys))) none in
    let whole = object_length (map f xs) in
    let many = ap (λ n. length (number n)) (length-map xs f) in
    omega (arith, counted, ended, whole, many)

-- ---- members one behind another

pub two_members : (m n : Member) → length (member_spellings (m ∷ n ∷ [])) ≡ member_bytes m + member_bytes n
two_members m n = let one = one_member m (n ∷ []) in let two = one_member n [] in omega (arith, one, two)

pub three_members : (m n o : Member) → length (member_spellings (m ∷ n ∷ o ∷ [])) ≡ member_bytes m + member_bytes n + member_bytes o
three_members m n o = let one = one_member m (n ∷ o ∷ []) in let two = two_members n o in omega (arith, one, two)

pub one_alone : (m : Member) → length (member_spellings (m ∷ [])) ≡ member_bytes m
one_alone m = let one = one_member m [] in omega (arith, one)

pub start_bytes : (b : Bundle) → 1 + length (number 8) + length (member_spellings (description_first b)) + length (member_spellings (limits_next b)) + length (member_spellings (servers_next b)) + length (member_spellings (sources_last b))
    ≡ length (spelling (start_tree b))
start_bytes b =
    let whole = object_length (description_first b ++ limits_next b ++ servers_next b ++ sources_last b) in
    let last = more_members (description_first b ++ limits_next b ++ servers_next b) (sources_last b) in
    let servers = more_members (description_first b ++ limits_next b) (servers_next b) in
    let limits = more_members (description_first b) (limits_next b) in
    omega (arith, whole, last, servers, limits)
