-- One item more.
use Rattle.std.proofs.Common.{◌≡◌, ℕ, suc, ◌+◌, ◌<◌, List, [], ◌∷◌, ◌++◌, length, get_or, take, Option, refl, sym, ap, ap₂, ◌∙◌, arith, append_assoc}
use Rattle.std.proofs.lemmas.List.{take_more, length-take-le}
use Rattle.arz_json.specs.declared.tree.Json.{Json}
use Rattle.arz_json.specs.declared.place.Token.TheVariants.{Name, Index}
use Rattle.arz_rules.specs.Place.{under}
use Rattle.arz_rules.specs.Phases.{Failure}
use Rattle.arz_rules.specs.Sites.{Check, in_items}
use Rattle.arz_json.specs.Look.{items_at}
use Rattle.arz_sources.specs.Rules.{at_items}
use Rattle.arz_sources.specs.Failures.{first_of, lesser_failure, under_failure}
use Rattle.arz_sources.proofs.Firsts.{first-joined, first-under}

append-nil : {A : Type 0} (xs : List A) → xs ++ [] ≡ xs
append-nil [] = refl
append-nil (x ∷ xs) = ap (λ ys. x ∷ ys) (append-nil xs)

in_items-last : (check : Check) (k n : ℕ) (js : List Json) (j : Json) → k + length js ≡ n → in_items check k (js ++ j ∷ []) ≡ in_items check k js ++ under (Index n) (check j)
in_items-last check k n [] j h =
    let e : k ≡ n = omega arith in
    append-nil (under (Index k) (check j)) ∙ ap (λ m. under (Index m) (check j)) e
in_items-last check k n (i ∷ js) j h =
    let e : suc k + length js ≡ n = omega arith in
    ap (λ ps. under (Index k) (check i) ++ ps) (in_items-last check (suc k) n js j e)
    ∙ sym (append_assoc (under (Index k) (check i)) (in_items check (suc k) js) (under (Index n) (check j)))

items_more : (check : Check) (js : List Json) (i : ℕ) (j : Json) → i < length js → j ≡ get_or js i j → in_items check 0 (take (i + 1) js) ≡ in_items check 0 (take i js) ++ under (Index i) (check j)
items_more check js i j h is =
    let l : length (take i js) ≡ i = length-take-le i js (omega arith) in
    let e : 0 + length (take i js) ≡ i = omega (arith, l) in
    ap (in_items check 0) (take_more js i j h ∙ ap (λ x. take i js ++ x ∷ []) (sym is))
    ∙ in_items-last check 0 i (take i js) j e

-- the first failure at the items of a list, of which each number has a check
pub items_step : (checks : ℕ → Check) (best next found : Option Failure) (js : List Json) (i : ℕ) (j : Json)
    → best ≡ first_of (λ rule. in_items (checks rule) 0 (take i js))
    → i < length js → j ≡ get_or js i j
    → found ≡ first_of (λ rule. checks rule j)
    → next ≡ lesser_failure best (under_failure (Index i) found)
    → next ≡ first_of (λ rule. in_items (checks rule) 0 (take (i + 1) js))
items_step checks best next found js i j before h is f n =
    let more : (rule : ℕ) → in_items (checks rule) 0 (take (i + 1) js) ≡ in_items (checks rule) 0 (take i js) ++ under (Index i) (checks rule j) =
    λ rule. items_more (checks rule) js i j h is in
    let whole : first_of (λ rule. in_items (checks rule) 0 (take (i + 1) js)) ≡ first_of (λ rule. in_items (checks rule) 0 (take i js) ++ under (Index i) (checks rule j)) =
    λ k. first_of (λ rule. more rule k) in
    n ∙ ap₂ (λ (a b : Option Failure). lesser_failure a (under_failure (Index i) b)) before f
    ∙ ap (lesser_failure (first_of (λ rule. in_items (checks rule) 0 (take i js)))) (sym (first-under (Index i) (λ rule. checks rule j)))
    ∙ sym (first-joined (λ rule. in_items (checks rule) 0 (take i js)) (λ rule. under (Index i) (checks rule j)))
    ∙ sym whole

-- the first failure at the items under a name
pub items_under : (name : List ℕ) (checks : ℕ → Check) (j : Json) (items : List Json) (found next : Option Failure)
    → items ≡ items_at name j
    → found ≡ first_of (λ rule. in_items (checks rule) 0 items)
    → next ≡ under_failure (Name name) found
    → next ≡ first_of (λ rule. at_items name (checks rule) j)
items_under name checks j items found next e f n =
    n ∙ ap (under_failure (Name name)) (f ∙ ap (λ (xs : List Json). first_of (λ rule. in_items (checks rule) 0 xs)) e)
    ∙ sym (first-under (Name name) (λ rule. in_items (checks rule) 0 (items_at name j)))
