-- The first target that is no query, and its place.
use Rattle.std.proofs.Common.{◌≡◌, ℕ, suc, ◌+◌, ◌<◌, List, [], ◌∷◌, ◌++◌, map, length, drop, get_or, Bool, true, false, cond, Option, Some, None, option_map, Ok, Err, refl, sym, ap, ◌∙◌, add-one, arith}
use Rattle.std.specs.Prelude.{codes, unwrap_or, option_and_then}
use Rattle.std.specs.Cmp.{nat_cmp_is}
use Rattle.std.specs.declared.cmp.Ordering.TheVariants.{Less}
use Rattle.std.specs.Ordering.{is_gt, ordering_then}
use Rattle.arz_json.specs.Look.{list_in, member_in, items_at}
use Rattle.arz_json.specs.Tree.{has_form, all_true}
use Rattle.arz_json.specs.declared.tree.Json.{Json}
use Rattle.arz_json.specs.declared.place.Token.{Token}
use Rattle.arz_json.specs.declared.place.Token.TheVariants.{Name, Index}
use Rattle.arz_rules.specs.Phases.{failure_or, told_or, refusal}
use Rattle.arz_rules.specs.Place.{least, lesser, under, tokens_cmp}
use Rattle.arz_rules.specs.Sites.{Check, in_items}
use Rattle.arz_rules.proofs.InForm.{list_items, member_form}
use Rattle.arz_rules.proofs.Places.{least-append, least-under, lesser_grouped}
use Rattle.arz_overlay.specs.Applied.{targets}
use Rattle.arz_overlay.specs.Documents.{target_of, is_query, bad_target}
use Rattle.arz_changes.proofs.Lists.{drop_at}

before_item : (k i : ℕ) (p : List Token) (o : Option (List Token)) → k < i → lesser (Some (Index k ∷ p)) (option_map (λ q. Index i ∷ q) o) ≡ Some (Index k ∷ p)
before_item k i p None h = refl
before_item k i p (Some q) h =
    ap (λ o. cond (is_gt (ordering_then o (tokens_cmp p q))) (Some (Index i ∷ q)) (Some (Index k ∷ p))) (sym (nat_cmp_is k i Less h))

-- a place in an item comes before those in later items
before_items : (check : Check) (k i : ℕ) (p : List Token) (js : List Json) → k < i → lesser (Some (Index k ∷ p)) (least (in_items check i js)) ≡ Some (Index k ∷ p)
before_items check k i p [] h = refl
before_items check k i p (j ∷ js) h =
    let here : Option (List Token) = least (under (Index i) (check j)) in
    ap (lesser (Some (Index k ∷ p))) (least-append (under (Index i) (check j)) (in_items check (suc i) js))
    ∙ sym (lesser_grouped (Some (Index k ∷ p)) here (least (in_items check (suc i) js)))
    ∙ ap (λ o. lesser o (least (in_items check (suc i) js))) (ap (lesser (Some (Index k ∷ p))) (least-under (Index i) (check j)) ∙ before_item k i p (least (check j)) h)
    ∙ before_items check k (suc i) p js (omega arith)

-- no target is bad up to the next one
pub none_bad : (actions : List Json) (i : ℕ) (a : Json) → i < length actions → a ≡ get_or actions i a → is_query (target_of a) ≡ true
    → in_items bad_target i (drop i actions) ≡ in_items bad_target (i + 1) (drop (i + 1) actions)
none_bad actions i a less is h =
    ap (in_items bad_target i) (drop_at actions i a less is)
    ∙ ap (λ b. under (Index i) (cond b [] ((Name (codes "target") ∷ []) ∷ [])) ++ in_items bad_target (suc i) (drop (i + 1) actions)) h
    ∙ ap (λ n. in_items bad_target n (drop (i + 1) actions)) (sym (add-one i))

abbrev pub target_place : ℕ → List Token
target_place i = Name (codes "actions") ∷ Index i ∷ Name (codes "target") ∷ []

pub first_bad : (label : List ℕ) (actions : List Json) (i : ℕ) (a : Json) → i < length actions → a ≡ get_or actions i a → is_query (target_of a) ≡ false
    → in_items bad_target 0 actions ≡ in_items bad_target i (drop i actions) → targets label actions ≡ Err (refusal label (15, target_place i))
first_bad label actions i a less is h so_far =
    let p : List Token = Index i ∷ Name (codes "target") ∷ [] in
    let rest = in_items bad_target (suc i) (drop (i + 1) actions) in
    let all : in_items bad_target 0 actions ≡ p ∷ rest =
    so_far ∙ ap (in_items bad_target i) (drop_at actions i a less is) ∙ ap (λ b. under (Index i) (cond b [] ((Name (codes "target") ∷ []) ∷ [])) ++ rest) h in
    let first : least (in_items bad_target 0 actions) ≡ Some p = ap least all ∙ before_items bad_target i (suc i) _ (drop (i + 1) actions) (omega arith) in
    ap (λ o. told_or label (failure_or 15 o None) (Ok (map target_of actions))) (least-under (Name (codes "actions")) (in_items bad_target 0 actions) ∙ ap (option_map (λ q. Name (codes "actions") ∷ q)) first)

pub all_good : (label : List ℕ) (actions : List Json) → in_items bad_target 0 actions ≡ [] → targets label actions ≡ Ok (map target_of actions)
all_good label actions h = ap (λ ps. told_or label (failure_or 15 (least (under (Name (codes "actions")) ps)) None) (Ok (map target_of actions))) h

pub is_taken : (b : Bool) (t q : List ℕ) → Some q ≡ cond b (Some t) None → (b ≡ true) × (q ≡ t)
is_taken true t q e = (refl, cc)
is_taken false t q e = absurd (cc)

pub not_taken : (b : Bool) (t : List ℕ) → (let none : Option (List ℕ) = None in none ≡ cond b (Some t) None) → b ≡ false
not_taken true t e = absurd (cc)
not_taken false t e = refl

-- ---- the items under a name are in form

items_in_form : (j : Json) (o : Option (List Json)) → list_in j ≡ o → has_form j ≡ true → all_true (map has_form (unwrap_or o [])) ≡ true
items_in_form j None e h = refl
items_in_form j (Some js) e h = list_items j js e h

items_under : (name : List ℕ) (j : Json) (o : Option Json) → member_in name j ≡ o → has_form j ≡ true → all_true (map has_form (unwrap_or (option_and_then list_in o) [])) ≡ true
items_under name j None e h = refl
items_under name j (Some k) e h = items_in_form k (list_in k) refl (member_form name j k e h)

pub items_form_at : (name : List ℕ) (j : Json) → has_form j ≡ true → all_true (map has_form (items_at name j)) ≡ true
items_form_at name j h = items_under name j (member_in name j) refl h
