-- What a tree in form holds is in form, as the look-ups give it.
use Rattle.std.proofs.Common.{◌≡◌, Bool, true, false, List, [], ◌∷◌, map, cond, Option, None, Some, IfSome, refl, sym, ap, ◌∙◌}
use Rattle.std.specs.Prelude.{ℕ, find, not, option_and_then, unwrap_or}
use Rattle.std.specs.Option.{option_copied, is_some}
use denote.Ref.{Bor}
use Rattle.arz_json.specs.Look.{list_in, member_in, items_at}
use Rattle.arz_json.specs.Tree.{has_form, all_true}
use Rattle.arz_json.specs.declared.Json.{Json}
use Rattle.arz_json.specs.declared.Place.{Place}
use Rattle.arz_json.specs.declared.Token.{Token}
use Rattle.arz_rules.proofs.InForm.{member_form, list_items}
use Rattle.arz_rules.specs.Misses.{are_none}
use Rattle.arz_rules.specs.Place.{least, tokens_in}
use Rattle.arz_bundle.proofs.KindFacts.{left, right, no-lesser}

abbrev pub Formed : Option (Bor Json) → Type 0
Formed o = IfSome o (λ value. has_form value.now ≡ true)

pub child-formed : (name : List ℕ) (tree : Json) (o : Option (Bor Json)) → option_copied o ≡ member_in name tree → has_form tree ≡ true → Formed o
child-formed name tree None e h = tt
child-formed name tree (Some value) e h = member_form name tree value.now (sym e) h

items-by : (o : Option Json) (tree : Json) (name : List ℕ) → member_in name tree ≡ o → has_form tree ≡ true → (p : Option (List Json)) → option_and_then list_in o ≡ p → all_true (map has_form (unwrap_or p [])) ≡ true
items-by o tree name e h None is = refl
items-by None tree name e h (Some js) is = absurd (cc)
items-by (Some k) tree name e h (Some js) is = list_items k js is (member_form name tree k e h)

items-formed : (name : List ℕ) (tree : Json) → has_form tree ≡ true → all_true (map has_form (items_at name tree)) ≡ true
items-formed name tree h = items-by (member_in name tree) tree name refl h (option_and_then list_in (member_in name tree)) refl

one-formed : (b : Bool) (j : Json) (o : Option Json) (k : Json) → cond b (Some j) o ≡ Some k → has_form j ≡ true → (o ≡ Some k → has_form k ≡ true) → has_form k ≡ true
one-formed true j o k e h more = ap has_form (sym (same j k e)) ∙ h
  where
    same : (a b : Json) → Some a ≡ Some b → a ≡ b
    same a b e = cc
one-formed false j o k e h more = more e

found-formed : (test : Json → Bool) (js : List Json) (k : Json) → all_true (map has_form js) ≡ true → find test js ≡ Some k → has_form k ≡ true
found-formed test [] k h e = absurd (cc)
found-formed test (j ∷ js) k h e =
    one-formed (test j) j (find test js) k e (left (has_form j) (all_true (map has_form js)) h) (found-formed test js k (right (has_form j) (all_true (map has_form js)) h))

-- what is found among the items under a name
pub find-formed : (test : Json → Bool) (name : List ℕ) (tree : Json) (o : Option (Bor Json)) → option_copied o ≡ find test (items_at name tree) → has_form tree ≡ true → Formed o
find-formed test name tree None e h = tt
find-formed test name tree (Some value) e h = found-formed test (items_at name tree) value.now (items-formed name tree h) (sym e)

-- whether no place was found, where there is none
pub none-found : (o : Option Place) (ps : List (List Token)) (b : Bool) → is_some o ≡ not b → tokens_in o ≡ least ps → b ≡ are_none ps
none-found None [] true is e = refl
none-found None ps false is e = absurd (cc)
none-found None (p ∷ ps) true is e = absurd (no-lesser p (least ps) (sym e))
none-found (Some place) [] b is e = absurd (cc)
none-found (Some place) (p ∷ ps) false is e = refl
none-found (Some place) (p ∷ ps) true is e = absurd (cc)
