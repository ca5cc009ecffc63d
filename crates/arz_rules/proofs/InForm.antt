-- What a tree in form holds is in form.
use Rattle.std.proofs.Common.{◌≡◌, ◌&&◌, ℕ, zero, suc, ◌<◌, List, [], ◌∷◌, map, length, get_or, Bool, true, false, Option, Some, None, option_and_then, cond, refl, sym, ap, ◌∙◌, arith}
use Rattle.std.specs.Str.{bytes_eq}
use Rattle.arz_json.specs.Tree.{has_form, all_true, form_step}
use Rattle.arz_json.specs.Look.{list_step, object_step, list_in, object_in, member_in}
use Rattle.arz_json.specs.Pointer.{member_named}
use Rattle.arz_json.specs.declared.tree.Json.{Json, out-Json}
use Rattle.arz_json.specs.declared.tree.Json.TheOpen.{Json-F}
use Rattle.arz_json.specs.declared.tree.Json.TheVariants.{List as ListOf, Object, rolls-List, rolls-Object}
use Rattle.arz_json.specs.declared.tree.Json.TheViews.{roll-Json, roll-out-Json}
use Rattle.arz_json.specs.declared.tree.Member.{Member}
use Rattle.arz_json.proofs.Layers.{folded-List, folded-Object, members_form}
use Rattle.arz_rules.specs.Look.{AreOrdered}

left : (a b : Bool) → (a && b) ≡ true → a ≡ true
left true b p = refl
left false b p = p

right : (a b : Bool) → (a && b) ≡ true → b ≡ true
right true b p = p
right false b p = absurd (cc)

-- an item of a list, and a member's value
pub item_form : (js : List Json) (i : ℕ) (d : Json) → all_true (map has_form js) ≡ true → i < length js → has_form (get_or js i d) ≡ true
item_form [] i d h l = absurd (omega arith)
item_form (j ∷ js) zero d h l = left (has_form j) (all_true (map has_form js)) h
item_form (j ∷ js) (suc i) d h l = item_form js i d (right (has_form j) (all_true (map has_form js)) h) (omega arith)

pub value_form : (ms : List Member) (i : ℕ) (d : Member) → all_true (map (λ m. has_form m.value) ms) ≡ true → i < length ms → has_form (get_or ms i d).value ≡ true
value_form [] i d h l = absurd (omega arith)
value_form (m ∷ ms) zero d h l = left (has_form m.value) (all_true (map (λ m. has_form m.value) ms)) h
value_form (m ∷ ms) (suc i) d h l = value_form ms i d (right (has_form m.value) (all_true (map (λ m. has_form m.value) ms)) h) (omega arith)

-- the value of the member with a name
named_at : (b : Bool) (m : Member) (ms : List Member) (name : List ℕ) (k : Json) → cond b (Some m.value) (member_named ms name) ≡ Some k → has_form m.value ≡ true
    → (member_named ms name ≡ Some k → has_form k ≡ true) → has_form k ≡ true
named_at true m ms name k e h more = ap has_form (sym (some_same m.value k e)) ∙ h
  where
    some_same : (j k : Json) → Some j ≡ Some k → j ≡ k
    some_same j k e = cc
named_at false m ms name k e h more = more e

pub named_form : (ms : List Member) (name : List ℕ) (k : Json) → all_true (map (λ m. has_form m.value) ms) ≡ true → member_named ms name ≡ Some k → has_form k ≡ true
named_form [] name k h e = absurd (cc)
named_form (m ∷ ms) name k h e =
    named_at (bytes_eq m.name name) m ms name k e (left (has_form m.value) (all_true (map (λ m. has_form m.value) ms)) h)
    (named_form ms name k (right (has_form m.value) (all_true (map (λ m. has_form m.value) ms)) h))

pub object_order : (ms : List Member) → has_form (Object ms) ≡ true → AreOrdered ms
object_order ms h = left _ _ (sym (folded-Object Bool form_step ms) ∙ h)

-- the members of an object, and the items of a list
members_at : (j : Json) (ms : List Member) (x : Json-F Json Member) → out-Json j ≡ x → object_step x ≡ Some ms → j ≡ Object ms
members_at j ms (Json-F.Object ns) e s = sym (roll-out-Json j) ∙ ap roll-Json e ∙ rolls-Object ns ∙ ap Object (some_same ns ms s)
  where
    some_same : (a b : List Member) → Some a ≡ Some b → a ≡ b
    some_same a b e = cc
members_at j ms (Json-F.List js) e s = absurd (cc)
members_at j ms Json-F.Null e s = absurd (cc)
members_at j ms (Json-F.Flag b) e s = absurd (cc)
members_at j ms (Json-F.Int z) e s = absurd (cc)
members_at j ms (Json-F.Text t) e s = absurd (cc)
members_at j ms Json-F.Opaque e s = absurd (cc)

pub object_members : (j : Json) (ms : List Member) → object_in j ≡ Some ms → has_form j ≡ true → all_true (map (λ m. has_form m.value) ms) ≡ true
object_members j ms e h = members_form ms (ap has_form (sym (members_at j ms (out-Json j) refl e)) ∙ h)

items_at : (j : Json) (js : List Json) (x : Json-F Json Member) → out-Json j ≡ x → list_step x ≡ Some js → j ≡ ListOf js
items_at j js (Json-F.List ks) e s = sym (roll-out-Json j) ∙ ap roll-Json e ∙ rolls-List ks ∙ ap ListOf (some_same ks js s)
  where
    some_same : (a b : List Json) → Some a ≡ Some b → a ≡ b
    some_same a b e = cc
items_at j js (Json-F.Object ns) e s = absurd (cc)
items_at j js Json-F.Null e s = absurd (cc)
items_at j js (Json-F.Flag b) e s = absurd (cc)
items_at j js (Json-F.Int z) e s = absurd (cc)
items_at j js (Json-F.Text t) e s = absurd (cc)
items_at j js Json-F.Opaque e s = absurd (cc)

pub list_items : (j : Json) (js : List Json) → list_in j ≡ Some js → has_form j ≡ true → all_true (map has_form js) ≡ true
list_items j js e h = sym (folded-List Bool form_step js) ∙ ap has_form (sym (items_at j js (out-Json j) refl e)) ∙ h

member_at : (name : List ℕ) (j k : Json) (o : Option (List Member)) → object_in j ≡ o → option_and_then (λ ms. member_named ms name) o ≡ Some k → has_form j ≡ true → has_form k ≡ true
member_at name j k None e s h = absurd (cc)
member_at name j k (Some ms) e s h = named_form ms name k (object_members j ms e h) s

-- the value that stands in an object under a name
pub member_form : (name : List ℕ) (j k : Json) → member_in name j ≡ Some k → has_form j ≡ true → has_form k ≡ true
member_form name j k e h = member_at name j k (object_in j) refl e h
