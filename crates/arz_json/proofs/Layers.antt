-- A fold of a tree, a level at a time.
use Rattle.std.proofs.Common.{◌≡◌, ℕ, Bool, true, false, ◌&&◌, List, [], ◌∷◌, map, refl, sym, ap, ap₂, ◌∙◌}
use Rattle.serde_json.specs.Data as serde
use Rattle.serde_json.specs.View.{items_of}
use Rattle.arz_json.specs.Writing.{data_of, data_step, named_values}
use Rattle.arz_json.specs.Tree.{are_ordered, is_below_first, member_step, values_of, has_opaque, all_true, some_true, has_form, form_step, IsSame, HaveSame}
use Rattle.arz_json.specs.declared.tree.Json.{Json}
use Rattle.arz_json.specs.declared.tree.Json.TheOpen.{Json-F}
use Rattle.arz_json.specs.declared.tree.Json.TheFolds.{fold-Json, fold-Member, fold-roll-Json, fold_out-Member}
use Rattle.arz_json.specs.declared.tree.Json.TheVariants.{List as ListOf, Object, rolls-List, rolls-Object}
use Rattle.arz_json.specs.declared.tree.Json.TheViews.{out-Json, outs-Object}
use Rattle.arz_json.specs.declared.tree.Member.{Member}

module _ (A : Type 0) (step : Json-F A (List ℕ × A) → A) where
  abbrev pub folded : Json → A
  folded = fold-Json A (List ℕ × A) step member_step

  abbrev pub pair_of : Member → List ℕ × A
  pair_of m = (m.name, folded m.value)

  pub folded-List : (js : List Json) → folded (ListOf js) ≡ step (Json-F.List (map folded js))
  folded-List js = ap folded (sym (rolls-List js)) ∙ fold-roll-Json A (List ℕ × A) step member_step (Json-F.List js)

  pairs : (ms : List Member) → map (fold-Member A (List ℕ × A) step member_step) ms ≡ map pair_of ms
  pairs [] = refl
  pairs (m ∷ ms) = ap₂ (λ (x : List ℕ × A) (xs : List (List ℕ × A)). x ∷ xs) (fold_out-Member A (List ℕ × A) step member_step m) (pairs ms)

  pub folded-Object : (ms : List Member) → folded (Object ms) ≡ step (Json-F.Object (map pair_of ms))
  folded-Object ms = ap folded (sym (rolls-Object ms)) ∙ fold-roll-Json A (List ℕ × A) step member_step (Json-F.Object ms) ∙ ap (λ (xs : List (List ℕ × A)). step (Json-F.Object xs)) (pairs ms)

  pub values_of-map : (ms : List Member) → values_of (map pair_of ms) ≡ map (λ m. folded m.value) ms
  values_of-map [] = refl
  values_of-map (m ∷ ms) = ap (λ more. folded m.value ∷ more) (values_of-map ms)

pub has_opaque_object : (ms : List Member) → has_opaque (Object ms) ≡ some_true (map (λ m. has_opaque m.value) ms)
has_opaque_object ms = folded-Object Bool _ ms ∙ ap some_true (values_of-map Bool _ ms)

right : (a b : Bool) → (a && b) ≡ true → b ≡ true
right true b p = p
right false b p = absurd (cc)

-- the members of a tree in form are in form
pub members_form : (ms : List Member) → has_form (Object ms) ≡ true → all_true (map (λ m. has_form m.value) ms) ≡ true
members_form ms e = sym (ap all_true (values_of-map Bool form_step ms)) ∙ right _ _ (sym (folded-Object Bool form_step ms) ∙ e)

pub data_of_list : (js : List Json) → data_of (ListOf js) ≡ serde.array (items_of (map data_of js))
data_of_list js = folded-List serde.Data data_step js

pub data_of_object : (ms : List Member) → data_of (Object ms) ≡ serde.object (named_values (map (λ m. (m.name, data_of m.value)) ms))
data_of_object ms = folded-Object serde.Data data_step ms

is_below_first-name : (A B : Type 0) (f : Json → A) (g : Json → B) (k : List ℕ) (ms : List Member) → is_below_first k (map (λ m. (m.name, f m.value)) ms) ≡ is_below_first k (map (λ m. (m.name, g m.value)) ms)
is_below_first-name A B f g k [] = refl
is_below_first-name A B f g k (m ∷ ms) = refl

-- the order of members is that of their names, whatever stands beside them
pub are_ordered-names : (A B : Type 0) (f : Json → A) (g : Json → B) (ms : List Member) → are_ordered (map (λ m. (m.name, f m.value)) ms) ≡ are_ordered (map (λ m. (m.name, g m.value)) ms)
are_ordered-names A B f g [] = refl
are_ordered-names A B f g (m ∷ ms) = ap₂ (λ a b. a && b) (is_below_first-name A B f g m.name ms) (are_ordered-names A B f g ms)

left : (a b : Bool) → (a && b) ≡ true → a ≡ true
left true b p = refl
left false b p = p

pub members_order : (ms : List Member) → has_form (Object ms) ≡ true → are_ordered (map (λ m. (m.name, data_of m.value)) ms) ≡ true
members_order ms e = are_ordered-names serde.Data Bool data_of has_form ms ∙ left _ _ (sym (folded-Object Bool form_step ms) ∙ e)

-- ---- Objects are one where their members are

Object-injective : (a b : List Member) → Object a ≡ Object b → a ≡ b
Object-injective a b e = let opened : Json-F.Object a ≡ Json-F.Object b = sym (outs-Object a) ∙ ap out-Json e ∙ outs-Object b in cc

pub IsSame-Object : (a b : List Member) → HaveSame a b → IsSame (Object a) (Object b)
IsSame-Object a b h = (ap Object h.0, has_opaque_object a ∙ h.1)

pub HaveSame-Object : (a b : List Member) → IsSame (Object a) (Object b) → HaveSame a b
HaveSame-Object a b h = (Object-injective a b h.0, sym (has_opaque_object a) ∙ h.1)
