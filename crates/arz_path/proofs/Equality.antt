-- What filters test is whether both are one tree, with no Opaque inside.
use Rattle.std.proofs.Common.{◌≡◌, ℕ, ℤ, Bool, true, false, ◌&&◌, List, [], ◌∷◌, map, refl, sym, ap, ap₂, ◌∙◌, subst}
use Rattle.std.proofs.lemmas.Slice.Eq.{bytes_eq-Decides}
use Rattle.std.proofs.lemmas.Bool.Decides.{Decides-int_eq}
use Rattle.arz_json.specs.declared.tree.Json.{Json}
use Rattle.arz_json.specs.declared.tree.Json.TheOpen.{Json-F}
use Rattle.arz_json.specs.declared.tree.Json.TheFolds.{fold-roll-Json}
use Rattle.arz_json.specs.declared.tree.Json.TheVariants.{Null, Flag, Int, Text, List as ListOf, Object, Opaque, rolls-Null, rolls-Flag, rolls-Int, rolls-Text, rolls-List, rolls-Object, rolls-Opaque}
use Rattle.arz_json.specs.declared.tree.Json.TheViews.{roll-Json, out-Json, roll-out-Json, out-roll-Json}
use Rattle.arz_json.specs.declared.tree.Member.{Member}
use Rattle.arz_json.specs.Tree.{IsSame, has_opaque, opaque_step, member_step, some_true}
use Rattle.arz_json.proofs.Layers.{folded-List, folded-Object, has_opaque_object}
use Rattle.arz_json.proofs.Induction.{Each, EachValue, Levels, induction}
use Rattle.arz_path.specs.Values.{is_same, same_step, same_in, same_member, all_pass, is_pair}

-- a tree is the same as itself, unless an Opaque is inside, and as no other
record Tests (x : Json) : Type 0 where
  pub itself : has_opaque x ≡ false → is_same x x ≡ true
  pub other : (y : Json) → is_same x y ≡ true → IsSame x y

left : (a b : Bool) → (a && b) ≡ true → a ≡ true
left true b p = refl
left false b p = p

right : (a b : Bool) → (a && b) ≡ true → b ≡ true
right true b p = p
right false b p = absurd (cc)

both : (a b : Bool) → a ≡ true → b ≡ true → (a && b) ≡ true
both true b p q = q
both false b p q = p

-- a level of the one as the tree of the other
from_layer : (layer : Json-F Json Member) (y : Json) → out-Json y ≡ layer → roll-Json layer ≡ y
from_layer layer y e = ap roll-Json (sym e) ∙ roll-out-Json y

at : (layer : Json-F (Json → Bool) (List ℕ × (Json → Bool))) (x y : Json) → is_same x ≡ same_step layer → is_same x y ≡ same_in layer (out-Json y)
at layer x y e = ap (λ (f : Json → Bool). f y) e

-- ---- kinds with nothing inside

same-Null : is_same Null ≡ same_step Json-F.Null
same-Null = ap is_same (sym rolls-Null) ∙ fold-roll-Json (Json → Bool) (List ℕ × (Json → Bool)) same_step same_member Json-F.Null

same-Flag : (b : Bool) → is_same (Flag b) ≡ same_step (Json-F.Flag b)
same-Flag b = ap is_same (sym (rolls-Flag b)) ∙ fold-roll-Json (Json → Bool) (List ℕ × (Json → Bool)) same_step same_member (Json-F.Flag b)

pub same-Int : (z : ℤ) → is_same (Int z) ≡ same_step (Json-F.Int z)
same-Int z = ap is_same (sym (rolls-Int z)) ∙ fold-roll-Json (Json → Bool) (List ℕ × (Json → Bool)) same_step same_member (Json-F.Int z)

same-Text : (s : List ℕ) → is_same (Text s) ≡ same_step (Json-F.Text s)
same-Text s = ap is_same (sym (rolls-Text s)) ∙ fold-roll-Json (Json → Bool) (List ℕ × (Json → Bool)) same_step same_member (Json-F.Text s)

same-Opaque : is_same Opaque ≡ same_step Json-F.Opaque
same-Opaque = ap is_same (sym rolls-Opaque) ∙ fold-roll-Json (Json → Bool) (List ℕ × (Json → Bool)) same_step same_member Json-F.Opaque

-- what a level says of a level
null_layer : (d : Json-F Json Member) → same_in Json-F.Null d ≡ true → d ≡ Json-F.Null
null_layer Json-F.Null h = refl
null_layer (Json-F.Flag b) h = absurd (cc)
null_layer (Json-F.Int z) h = absurd (cc)
null_layer (Json-F.Text s) h = absurd (cc)
null_layer (Json-F.List js) h = absurd (cc)
null_layer (Json-F.Object ms) h = absurd (cc)
null_layer Json-F.Opaque h = absurd (cc)

flag_same : (b c : Bool) → same_in (Json-F.Flag b) (Json-F.Flag c) ≡ true → c ≡ b
flag_same true true h = refl
flag_same true false h = absurd (cc)
flag_same false true h = absurd (cc)
flag_same false false h = refl

flag_itself : (b : Bool) → same_in (Json-F.Flag b) (Json-F.Flag b) ≡ true
flag_itself true = refl
flag_itself false = refl

flag_layer : (b : Bool) (d : Json-F Json Member) → same_in (Json-F.Flag b) d ≡ true → d ≡ Json-F.Flag b
flag_layer b Json-F.Null h = absurd (cc)
flag_layer b (Json-F.Flag c) h = ap (λ a. Json-F.Flag a) (flag_same b c h)
flag_layer b (Json-F.Int z) h = absurd (cc)
flag_layer b (Json-F.Text s) h = absurd (cc)
flag_layer b (Json-F.List js) h = absurd (cc)
flag_layer b (Json-F.Object ms) h = absurd (cc)
flag_layer b Json-F.Opaque h = absurd (cc)

int_layer : (w : ℤ) (d : Json-F Json Member) → same_in (Json-F.Int w) d ≡ true → d ≡ Json-F.Int w
int_layer w Json-F.Null h = absurd (cc)
int_layer w (Json-F.Flag c) h = absurd (cc)
int_layer w (Json-F.Int z) h = ap (λ a. Json-F.Int a) (sym ((Decides-int_eq w z).0 h))
int_layer w (Json-F.Text s) h = absurd (cc)
int_layer w (Json-F.List js) h = absurd (cc)
int_layer w (Json-F.Object ms) h = absurd (cc)
int_layer w Json-F.Opaque h = absurd (cc)

text_layer : (t : List ℕ) (d : Json-F Json Member) → same_in (Json-F.Text t) d ≡ true → d ≡ Json-F.Text t
text_layer t Json-F.Null h = absurd (cc)
text_layer t (Json-F.Flag c) h = absurd (cc)
text_layer t (Json-F.Int z) h = absurd (cc)
text_layer t (Json-F.Text s) h = ap (λ a. Json-F.Text a) (sym ((bytes_eq-Decides t s).0 h))
text_layer t (Json-F.List js) h = absurd (cc)
text_layer t (Json-F.Object ms) h = absurd (cc)
text_layer t Json-F.Opaque h = absurd (cc)

opaque_layer : (d : Json-F Json Member) → same_in Json-F.Opaque d ≡ true → ⊥
opaque_layer Json-F.Null h = cc
opaque_layer (Json-F.Flag c) h = cc
opaque_layer (Json-F.Int z) h = cc
opaque_layer (Json-F.Text s) h = cc
opaque_layer (Json-F.List js) h = cc
opaque_layer (Json-F.Object ms) h = cc
opaque_layer Json-F.Opaque h = cc

-- ---- items and members

list_layer : (js : List Json) → Each Tests js → (d : Json-F Json Member) → same_in (Json-F.List (map is_same js)) d ≡ true → (d ≡ Json-F.List js) × (some_true (map has_opaque js) ≡ false)
list_layer js each Json-F.Null h = absurd (cc)
list_layer js each (Json-F.Flag c) h = absurd (cc)
list_layer js each (Json-F.Int z) h = absurd (cc)
list_layer js each (Json-F.Text s) h = absurd (cc)
list_layer js each (Json-F.List ks) h = let r = items js ks each h in (ap (λ a. Json-F.List a) (sym r.0), r.1)
  where
    items : (js ks : List Json) → Each Tests js → all_pass (λ (t : Json → Bool) j. t j) (map is_same js) ks ≡ true → (js ≡ ks) × (some_true (map has_opaque js) ≡ false)
    items [] [] each h = (refl, refl)
    items [] (k ∷ ks) each h = absurd (cc)
    items (j ∷ js) [] each h = absurd (cc)
    items (j ∷ js) (k ∷ ks) each h =
        let one = each.0.other k (left _ _ h) in
        let rest = items js ks each.1 (right _ _ h) in
        (ap₂ (λ (x : Json) (xs : List Json). x ∷ xs) one.0 rest.0, subst (λ b. some_true (b ∷ map has_opaque js) ≡ false) (sym one.1) rest.1)
list_layer js each (Json-F.Object ms) h = absurd (cc)
list_layer js each Json-F.Opaque h = absurd (cc)

list_itself : (js : List Json) → Each Tests js → some_true (map has_opaque js) ≡ false → all_pass (λ (t : Json → Bool) j. t j) (map is_same js) js ≡ true
list_itself [] each h = refl
list_itself (j ∷ js) each h = part (has_opaque j) refl h (list_itself js each.1)
  where
    part : (b : Bool) → has_opaque j ≡ b → some_true (b ∷ map has_opaque js) ≡ false →
        (some_true (map has_opaque js) ≡ false → all_pass (λ (t : Json → Bool) j. t j) (map is_same js) js ≡ true) →
        (is_same j j && all_pass (λ (t : Json → Bool) j. t j) (map is_same js) js) ≡ true
    part true e p rest = absurd (cc)
    part false e p rest = both _ _ (each.0.itself e) (rest p)

abbrev pair_test : Member → List ℕ × (Json → Bool)
pair_test m = (m.name, is_same m.value)

members_one : (ms ns : List Member) → EachValue Tests ms → all_pass is_pair (map pair_test ms) ns ≡ true → (ms ≡ ns) × (some_true (map (λ m. has_opaque m.value) ms) ≡ false)
members_one [] [] each h = (refl, refl)
members_one [] (n ∷ ns) each h = absurd (cc)
members_one (m ∷ ms) [] each h = absurd (cc)
members_one (m ∷ ms) (n ∷ ns) each h =
    let here = left _ _ h in
    let name = (bytes_eq-Decides m.name n.name).0 (left _ _ here) in
    let one = each.0.other n.value (right _ _ here) in
    let rest = members_one ms ns each.1 (right _ _ h) in
    let same : m ≡ n = ap₂ (λ (k : List ℕ) (j : Json). let r : Member = record { name = k; value = j } in r) name one.0 in
    (ap₂ (λ (x : Member) (xs : List Member). x ∷ xs) same rest.0, subst (λ b. some_true (b ∷ map (λ m. has_opaque m.value) ms) ≡ false) (sym one.1) rest.1)

members_itself : (ms : List Member) → EachValue Tests ms → some_true (map (λ m. has_opaque m.value) ms) ≡ false → all_pass is_pair (map pair_test ms) ms ≡ true
members_itself [] each h = refl
members_itself (m ∷ ms) each h = part (has_opaque m.value) refl h (members_itself ms each.1)
  where
    part : (b : Bool) → has_opaque m.value ≡ b → some_true (b ∷ map (λ m. has_opaque m.value) ms) ≡ false →
        (some_true (map (λ m. has_opaque m.value) ms) ≡ false → all_pass is_pair (map pair_test ms) ms ≡ true) →
        (is_pair (pair_test m) m && all_pass is_pair (map pair_test ms) ms) ≡ true
    part true e p rest = absurd (cc)
    part false e p rest = both _ _ (both _ _ ((bytes_eq-Decides m.name m.name).1 refl) (each.0.itself e)) (rest p)

object_layer : (ms : List Member) → EachValue Tests ms → (d : Json-F Json Member) → same_in (Json-F.Object (map pair_test ms)) d ≡ true → (d ≡ Json-F.Object ms) × (some_true (map (λ m. has_opaque m.value) ms) ≡ false)
object_layer ms each Json-F.Null h = absurd (cc)
object_layer ms each (Json-F.Flag c) h = absurd (cc)
object_layer ms each (Json-F.Int z) h = absurd (cc)
object_layer ms each (Json-F.Text s) h = absurd (cc)
object_layer ms each (Json-F.List js) h = absurd (cc)
object_layer ms each (Json-F.Object ns) h = let r = members_one ms ns each h in (ap (λ a. Json-F.Object a) (sym r.0), r.1)
object_layer ms each Json-F.Opaque h = absurd (cc)

-- ---- each kind

opaque-Null : has_opaque Null ≡ false
opaque-Null = ap has_opaque (sym rolls-Null) ∙ fold-roll-Json Bool (List ℕ × Bool) opaque_step member_step Json-F.Null

opaque-Flag : (b : Bool) → has_opaque (Flag b) ≡ false
opaque-Flag b = ap has_opaque (sym (rolls-Flag b)) ∙ fold-roll-Json Bool (List ℕ × Bool) opaque_step member_step (Json-F.Flag b)

opaque-Int : (z : ℤ) → has_opaque (Int z) ≡ false
opaque-Int z = ap has_opaque (sym (rolls-Int z)) ∙ fold-roll-Json Bool (List ℕ × Bool) opaque_step member_step (Json-F.Int z)

opaque-Text : (s : List ℕ) → has_opaque (Text s) ≡ false
opaque-Text s = ap has_opaque (sym (rolls-Text s)) ∙ fold-roll-Json Bool (List ℕ × Bool) opaque_step member_step (Json-F.Text s)

opaque-List : (js : List Json) → has_opaque (ListOf js) ≡ some_true (map has_opaque js)
opaque-List js = folded-List Bool opaque_step js

same-List : (js : List Json) → is_same (ListOf js) ≡ same_step (Json-F.List (map is_same js))
same-List js = folded-List (Json → Bool) same_step js

same-Object : (ms : List Member) → is_same (Object ms) ≡ same_step (Json-F.Object (map pair_test ms))
same-Object ms = folded-Object (Json → Bool) same_step ms

-- a level that is the same gives a tree that is the same
tree_one : (layer : Json-F Json Member) (x y : Json) → roll-Json layer ≡ x → out-Json y ≡ layer → has_opaque x ≡ false → IsSame x y
tree_one layer x y e h o = (sym e ∙ from_layer layer y h, o)

at_itself : (t : Json-F (Json → Bool) (List ℕ × (Json → Bool))) (layer : Json-F Json Member) (x : Json) → is_same x ≡ same_step t → roll-Json layer ≡ x → same_in t layer ≡ true → is_same x x ≡ true
at_itself t layer x e r h = at t x x e ∙ ap (same_in t) (ap out-Json (sym r) ∙ out-roll-Json layer) ∙ h

levels : Levels Tests
levels = record {
  null = record { itself = λ o. at_itself Json-F.Null Json-F.Null Null same-Null rolls-Null refl; other = λ y h. tree_one Json-F.Null Null y rolls-Null (null_layer (out-Json y) (sym (at Json-F.Null Null y same-Null) ∙ h)) opaque-Null };
  flag = λ b. record { itself = λ o. at_itself (Json-F.Flag b) (Json-F.Flag b) (Flag b) (same-Flag b) (rolls-Flag b) (flag_itself b); other = λ y h. tree_one (Json-F.Flag b) (Flag b) y (rolls-Flag b) (flag_layer b (out-Json y) (sym (at (Json-F.Flag b) (Flag b) y (same-Flag b)) ∙ h)) (opaque-Flag b) };
  int = λ z. record { itself = λ o. at_itself (Json-F.Int z) (Json-F.Int z) (Int z) (same-Int z) (rolls-Int z) ((Decides-int_eq z z).1 refl); other = λ y h. tree_one (Json-F.Int z) (Int z) y (rolls-Int z) (int_layer z (out-Json y) (sym (at (Json-F.Int z) (Int z) y (same-Int z)) ∙ h)) (opaque-Int z) };
  text = λ s. record { itself = λ o. at_itself (Json-F.Text s) (Json-F.Text s) (Text s) (same-Text s) (rolls-Text s) ((bytes_eq-Decides s s).1 refl); other = λ y h. tree_one (Json-F.Text s) (Text s) y (rolls-Text s) (text_layer s (out-Json y) (sym (at (Json-F.Text s) (Text s) y (same-Text s)) ∙ h)) (opaque-Text s) };
  list = λ js each. record {
    itself = λ o. at_itself (Json-F.List (map is_same js)) (Json-F.List js) (ListOf js) (same-List js) (rolls-List js) (list_itself js each (sym (opaque-List js) ∙ o));
    other = λ y h. let r = list_layer js each (out-Json y) (sym (at (Json-F.List (map is_same js)) (ListOf js) y (same-List js)) ∙ h) in tree_one (Json-F.List js) (ListOf js) y (rolls-List js) r.0 (opaque-List js ∙ r.1);
  };
  object = λ ms each. record {
    itself = λ o. at_itself (Json-F.Object (map pair_test ms)) (Json-F.Object ms) (Object ms) (same-Object ms) (rolls-Object ms) (members_itself ms each (sym (has_opaque_object ms) ∙ o));
    other = λ y h. let r = object_layer ms each (out-Json y) (sym (at (Json-F.Object (map pair_test ms)) (Object ms) y (same-Object ms)) ∙ h) in tree_one (Json-F.Object ms) (Object ms) y (rolls-Object ms) r.0 (has_opaque_object ms ∙ r.1);
  };
  opaque = record { itself = λ o. absurd (is_opaque o); other = λ y h. absurd (opaque_layer (out-Json y) (sym (at Json-F.Opaque Opaque y same-Opaque) ∙ h)) };
}
  where
    is_opaque : has_opaque Opaque ≡ false → ⊥
    is_opaque o = let e : true ≡ false = sym (ap has_opaque (sym rolls-Opaque) ∙ fold-roll-Json Bool (List ℕ × Bool) opaque_step member_step Json-F.Opaque) ∙ o in cc

pub is_same_if : (x y : Json) → IsSame x y → is_same x y ≡ true
is_same_if x y h = subst (λ z. is_same x z ≡ true) h.0 ((induction Tests levels x).itself h.1)

pub only_if_same : (x y : Json) → is_same x y ≡ true → IsSame x y
only_if_same x y h = (induction Tests levels x).other y h
