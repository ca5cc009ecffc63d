-- What a well-formed tree holds is well-formed.
use Rattle.std.proofs.Common.{◌≡◌, ℕ, zero, suc, ◌≤◌, ◌&&◌, List, [], ◌∷◌, map, Bool, true, false, Some, None, ◌++◌, ◌==◌, option_and_then, find, refl, sym, ap, ◌∙◌, subst, arith}
use Rattle.std.proofs.lemmas.Option.{option_and_then_some, same_Some}
use Rattle.std.specs.Prelude.{slice_get, cond}
use Rattle.std.specs.Str.{bytes_eq}
use Rattle.json.proofs.Found.{Some_inj}
use Rattle.serde_json.specs.Find.{index_of}
use Rattle.arz_json.specs.Tree.{has_form, depth, all_true, largest, form_step, depth_step, max_depth, IsWithin, IsWellFormed}
use Rattle.arz_json.specs.Look.{list_step, object_step, list_in, object_in, member_in}
use Rattle.arz_json.specs.Pointer.{decoded, member_named, step_in, step, walk, named}
use Rattle.arz_json.specs.declared.tree.Json.{Json}
use Rattle.arz_json.specs.declared.tree.Json.TheOpen.{Json-F}
use Rattle.arz_json.specs.declared.tree.Json.TheVariants.{List as ListOf, Object, rolls-List, rolls-Object}
use Rattle.arz_json.specs.declared.tree.Json.TheViews.{out-Json, roll-Json, roll-out-Json}
use Rattle.arz_json.specs.declared.tree.Member.{Member}
use Rattle.arz_json.proofs.Layers.{folded-List, folded-Object, values_of-map, members_form}

left : (a b : Bool) → (a && b) ≡ true → a ≡ true
left true b p = refl
left false b p = p

right : (a b : Bool) → (a && b) ≡ true → b ≡ true
right true b p = p
right false b p = absurd (cc)

-- the tree at a place of a list is in form and no deeper
record Fits (forms : Bool) (deepest : ℕ) (k : Json) : Type 0 where
  form : forms ≡ true → has_form k ≡ true
  nests : depth k ≤ deepest

item_fits : (js : List Json) (i : ℕ) (k : Json) → slice_get js i ≡ Some k → Fits (all_true (map has_form js)) (largest (map depth js)) k
item_fits [] i k e = absurd (cc)
item_fits (j ∷ js) zero k e = let is : j ≡ k = Some_inj j k e in record {
  form = λ h. ap has_form (sym is) ∙ left (has_form j) (all_true (map has_form js)) h;
  nests = omega (arith, ap depth is);
}
item_fits (j ∷ js) (suc i) k e = let more = item_fits js i k e in record {
  form = λ h. more.form (right (has_form j) (all_true (map has_form js)) h);
  nests = omega (arith, more.nests);
}

abbrev values : List Member → List Json
values [] = []
values (m ∷ ms) = m.value ∷ values ms

member_fits_at : (b : Bool) (m : Member) (ms : List Member) (name : List ℕ) (k : Json) → cond b (Some m.value) (member_named ms name) ≡ Some k
    → (member_named ms name ≡ Some k → Fits (all_true (map (λ m. has_form m.value) ms)) (largest (map (λ m. depth m.value) ms)) k)
    → Fits (has_form m.value && all_true (map (λ m. has_form m.value) ms)) (largest (map (λ m. depth m.value) (m ∷ ms))) k
member_fits_at true m ms name k e more = let is : m.value ≡ k = Some_inj m.value k e in record {
  form = λ h. ap has_form (sym is) ∙ left (has_form m.value) (all_true (map (λ m. has_form m.value) ms)) h;
  nests = omega (arith, ap depth is);
}
member_fits_at false m ms name k e more = let rest = more e in record {
  form = λ h. rest.form (right (has_form m.value) (all_true (map (λ m. has_form m.value) ms)) h);
  nests = omega (arith, rest.nests);
}

member_fits : (ms : List Member) (name : List ℕ) (k : Json) → member_named ms name ≡ Some k → Fits (all_true (map (λ m. has_form m.value) ms)) (largest (map (λ m. depth m.value) ms)) k
member_fits [] name k e = absurd (cc)
member_fits (m ∷ ms) name k e = member_fits_at (bytes_eq m.name name) m ms name k e (member_fits ms name k)

module _ (n : ℕ) where
  part : (j : Json) (token : List ℕ) (k : Json) (x : Json-F Json Member) → out-Json j ≡ x → step_in token x ≡ Some k → IsWithin n j → IsWithin n k
  part j token k (Json-F.List js) e s w =
      option_and_then_some (slice_get js) (index_of token) k s (λ i _ got.
      let is : j ≡ ListOf js = sym (roll-out-Json j) ∙ ap roll-Json e ∙ rolls-List js in
      let whole : IsWithin n (ListOf js) = subst (IsWithin n) is w in
      let fits = item_fits js i k got in
      record {
        form = fits.form (sym (folded-List Bool form_step js) ∙ whole.form);
        nests = omega (arith, fits.nests, whole.nests, folded-List ℕ depth_step js);
      })
  part j token k (Json-F.Object ms) e s w =
      option_and_then_some (member_named ms) (decoded token) k s (λ name _ got.
      let is : j ≡ Object ms = sym (roll-out-Json j) ∙ ap roll-Json e ∙ rolls-Object ms in
      let whole : IsWithin n (Object ms) = subst (IsWithin n) is w in
      let fits = member_fits ms name k got in
      record {
        form = fits.form (members_form ms whole.form);
        nests = omega (arith, fits.nests, whole.nests, folded-Object ℕ depth_step ms, ap largest (values_of-map ℕ depth_step ms));
      })
  part j token k Json-F.Null e s w = absurd (cc)
  part j token k (Json-F.Flag b) e s w = absurd (cc)
  part j token k (Json-F.Int z) e s w = absurd (cc)
  part j token k (Json-F.Text t) e s w = absurd (cc)
  part j token k Json-F.Opaque e s w = absurd (cc)

  pub IsWithin-step : (j : Json) (token : List ℕ) (k : Json) → step token j ≡ Some k → IsWithin n j → IsWithin n k
  IsWithin-step j token k s w = part j token k (out-Json j) refl s w

  walked_at : (b : Bool) (token : List ℕ) (x : ℕ) (rest : List ℕ) (j k : Json) → cond b (option_and_then (walk [] rest) (step token j)) (walk (token ++ x ∷ []) rest j) ≡ Some k → IsWithin n j
      → ((l : Json) → walk [] rest l ≡ Some k → IsWithin n l → IsWithin n k) → (walk (token ++ x ∷ []) rest j ≡ Some k → IsWithin n k) → IsWithin n k
  walked_at true token x rest j k e w next more = option_and_then_some (walk [] rest) (step token j) k e (λ l found got. next l got (IsWithin-step j token l found w))
  walked_at false token x rest j k e w next more = more e

  walked : (token rest : List ℕ) (j k : Json) → walk token rest j ≡ Some k → IsWithin n j → IsWithin n k
  unfolding walk
  walked token [] j k e w = IsWithin-step j token k e w
  walked token (x ∷ rest) j k e w = walked_at (x == 47) token x rest j k e w (λ l h v. walked [] rest l k h v) (λ h. walked (token ++ x ∷ []) rest j k h w)

  named_at : (b : Bool) (rest : List ℕ) (j k : Json) → cond b (walk [] rest j) None ≡ Some k → IsWithin n j → IsWithin n k
  named_at true rest j k e w = walked [] rest j k e w
  named_at false rest j k e w = absurd (cc)

  -- what a pointer names in a tree is in form too, and nests no deeper
  pub IsWithin-named : (pointer : List ℕ) (j k : Json) → named pointer j ≡ Some k → IsWithin n j → IsWithin n k
  IsWithin-named [] j k e w = subst (IsWithin n) (Some_inj j k e) w
  IsWithin-named (x ∷ rest) j k e w = named_at (x == 47) rest j k e w

  -- and so is an item of a list
  pub IsWithin-item : (js : List Json) (i : ℕ) (k : Json) → slice_get js i ≡ Some k → IsWithin n (ListOf js) → IsWithin n k
  IsWithin-item js i k got whole = let fits = item_fits js i k got in record {
    form = fits.form (sym (folded-List Bool form_step js) ∙ whole.form);
    nests = omega (arith, fits.nests, whole.nests, folded-List ℕ depth_step js);
  }

  -- and a member's value
  pub IsWithin-member : (ms : List Member) (name : List ℕ) (k : Json) → member_named ms name ≡ Some k → IsWithin n (Object ms) → IsWithin n k
  IsWithin-member ms name k got whole = let fits = member_fits ms name k got in record {
    form = fits.form (members_form ms whole.form);
    nests = omega (arith, fits.nests, whole.nests, folded-Object ℕ depth_step ms, ap largest (values_of-map ℕ depth_step ms));
  }

-- what nests no deeper than less
pub IsWithin-more : (n m : ℕ) (j : Json) → n ≤ m → IsWithin n j → IsWithin m j
IsWithin-more n m j le w = record { form = w.form; nests = omega (arith, le, w.nests) }

pub IsWellFormed-item : (js : List Json) (i : ℕ) (k : Json) → slice_get js i ≡ Some k → IsWellFormed (ListOf js) → IsWellFormed k
IsWellFormed-item js i k got whole = IsWithin-item max_depth js i k got whole

pub IsWellFormed-member : (ms : List Member) (name : List ℕ) (k : Json) → member_named ms name ≡ Some k → IsWellFormed (Object ms) → IsWellFormed k
IsWellFormed-member ms name k got whole = IsWithin-member max_depth ms name k got whole

pub IsWellFormed-named : (pointer : List ℕ) (j k : Json) → named pointer j ≡ Some k → IsWellFormed j → IsWellFormed k
IsWellFormed-named pointer j k e w = IsWithin-named max_depth pointer j k e w

-- what is found in a list by a test stands in it
found-at : {X : Type 0} (test : X → Bool) (xs : List X) (x : X) → find test xs ≡ Some x → (i : ℕ) × (slice_get xs i ≡ Some x)
found-at test [] x e = absurd (cc)
found-at test (y ∷ xs) x e = decide (test y) e (λ h. found-at test xs x h)
  where
    decide : (b : Bool) → cond b (Some y) (find test xs) ≡ Some x → (find test xs ≡ Some x → (i : ℕ) × (slice_get xs i ≡ Some x)) → (i : ℕ) × (slice_get (y ∷ xs) i ≡ Some x)
    decide true h more = (0, h)
    decide false h more = let at = more h in (suc at.0, at.1)

-- the item that a test finds in a list
pub IsWithin-found : (n : ℕ) (test : Json → Bool) (js : List Json) (k : Json) → find test js ≡ Some k → IsWithin n (ListOf js) → IsWithin n k
IsWithin-found n test js k e w = let at = found-at test js k e in IsWithin-item n js at.0 k at.1 w

-- a tree that is a list or an object is one by its items or members
list-is : (j : Json) (js : List Json) (x : Json-F Json Member) → out-Json j ≡ x → list_step x ≡ Some js → j ≡ ListOf js
list-is j js (Json-F.List ks) e s = sym (roll-out-Json j) ∙ ap roll-Json e ∙ rolls-List ks ∙ ap ListOf (same_Some ks js s)
list-is j js (Json-F.Object ms) e s = absurd (cc)
list-is j js Json-F.Null e s = absurd (cc)
list-is j js (Json-F.Flag b) e s = absurd (cc)
list-is j js (Json-F.Int z) e s = absurd (cc)
list-is j js (Json-F.Text t) e s = absurd (cc)
list-is j js Json-F.Opaque e s = absurd (cc)

object-is : (j : Json) (ms : List Member) (x : Json-F Json Member) → out-Json j ≡ x → object_step x ≡ Some ms → j ≡ Object ms
object-is j ms (Json-F.Object ns) e s = sym (roll-out-Json j) ∙ ap roll-Json e ∙ rolls-Object ns ∙ ap Object (same_Some ns ms s)
object-is j ms (Json-F.List ks) e s = absurd (cc)
object-is j ms Json-F.Null e s = absurd (cc)
object-is j ms (Json-F.Flag b) e s = absurd (cc)
object-is j ms (Json-F.Int z) e s = absurd (cc)
object-is j ms (Json-F.Text t) e s = absurd (cc)
object-is j ms Json-F.Opaque e s = absurd (cc)

pub IsWithin-list_in : (n : ℕ) (j : Json) (js : List Json) → list_in j ≡ Some js → IsWithin n j → IsWithin n (ListOf js)
IsWithin-list_in n j js e w = subst (IsWithin n) (list-is j js (out-Json j) refl e) w

pub IsWithin-object_in : (n : ℕ) (j : Json) (ms : List Member) → object_in j ≡ Some ms → IsWithin n j → IsWithin n (Object ms)
IsWithin-object_in n j ms e w = subst (IsWithin n) (object-is j ms (out-Json j) refl e) w

-- the value of a member by its name
pub IsWithin-member_in : (n : ℕ) (name : List ℕ) (j k : Json) → member_in name j ≡ Some k → IsWithin n j → IsWithin n k
IsWithin-member_in n name j k e w =
    option_and_then_some (λ ms. member_named ms name) (object_in j) k e (λ ms got named.
    IsWithin-member n ms name k named (IsWithin-object_in n j ms got w))

value_fits : (ms : List Member) (i : ℕ) (m : Member) → slice_get ms i ≡ Some m → Fits (all_true (map (λ m. has_form m.value) ms)) (largest (map (λ m. depth m.value) ms)) m.value
value_fits [] i m e = absurd (cc)
value_fits (x ∷ ms) zero m e = let is : x ≡ m = same_Some x m e in record {
  form = λ h. ap (λ y. has_form y.value) (sym is) ∙ left (has_form x.value) (all_true (map (λ m. has_form m.value) ms)) h;
  nests = omega (arith, ap (λ y. depth y.value) is);
}
value_fits (x ∷ ms) (suc i) m e = let more = value_fits ms i m e in record {
  form = λ h. more.form (right (has_form x.value) (all_true (map (λ m. has_form m.value) ms)) h);
  nests = omega (arith, more.nests);
}

-- the value of a member by its index
pub IsWithin-value : (n : ℕ) (ms : List Member) (i : ℕ) (m : Member) → slice_get ms i ≡ Some m → IsWithin n (Object ms) → IsWithin n m.value
IsWithin-value n ms i m got whole = let fits = value_fits ms i m got in record {
  form = fits.form (members_form ms whole.form);
  nests = omega (arith, fits.nests, whole.nests, folded-Object ℕ depth_step ms, ap largest (values_of-map ℕ depth_step ms));
}
