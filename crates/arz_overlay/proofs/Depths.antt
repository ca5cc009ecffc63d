-- How deep trees nest that are merged, changed at a place, or left by a removal.
use Rattle.std.proofs.Common.{◌≡◌, ℕ, zero, suc, ◌+◌, ◌≤◌, max, List, [], ◌∷◌, ◌++◌, map, set, length, Bool, true, false, cond, Option, Some, None, Result, Ok, Err, refl, sym, ap, ◌∙◌, rules, arith}
use Rattle.std.specs.Prelude.{slice_get}
use Rattle.std.specs.declared.cmp.Ordering.{Ordering}
use Rattle.std.specs.declared.cmp.Ordering.TheVariants.{Less, Equal, Greater}
use Rattle.std.specs.Ordering.{nat_cmp}
use Rattle.std.specs.Cmp.Lexicographic.{slice_cmp}
use Rattle.arz_json.specs.Answer.{◌>>=◌}
use Rattle.arz_json.specs.Put.{children_in, children, set_value, set_child_in, set_child}
use Rattle.arz_json.specs.Tree.{depth, depth_step, largest}
use Rattle.arz_json.specs.declared.tree.Json.{Json, out-Json, the_lemmas}
use Rattle.arz_json.specs.declared.tree.Json.TheOpen.{Json-F}
use Rattle.arz_json.specs.declared.tree.Json.TheVariants.{Null, Flag, Int, Text, List as ListOf, Object, Opaque}
use Rattle.arz_json.specs.declared.tree.Member.{Member}
use Rattle.arz_json.specs.declared.place.Token.{Token}
use Rattle.arz_json.specs.declared.place.Token.TheVariants.{Name, Index}
use Rattle.arz_json.proofs.Layers.{folded-List, folded-Object, values_of-map}
use Rattle.arz_json.proofs.Trades.{is_list, is_object}
use Rattle.arz_json.proofs.Induction.{Each, EachValue, Levels, induction}
use Rattle.arz_changes.specs.Actions.{child_at, at_child, standing}
use Rattle.arz_changes.specs.Children.{child_of, changed, changed_child, changed_value}
use Rattle.arz_overlay.specs.Depths.{above_in, above, reach}
use Rattle.arz_changes.specs.Merging.{Merge, member, merged, merge_of, merged_if, updated, updated_in, no_target, with_member, with_member_by, with_members, added_items, items_in, members_in, items_there, members_there}
use Rattle.arz_changes.specs.Removal.{Places, below, has_end, without, items_kept, members_kept}
use Rattle.arz_changes.proofs.Lists.{Some_inj}
use Rattle.arz_changes.proofs.MergedLevels.{merged_list, merged_object}
use Rattle.arz_changes.proofs.Removals.{without_list, without_object}

abbrev pub items_depth : List Json → ℕ
items_depth js = largest (map depth js)

abbrev pub values_depth : List Member → ℕ
values_depth ms = largest (map (λ m. depth m.value) ms)

pub list_depth : (js : List Json) → depth (ListOf js) ≡ suc (items_depth js)
list_depth js = folded-List ℕ depth_step js

pub object_depth : (ms : List Member) → depth (Object ms) ≡ suc (values_depth ms)
object_depth ms = folded-Object ℕ depth_step ms ∙ ap (λ ns. suc (largest ns)) (values_of-map ℕ depth_step ms)

-- bounds of the larger of two
max_left : (a b n : ℕ) → max a b ≤ n → a ≤ n
max_left a b n h = omega arith

max_right : (a b n : ℕ) → max a b ≤ n → b ≤ n
max_right a b n h = omega arith

max_both : (a b n : ℕ) → a ≤ n → b ≤ n → max a b ≤ n
max_both a b n h g = omega arith

le_along : (a b n : ℕ) → a ≡ b → b ≤ n → a ≤ n
le_along a b n e h = omega arith

items_append-le : (is js : List Json) (n : ℕ) → items_depth is ≤ n → items_depth js ≤ n → items_depth (is ++ js) ≤ n
items_append-le [] js n h g = g
items_append-le (i ∷ is) js n h g = max_both (depth i) (items_depth (is ++ js)) n (max_left (depth i) (items_depth is) n h) (items_append-le is js n (max_right (depth i) (items_depth is) n h) g)

-- ---- merged trees

abbrev depth_there : Option Json → ℕ
depth_there None = 0
depth_there (Some j) = depth j

list_below : (js : List Json) (n : ℕ) → depth (ListOf js) ≤ suc n → items_depth js ≤ n
list_below js n h = let a = list_depth js in omega (arith, a, h)

object_below : (ms : List Member) (n : ℕ) → depth (Object ms) ≤ suc n → values_depth ms ≤ n
object_below ms n h = let a = object_depth ms in omega (arith, a, h)

list_above : (js : List Json) (n : ℕ) → items_depth js ≤ n → depth (ListOf js) ≤ suc n
list_above js n h = let a = list_depth js in omega (arith, a, h)

object_above : (ms : List Member) (n : ℕ) → values_depth ms ≤ n → depth (Object ms) ≤ suc n
object_above ms n h = let a = object_depth ms in omega (arith, a, h)

items_there_in : (j : Json) (x : Json-F Json Member) (n : ℕ) → out-Json j ≡ x → depth j ≤ suc n → items_depth (items_in x) ≤ n
items_there_in j (Json-F.List js) n e h = list_below js n (le_along _ _ (suc n) (ap depth (is_list j js e)) h)
items_there_in j (Json-F.Object ms) n e h = omega arith
items_there_in j Json-F.Null n e h = omega arith
items_there_in j (Json-F.Flag b) n e h = omega arith
items_there_in j (Json-F.Int z) n e h = omega arith
items_there_in j (Json-F.Text s) n e h = omega arith
items_there_in j Json-F.Opaque n e h = omega arith

items_there-le : (old : Option Json) (n : ℕ) → depth_there old ≤ suc n → items_depth (items_there old) ≤ n
items_there-le None n h = omega arith
items_there-le (Some j) n h = items_there_in j (out-Json j) n refl h

members_there_in : (j : Json) (x : Json-F Json Member) (n : ℕ) → out-Json j ≡ x → depth j ≤ suc n → values_depth (members_in x) ≤ n
members_there_in j (Json-F.List js) n e h = omega arith
members_there_in j (Json-F.Object ms) n e h = object_below ms n (le_along _ _ (suc n) (ap depth (is_object j ms e)) h)
members_there_in j Json-F.Null n e h = omega arith
members_there_in j (Json-F.Flag b) n e h = omega arith
members_there_in j (Json-F.Int z) n e h = omega arith
members_there_in j (Json-F.Text s) n e h = omega arith
members_there_in j Json-F.Opaque n e h = omega arith

members_there-le : (old : Option Json) (n : ℕ) → depth_there old ≤ suc n → values_depth (members_there old) ≤ n
members_there-le None n h = omega arith
members_there-le (Some j) n h = members_there_in j (out-Json j) n refl h

-- a merge nests no deeper than a number, of what nests no deeper or of nothing
pub record Within (f : Merge) (n : ℕ) : Type 0 where
  pub none : depth (f None) ≤ n
  pub some : (j : Json) → depth j ≤ n → depth (f (Some j)) ≤ n

put_by : (u : List ℕ × Merge) (m : Member) (ms : List Member) (o : Ordering) (n : ℕ) → Within u.1 n → values_depth (m ∷ ms) ≤ n → values_depth (with_member u ms) ≤ n
    → values_depth (with_member_by o u m ms (with_member u ms)) ≤ n
put_by u m ms Less n w h g = max_both _ _ n w.none h
put_by u m ms Equal n w h g = max_both _ _ n (w.some m.value (max_left (depth m.value) (values_depth ms) n h)) (max_right (depth m.value) (values_depth ms) n h)
put_by u m ms Greater n w h g = max_both _ _ n (max_left (depth m.value) (values_depth ms) n h) g

put_le : (u : List ℕ × Merge) (ms : List Member) (n : ℕ) → Within u.1 n → values_depth ms ≤ n → values_depth (with_member u ms) ≤ n
put_le u [] n w h = max_both _ _ n w.none (omega arith)
put_le u (m ∷ ms) n w h = put_by u m ms (slice_cmp nat_cmp u.0 m.name) n w h (put_le u ms n w (max_right (depth m.value) (values_depth ms) n h))

abbrev Bounds : Json → Type 0
Bounds u = (old : Option Json) (n : ℕ) → depth u ≤ n → depth_there old ≤ n → depth (merged u old) ≤ n

added_le : (us : List Json) (n : ℕ) → Each Bounds us → items_depth us ≤ n → items_depth (added_items us) ≤ n
added_le [] n k h = h
added_le (u ∷ us) n k h = max_both _ _ n (k.0 None n (max_left (depth u) (items_depth us) n h) (omega arith)) (added_le us n k.1 (max_right (depth u) (items_depth us) n h))

puts_le : (us : List Member) (ms : List Member) (n : ℕ) → EachValue Bounds us → values_depth us ≤ n → values_depth ms ≤ n → values_depth (with_members (map merge_of us) ms) ≤ n
puts_le [] ms n k h g = g
puts_le (u ∷ us) ms n k h g =
    let own = max_left (depth u.value) (values_depth us) n h in
    puts_le us (with_member (merge_of u) ms) n k.1 (max_right (depth u.value) (values_depth us) n h)
    (put_le (merge_of u) ms n (record { none = k.0 None n own (omega arith); some = λ j b. k.0 (Some j) n own b }) g)

list_bounds : (us : List Json) → Each Bounds us → (old : Option Json) (n : ℕ) → depth (ListOf us) ≤ n → depth_there old ≤ n → depth (merged (ListOf us) old) ≤ n
list_bounds us k old zero h g = let a = list_depth us in absurd (omega (arith, a, h))
list_bounds us k old (suc n) h g =
    le_along _ _ (suc n) (ap depth (merged_list us old))
    (list_above _ n (items_append-le (items_there old) (added_items us) n (items_there-le old n g) (added_le us n k (list_below us n h))))

object_bounds : (us : List Member) → EachValue Bounds us → (old : Option Json) (n : ℕ) → depth (Object us) ≤ n → depth_there old ≤ n → depth (merged (Object us) old) ≤ n
object_bounds us k old zero h g = let a = object_depth us in absurd (omega (arith, a, h))
object_bounds us k old (suc n) h g =
    le_along _ _ (suc n) (ap depth (merged_object us old))
    (object_above _ n (puts_le us (members_there old) n k (object_below us n h) (members_there-le old n g)))

leaf : (u : Json) (old : Option Json) (n : ℕ) → merged u old ≡ u → depth u ≤ n → depth (merged u old) ≤ n
leaf u old n e h = le_along _ _ n (ap depth e) h

levels : Levels Bounds
levels = record {
  null = λ old n h g. leaf Null old n (search (rules, the_lemmas)) h;
  flag = λ b old n h g. leaf (Flag b) old n (search (rules, the_lemmas)) h;
  int = λ z old n h g. leaf (Int z) old n (search (rules, the_lemmas)) h;
  text = λ s old n h g. leaf (Text s) old n (search (rules, the_lemmas)) h;
  list = list_bounds;
  object = object_bounds;
  opaque = λ old n h g. leaf Opaque old n (search (rules, the_lemmas)) h;
}

pub merged_depth : (u : Json) (old : Option Json) (n : ℕ) → depth u ≤ n → depth_there old ≤ n → depth (merged u old) ≤ n
merged_depth u old n h g = induction Bounds levels u old n h g

-- ---- a child in place of another

items_set : (js : List Json) (i : ℕ) (c : Json) (n : ℕ) → items_depth js ≤ n → depth c ≤ n → items_depth (set js i c) ≤ n
items_set [] i c n h g = h
items_set (j ∷ js) zero c n h g = max_both _ _ n g (max_right (depth j) (items_depth js) n h)
items_set (j ∷ js) (suc i) c n h g = max_both _ _ n (max_left (depth j) (items_depth js) n h) (items_set js i c n (max_right (depth j) (items_depth js) n h) g)

items_get : (js : List Json) (i : ℕ) (k : Json) (n : ℕ) → slice_get js i ≡ Some k → items_depth js ≤ n → depth k ≤ n
items_get [] i k n e h = absurd (cc)
items_get (j ∷ js) zero k n e h = le_along _ _ n (ap depth (sym (Some_inj j k e))) (max_left (depth j) (items_depth js) n h)
items_get (j ∷ js) (suc i) k n e h = items_get js i k n e (max_right (depth j) (items_depth js) n h)

values_set : (ms : List Member) (i : ℕ) (c : Json) (n : ℕ) → values_depth ms ≤ n → depth c ≤ n → values_depth (set_value ms i c) ≤ n
values_set [] i c n h g = h
values_set (m ∷ ms) zero c n h g = max_both _ _ n g (max_right (depth m.value) (values_depth ms) n h)
values_set (m ∷ ms) (suc i) c n h g = max_both _ _ n (max_left (depth m.value) (values_depth ms) n h) (values_set ms i c n (max_right (depth m.value) (values_depth ms) n h) g)

values_get : (ms : List Member) (i : ℕ) (k : Json) (n : ℕ) → slice_get (map (λ m. m.value) ms) i ≡ Some k → values_depth ms ≤ n → depth k ≤ n
values_get [] i k n e h = absurd (cc)
values_get (m ∷ ms) zero k n e h = le_along _ _ n (ap depth (sym (Some_inj m.value k e))) (max_left (depth m.value) (values_depth ms) n h)
values_get (m ∷ ms) (suc i) k n e h = values_get ms i k n e (max_right (depth m.value) (values_depth ms) n h)

set_in : (j : Json) (x : Json-F Json Member) (i : ℕ) (k c : Json) (n : ℕ) → out-Json j ≡ x → slice_get (children_in x) i ≡ Some k → depth j ≤ suc n → depth c ≤ n → depth (set_child_in j i c x) ≤ suc n
set_in j (Json-F.List js) i k c n e h d g = list_above _ n (items_set js i c n (list_below js n (le_along _ _ (suc n) (ap depth (is_list j js e)) d)) g)
set_in j (Json-F.Object ms) i k c n e h d g = object_above _ n (values_set ms i c n (object_below ms n (le_along _ _ (suc n) (ap depth (is_object j ms e)) d)) g)
set_in j Json-F.Null i k c n e h d g = absurd (cc)
set_in j (Json-F.Flag b) i k c n e h d g = absurd (cc)
set_in j (Json-F.Int z) i k c n e h d g = absurd (cc)
set_in j (Json-F.Text s) i k c n e h d g = absurd (cc)
set_in j Json-F.Opaque i k c n e h d g = absurd (cc)

get_in : (j : Json) (x : Json-F Json Member) (i : ℕ) (k : Json) (n : ℕ) → out-Json j ≡ x → slice_get (children_in x) i ≡ Some k → depth j ≤ suc n → depth k ≤ n
get_in j (Json-F.List js) i k n e h d = items_get js i k n h (list_below js n (le_along _ _ (suc n) (ap depth (is_list j js e)) d))
get_in j (Json-F.Object ms) i k n e h d = values_get ms i k n h (object_below ms n (le_along _ _ (suc n) (ap depth (is_object j ms e)) d))
get_in j Json-F.Null i k n e h d = absurd (cc)
get_in j (Json-F.Flag b) i k n e h d = absurd (cc)
get_in j (Json-F.Int z) i k n e h d = absurd (cc)
get_in j (Json-F.Text s) i k n e h d = absurd (cc)
get_in j Json-F.Opaque i k n e h d = absurd (cc)

-- what has a child nests at least once
has_one : (j : Json) (x : Json-F Json Member) (i : ℕ) (k : Json) → out-Json j ≡ x → slice_get (children_in x) i ≡ Some k → depth j ≤ 0 → ⊥
has_one j (Json-F.List js) i k e h d = let a = list_depth js in let b = ap depth (is_list j js e) in omega (arith, a, b, d)
has_one j (Json-F.Object ms) i k e h d = let a = object_depth ms in let b = ap depth (is_object j ms e) in omega (arith, a, b, d)
has_one j Json-F.Null i k e h d = cc
has_one j (Json-F.Flag b) i k e h d = cc
has_one j (Json-F.Int z) i k e h d = cc
has_one j (Json-F.Text s) i k e h d = cc
has_one j Json-F.Opaque i k e h d = cc

-- ---- an update at a place

pub above-suc : (o : Option Json) (n : ℕ) → above o (suc n) ≡ suc (above o n)
above-suc None n = refl
above-suc (Some j) n = go (out-Json j)
  where
    go : (x : Json-F Json Member) → above_in x (suc n) ≡ suc (above_in x n)
    go (Json-F.List js) = omega arith
    go (Json-F.Object ms) = refl
    go Json-F.Null = refl
    go (Json-F.Flag b) = refl
    go (Json-F.Int z) = refl
    go (Json-F.Text s) = refl
    go Json-F.Opaque = refl

Ok_inj : {A F : Type 0} (x y : A) → (let r : Result A F = Ok x in r ≡ Ok y) → x ≡ y
Ok_inj x y e = cc

merged_if-depth : (u j k : Json) (x : Json-F Json Member) (n : ℕ) → merged_if u j x ≡ Ok k → depth j ≤ n → depth u ≤ n → depth k ≤ n
merged_if-depth u j k (Json-F.Object us) n e h g = le_along _ _ n (ap depth (sym (Ok_inj _ _ e))) (merged_depth u (Some j) n g h)
merged_if-depth u j k (Json-F.List js) n e h g = absurd (cc)
merged_if-depth u j k Json-F.Null n e h g = absurd (cc)
merged_if-depth u j k (Json-F.Flag b) n e h g = absurd (cc)
merged_if-depth u j k (Json-F.Int z) n e h g = absurd (cc)
merged_if-depth u j k (Json-F.Text s) n e h g = absurd (cc)
merged_if-depth u j k Json-F.Opaque n e h g = absurd (cc)

put_last : (js : List Json) (u : Json) (n : ℕ) → depth (ListOf js) ≤ n → 1 + depth u ≤ n → depth (ListOf (js ++ u ∷ [])) ≤ n
put_last js u zero h g = absurd (omega arith)
put_last js u (suc n) h g = list_above _ n (items_append-le js (u ∷ []) n (list_below js n h) (max_both (depth u) 0 n (omega arith) (omega arith)))

updated-depth : (u j k : Json) (x : Json-F Json Member) (n : ℕ) → out-Json j ≡ x → updated_in u j x ≡ Ok k → depth j ≤ n → above_in x 0 + depth u ≤ n → depth k ≤ n
updated-depth u j k (Json-F.List js) n is e h g =
    le_along _ _ n (ap depth (sym (Ok_inj _ _ e))) (put_last js u n (le_along _ _ n (ap depth (is_list j js is)) h) (omega arith))
updated-depth u j k (Json-F.Object ms) n is e h g = merged_if-depth u j k (out-Json u) n e h (omega arith)
updated-depth u j k Json-F.Null n is e h g = absurd (cc)
updated-depth u j k (Json-F.Flag b) n is e h g = absurd (cc)
updated-depth u j k (Json-F.Int z) n is e h g = absurd (cc)
updated-depth u j k (Json-F.Text s) n is e h g = absurd (cc)
updated-depth u j k Json-F.Opaque n is e h g = absurd (cc)

module _ (u : Json) where
  abbrev Deepens : List Token → Type 0
  Deepens p = (j k : Json) (n : ℕ) → changed (updated u) no_target p j ≡ Ok k → depth j ≤ n → reach u p j ≤ n → depth k ≤ n

  at_made : (t : Token) (p : List Token) → Deepens p → (j k : Json) (n i : ℕ) (c : Json) → child_of t j ≡ Some i → slice_get (children j) i ≡ Some c → (r : Result Json ℕ) → changed (updated u) no_target p c ≡ r
      → (r >>= (λ d. Ok (set_child j i d))) ≡ Ok k → depth j ≤ n → reach u (t ∷ p) j ≤ n → depth k ≤ n
  at_made t p deepens j k n i c named here (Err rule) is f h g = absurd (cc)
  at_made t p deepens j k zero i c named here (Ok d) is f h g = absurd (has_one j (out-Json j) i c refl here h)
  at_made t p deepens j k (suc n) i c named here (Ok d) is f h g =
      let stands : standing (t ∷ p) j ≡ standing p c = ap (at_child (standing p)) (ap (child_at j) named ∙ here) in
      let a = ap (λ o. above o (suc (length p))) stands in
      let b = above-suc (standing p c) (length p) in
      let less : reach u p c ≤ n = omega (arith, a, b, g) in
      le_along _ _ (suc n) (ap depth (sym (Ok_inj _ _ f))) (set_in j (out-Json j) i c d n refl here h (deepens c d n is (get_in j (out-Json j) i c n refl here h) less))

  at_child_of : (t : Token) (p : List Token) → Deepens p → (j k : Json) (n i : ℕ) → child_of t j ≡ Some i → (o : Option Json) → slice_get (children j) i ≡ o
      → changed_value (changed (updated u) no_target p) no_target j i o ≡ Ok k → depth j ≤ n → reach u (t ∷ p) j ≤ n → depth k ≤ n
  at_child_of t p deepens j k n i named None here f h g = absurd (cc)
  at_child_of t p deepens j k n i named (Some c) here f h g = at_made t p deepens j k n i c named here (changed (updated u) no_target p c) refl f h g

  at_token : (t : Token) (p : List Token) → Deepens p → (j k : Json) (n : ℕ) (o : Option ℕ) → child_of t j ≡ o → changed_child (changed (updated u) no_target p) no_target j o ≡ Ok k
      → depth j ≤ n → reach u (t ∷ p) j ≤ n → depth k ≤ n
  at_token t p deepens j k n None named f h g = absurd (cc)
  at_token t p deepens j k n (Some i) named f h g = at_child_of t p deepens j k n i named (slice_get (children j) i) refl f h g

  pub deepened : (p : List Token) → Deepens p
  deepened [] j k n e h g = updated-depth u j k (out-Json j) n refl e h g
  deepened (t ∷ p) j k n e h g = at_token t p (deepened p) j k n (child_of t j) refl e h g

-- ---- what a removal leaves

abbrev Shrinks : Json → Type 0
Shrinks j = (ps : Places) (n : ℕ) → depth j ≤ n → depth (without j ps) ≤ n

items_by : (b : Bool) (j : Json) (ks : List Json) (n : ℕ) → depth j ≤ n → items_depth ks ≤ n → items_depth (cond b ks (j ∷ ks)) ≤ n
items_by true j ks n h g = g
items_by false j ks n h g = max_both (depth j) (items_depth ks) n h g

kept_items-le : (ps : Places) (i : ℕ) (js : List Json) (n : ℕ) → Each Shrinks js → items_depth js ≤ n → items_depth (items_kept ps i js) ≤ n
kept_items-le ps i [] n k h = h
kept_items-le ps i (j ∷ js) n k h =
    items_by (has_end (below (Index i) ps)) (without j (below (Index i) ps)) (items_kept ps (i + 1) js) n (k.0 (below (Index i) ps) n (max_left (depth j) (items_depth js) n h))
    (kept_items-le ps (i + 1) js n k.1 (max_right (depth j) (items_depth js) n h))

values_by : (b : Bool) (m : Member) (ks : List Member) (n : ℕ) → depth m.value ≤ n → values_depth ks ≤ n → values_depth (cond b ks (m ∷ ks)) ≤ n
values_by true m ks n h g = g
values_by false m ks n h g = max_both (depth m.value) (values_depth ks) n h g

kept_values-le : (ps : Places) (ms : List Member) (n : ℕ) → EachValue Shrinks ms → values_depth ms ≤ n → values_depth (members_kept ps ms) ≤ n
kept_values-le ps [] n k h = h
kept_values-le ps (m ∷ ms) n k h =
    values_by (has_end (below (Name m.name) ps)) (member m.name (without m.value (below (Name m.name) ps))) (members_kept ps ms) n (k.0 (below (Name m.name) ps) n (max_left (depth m.value) (values_depth ms) n h))
    (kept_values-le ps ms n k.1 (max_right (depth m.value) (values_depth ms) n h))

list_shrinks : (js : List Json) → Each Shrinks js → Shrinks (ListOf js)
list_shrinks js k ps zero h = let a = list_depth js in absurd (omega (arith, a, h))
list_shrinks js k ps (suc n) h = le_along _ _ (suc n) (ap depth (without_list js ps)) (list_above _ n (kept_items-le ps 0 js n k (list_below js n h)))

object_shrinks : (ms : List Member) → EachValue Shrinks ms → Shrinks (Object ms)
object_shrinks ms k ps zero h = let a = object_depth ms in absurd (omega (arith, a, h))
object_shrinks ms k ps (suc n) h = le_along _ _ (suc n) (ap depth (without_object ms ps)) (object_above _ n (kept_values-le ps ms n k (object_below ms n h)))

same_depth : (j : Json) (ps : Places) (n : ℕ) → without j ps ≡ j → depth j ≤ n → depth (without j ps) ≤ n
same_depth j ps n e h = le_along _ _ n (ap depth e) h

shrinking : Levels Shrinks
shrinking = record {
  null = λ ps n h. same_depth Null ps n (search (rules, the_lemmas)) h;
  flag = λ b ps n h. same_depth (Flag b) ps n (search (rules, the_lemmas)) h;
  int = λ z ps n h. same_depth (Int z) ps n (search (rules, the_lemmas)) h;
  text = λ s ps n h. same_depth (Text s) ps n (search (rules, the_lemmas)) h;
  list = list_shrinks;
  object = object_shrinks;
  opaque = λ ps n h. same_depth Opaque ps n (search (rules, the_lemmas)) h;
}

pub without-depth : (j : Json) (ps : Places) (n : ℕ) → depth j ≤ n → depth (without j ps) ≤ n
without-depth j ps n h = induction Shrinks shrinking j ps n h
