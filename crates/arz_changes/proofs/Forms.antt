-- What is merged into a tree in form is in form.
use Rattle.std.proofs.Common.{◌≡◌, ℕ, ℤ, List, [], ◌∷◌, ◌++◌, map, Bool, true, false, ◌&&◌, Option, Some, None, refl, sym, ap, ◌∙◌, subst, rules}
use Rattle.std.specs.declared.cmp.Ordering.{Ordering}
use Rattle.std.specs.declared.cmp.Ordering.TheVariants.{Less, Equal, Greater}
use Rattle.std.specs.Ordering.{nat_cmp, is_lt, ordering_reverse}
use Rattle.std.specs.Cmp.Lexicographic.{slice_cmp}
use Rattle.std.proofs.lemmas.Cmp.{nat_list_cmp_total}
use Rattle.std.proofs.lemmas.Map.Lookups.{exact_bytes}
use Rattle.arz_json.specs.Tree.{has_form, form_step, all_true, are_ordered, is_below_first}
use Rattle.arz_json.specs.declared.tree.Json.{Json, out-Json, the_lemmas}
use Rattle.arz_json.specs.declared.tree.Json.TheOpen.{Json-F}
use Rattle.arz_json.specs.declared.tree.Json.TheVariants.{Int, List as ListOf, Object}
use Rattle.arz_json.specs.declared.tree.Member.{Member}
use Rattle.arz_json.proofs.Layers.{folded-List, folded-Object, values_of-map}
use Rattle.arz_json.proofs.Trades.{is_list, is_object}
use Rattle.arz_json.proofs.Induction.{Each, EachValue, Levels, induction}
use Rattle.arz_changes.specs.Merging.{Merge, merged, merge_of, with_member, with_member_by, with_members, added_items, items_in, members_in, items_there, members_there}
use Rattle.arz_changes.proofs.MergedLevels.{merged_list, merged_object}
use Rattle.arz_changes.proofs.Merges.{form_of}
use Rattle.arz_changes.proofs.Lists.{left, right}

pub both : (a b : Bool) → a ≡ true → b ≡ true → (a && b) ≡ true
both true b p q = q
both false b p q = p

abbrev pub items_form : List Json → Bool
items_form js = all_true (map has_form js)

abbrev pub members_order : List Member → Bool
members_order ms = are_ordered (map form_of ms)

abbrev pub values_form : List Member → Bool
values_form ms = all_true (map (λ m. has_form m.value) ms)

pub list_form : (js : List Json) → has_form (ListOf js) ≡ items_form js
list_form js = folded-List Bool form_step js

pub object_form : (ms : List Member) → has_form (Object ms) ≡ (members_order ms && values_form ms)
object_form ms = folded-Object Bool form_step ms ∙ ap (λ b. members_order ms && b) (ap all_true (values_of-map Bool form_step ms))

pub items_form-append : (is js : List Json) → items_form is ≡ true → items_form js ≡ true → items_form (is ++ js) ≡ true
items_form-append [] js h g = g
items_form-append (i ∷ is) js h g = both (has_form i) _ (left _ _ h) (items_form-append is js (right (has_form i) _ h) g)

-- ---- members

less : (o : Ordering) → is_lt o ≡ true → o ≡ Less
less Less e = refl
less Equal e = absurd (cc)
less Greater e = absurd (cc)

-- what comes before a name and before the first member comes before the first once the name was put
first_by : (k : List ℕ) (u : List ℕ × Merge) (m : Member) (ms : List Member) (o : Ordering) → is_lt (slice_cmp nat_cmp k u.0) ≡ true → is_lt (slice_cmp nat_cmp k m.name) ≡ true
    → is_below_first k (map form_of (with_member_by o u m ms (with_member u ms))) ≡ true
first_by k u m ms Less e h = e
first_by k u m ms Equal e h = e
first_by k u m ms Greater e h = h

first_put : (k : List ℕ) (u : List ℕ × Merge) (ms : List Member) → is_lt (slice_cmp nat_cmp k u.0) ≡ true → is_below_first k (map form_of ms) ≡ true → is_below_first k (map form_of (with_member u ms)) ≡ true
first_put k u [] e h = e
first_put k u (m ∷ ms) e h = first_by k u m ms (slice_cmp nat_cmp u.0 m.name) e h

order_by : (u : List ℕ × Merge) (m : Member) (ms : List Member) (o : Ordering) → slice_cmp nat_cmp u.0 m.name ≡ o → members_order (m ∷ ms) ≡ true → members_order (with_member u ms) ≡ true
    → members_order (with_member_by o u m ms (with_member u ms)) ≡ true
order_by u m ms Less e h g = both _ _ (ap is_lt e) h
order_by u m ms Equal e h g = both _ _ (subst (λ n. is_below_first n (map form_of ms) ≡ true) (sym (exact_bytes _ _ e)) (left _ _ h)) (right _ _ h)
order_by u m ms Greater e h g =
    both _ _ (first_put m.name u ms (ap is_lt (nat_list_cmp_total.antisymm m.name u.0 ∙ ap ordering_reverse e)) (left _ _ h)) g

order_put : (u : List ℕ × Merge) (ms : List Member) → members_order ms ≡ true → members_order (with_member u ms) ≡ true
order_put u [] h = refl
order_put u (m ∷ ms) h = order_by u m ms (slice_cmp nat_cmp u.0 m.name) refl h (order_put u ms (right _ _ h))

-- the merge of a value in form, or of nothing, is in form
abbrev Makes : Merge → Type 0
Makes f = (has_form (f None) ≡ true) × ((j : Json) → has_form j ≡ true → has_form (f (Some j)) ≡ true)

values_by : (u : List ℕ × Merge) (m : Member) (ms : List Member) (o : Ordering) → Makes u.1 → values_form (m ∷ ms) ≡ true → values_form (with_member u ms) ≡ true
    → values_form (with_member_by o u m ms (with_member u ms)) ≡ true
values_by u m ms Less f h g = both (has_form (u.1 None)) _ f.0 h
values_by u m ms Equal f h g = both (has_form (u.1 (Some m.value))) _ (f.1 m.value (left _ _ h)) (right (has_form m.value) _ h)
values_by u m ms Greater f h g = both (has_form m.value) _ (left _ _ h) g

values_put : (u : List ℕ × Merge) (ms : List Member) → Makes u.1 → values_form ms ≡ true → values_form (with_member u ms) ≡ true
values_put u [] f h = both (has_form (u.1 None)) true f.0 refl
values_put u (m ∷ ms) f h = values_by u m ms (slice_cmp nat_cmp u.0 m.name) f h (values_put u ms f (right (has_form m.value) _ h))

-- ---- trees

abbrev pub form_there : Option Json → Type 0
form_there None = Unit {0}
form_there (Some j) = has_form j ≡ true

items_there_in : (j : Json) (x : Json-F Json Member) → out-Json j ≡ x → has_form j ≡ true → items_form (items_in x) ≡ true
items_there_in j (Json-F.List js) e h = sym (list_form js) ∙ ap has_form (is_list j js e) ∙ h
items_there_in j (Json-F.Object ms) e h = refl
items_there_in j Json-F.Null e h = refl
items_there_in j (Json-F.Flag b) e h = refl
items_there_in j (Json-F.Int z) e h = refl
items_there_in j (Json-F.Text s) e h = refl
items_there_in j Json-F.Opaque e h = refl

items_there-form : (old : Option Json) → form_there old → items_form (items_there old) ≡ true
items_there-form None h = refl
items_there-form (Some j) h = items_there_in j (out-Json j) refl h

members_there_in : (j : Json) (x : Json-F Json Member) → out-Json j ≡ x → has_form j ≡ true → (members_order (members_in x) && values_form (members_in x)) ≡ true
members_there_in j (Json-F.List js) e h = refl
members_there_in j (Json-F.Object ms) e h = sym (object_form ms) ∙ ap has_form (is_object j ms e) ∙ h
members_there_in j Json-F.Null e h = refl
members_there_in j (Json-F.Flag b) e h = refl
members_there_in j (Json-F.Int z) e h = refl
members_there_in j (Json-F.Text s) e h = refl
members_there_in j Json-F.Opaque e h = refl

members_there-form : (old : Option Json) → form_there old → (members_order (members_there old) && values_form (members_there old)) ≡ true
members_there-form None h = refl
members_there-form (Some j) h = members_there_in j (out-Json j) refl h

abbrev Keeps : Json → Type 0
Keeps u = has_form u ≡ true → (old : Option Json) → form_there old → has_form (merged u old) ≡ true

added_form : (us : List Json) → Each Keeps us → items_form us ≡ true → items_form (added_items us) ≡ true
added_form [] k h = refl
added_form (u ∷ us) k h = both (has_form (merged u None)) _ (k.0 (left _ _ h) None tt) (added_form us k.1 (right (has_form u) _ h))

put_form : (us : List Member) (ms : List Member) → EachValue Keeps us → values_form us ≡ true → (members_order ms && values_form ms) ≡ true
    → (members_order (with_members (map merge_of us) ms) && values_form (with_members (map merge_of us) ms)) ≡ true
put_form [] ms k h g = g
put_form (u ∷ us) ms k h g =
    put_form us (with_member (merge_of u) ms) k.1 (right (has_form u.value) _ h)
    (both _ _ (order_put (merge_of u) ms (left _ _ g))
    (values_put (merge_of u) ms (k.0 (left _ _ h) None tt, λ j f. k.0 (left _ _ h) (Some j) f) (right (members_order ms) _ g)))

levels : Levels Keeps
levels = record {
  null = λ h old f. search (rules, the_lemmas);
  flag = λ b h old f. search (rules, the_lemmas);
  int = λ z h old f. ap has_form (int_merged z old) ∙ h;
  text = λ s h old f. search (rules, the_lemmas);
  list = λ us k h old f. ap has_form (merged_list us old) ∙ list_form _ ∙ items_form-append _ _ (items_there-form old f) (added_form us k (sym (list_form us) ∙ h));
  object = λ us k h old f. ap has_form (merged_object us old) ∙ object_form _ ∙ put_form us (members_there old) k (right (members_order us) _ (sym (object_form us) ∙ h)) (members_there-form old f);
  opaque = λ h old f. search (rules, the_lemmas);
}
  where
    int_merged : (z : ℤ) (old : Option Json) → merged (Int z) old ≡ Int z
    int_merged z old = search (rules, the_lemmas)

pub merged_form : (u : Json) (old : Option Json) → has_form u ≡ true → form_there old → has_form (merged u old) ≡ true
merged_form u old h f = induction Keeps levels u h old f
