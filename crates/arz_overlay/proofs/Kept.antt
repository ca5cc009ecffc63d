-- What a removal, or an update at a place, leaves of a tree in form is in form.
use Rattle.std.proofs.Common.{◌≡◌, ℕ, ◌+◌, List, [], ◌∷◌, map, Bool, true, false, ◌&&◌, cond, Option, Some, None, Result, Ok, Err, refl, sym, ap, ◌∙◌, rules}
use Rattle.std.specs.Prelude.{slice_get}
use Rattle.std.specs.declared.cmp.Ordering.{Ordering}
use Rattle.std.specs.declared.cmp.Ordering.TheVariants.{Less, Equal, Greater}
use Rattle.std.specs.Ordering.{nat_cmp, is_lt}
use Rattle.std.specs.Cmp.Lexicographic.{slice_cmp}
use Rattle.std.proofs.lemmas.Cmp.{nat_list_cmp_total}
use Rattle.arz_json.specs.Answer.{◌>>=◌}
use Rattle.arz_json.specs.Put.{children, set_child}
use Rattle.arz_json.specs.Tree.{has_form, is_below_first}
use Rattle.arz_json.specs.declared.tree.Json.{Json, out-Json, the_lemmas}
use Rattle.arz_json.specs.declared.tree.Json.TheOpen.{Json-F}
use Rattle.arz_json.specs.declared.tree.Json.TheVariants.{Null, Flag, Int, Text, Opaque}
use Rattle.arz_json.specs.declared.tree.Member.{Member}
use Rattle.arz_json.specs.declared.place.Token.{Token}
use Rattle.arz_json.specs.declared.place.Token.TheVariants.{Name, Index}
use Rattle.arz_json.proofs.Induction.{Each, EachValue, Levels, induction}
use Rattle.arz_json.proofs.Puts.{form_in, child_form}
use Rattle.arz_json.proofs.Trades.{is_list}
use Rattle.arz_changes.specs.Children.{child_of, changed, changed_child, changed_value}
use Rattle.arz_changes.specs.Merging.{member, merged_if, updated, updated_in, no_target}
use Rattle.arz_changes.specs.Removal.{Places, below, has_end, without, items_kept, members_kept}
use Rattle.arz_changes.proofs.Merges.{form_of}
use Rattle.arz_changes.proofs.Forms.{both, items_form, items_form-append, members_order, values_form, list_form, object_form, merged_form}
use Rattle.arz_changes.proofs.Lists.{left, right}
use Rattle.arz_changes.proofs.Removals.{without_list, without_object}

abbrev Keeps : Json → Type 0
Keeps j = has_form j ≡ true → (ps : Places) → has_form (without j ps) ≡ true

items_by : (b : Bool) (j : Json) (ks : List Json) → has_form j ≡ true → items_form ks ≡ true → items_form (cond b ks (j ∷ ks)) ≡ true
items_by true j ks h g = g
items_by false j ks h g = both (has_form j) _ h g

items : (ps : Places) (i : ℕ) (js : List Json) → Each Keeps js → items_form js ≡ true → items_form (items_kept ps i js) ≡ true
items ps i [] k h = refl
items ps i (j ∷ js) k h =
    items_by (has_end (below (Index i) ps)) (without j (below (Index i) ps)) (items_kept ps (i + 1) js) (k.0 (left _ _ h) (below (Index i) ps)) (items ps (i + 1) js k.1 (right (has_form j) _ h))

values_by : (b : Bool) (m : Member) (ks : List Member) → has_form m.value ≡ true → values_form ks ≡ true → values_form (cond b ks (m ∷ ks)) ≡ true
values_by true m ks h g = g
values_by false m ks h g = both (has_form m.value) _ h g

values : (ps : Places) (ms : List Member) → EachValue Keeps ms → values_form ms ≡ true → values_form (members_kept ps ms) ≡ true
values ps [] k h = refl
values ps (m ∷ ms) k h =
    values_by (has_end (below (Name m.name) ps)) (member m.name (without m.value (below (Name m.name) ps))) (members_kept ps ms) (k.0 (left _ _ h) (below (Name m.name) ps)) (values ps ms k.1 (right (has_form m.value) _ h))

less : (o : Ordering) → is_lt o ≡ true → o ≡ Less
less Less e = refl
less Equal e = absurd (cc)
less Greater e = absurd (cc)

-- a name before another comes before the first of the members that it comes before
onward : (k n : List ℕ) (ms : List Member) → is_lt (slice_cmp nat_cmp k n) ≡ true → is_below_first n (map form_of ms) ≡ true → is_below_first k (map form_of ms) ≡ true
onward k n [] e h = refl
onward k n (m ∷ ms) e h = ap is_lt (nat_list_cmp_total.trans k n m.name (less _ e) (less _ h))

first_by : (b : Bool) (k : List ℕ) (m : Member) (ks : List Member) → is_lt (slice_cmp nat_cmp k m.name) ≡ true → is_below_first k (map form_of ks) ≡ true → is_below_first k (map form_of (cond b ks (m ∷ ks))) ≡ true
first_by true k m ks e h = h
first_by false k m ks e h = e

first : (ps : Places) (k : List ℕ) (ms : List Member) → members_order ms ≡ true → is_below_first k (map form_of ms) ≡ true → is_below_first k (map form_of (members_kept ps ms)) ≡ true
first ps k [] o h = refl
first ps k (m ∷ ms) o h =
    first_by (has_end (below (Name m.name) ps)) k (member m.name (without m.value (below (Name m.name) ps))) (members_kept ps ms) h (first ps k ms (right _ _ o) (onward k m.name ms h (left _ _ o)))

order_by : (b : Bool) (m : Member) (ks : List Member) → is_below_first m.name (map form_of ks) ≡ true → members_order ks ≡ true → members_order (cond b ks (m ∷ ks)) ≡ true
order_by true m ks h g = g
order_by false m ks h g = both _ _ h g

order : (ps : Places) (ms : List Member) → members_order ms ≡ true → members_order (members_kept ps ms) ≡ true
order ps [] o = refl
order ps (m ∷ ms) o =
    order_by (has_end (below (Name m.name) ps)) (member m.name (without m.value (below (Name m.name) ps))) (members_kept ps ms) (first ps m.name ms (right _ _ o) (left _ _ o)) (order ps ms (right _ _ o))

same : (j : Json) (ps : Places) → without j ps ≡ j → has_form j ≡ true → has_form (without j ps) ≡ true
same j ps e h = ap has_form e ∙ h

levels : Levels Keeps
levels = record {
  null = λ h ps. same Null ps (search (rules, the_lemmas)) h;
  flag = λ b h ps. same (Flag b) ps (search (rules, the_lemmas)) h;
  int = λ z h ps. same (Int z) ps (search (rules, the_lemmas)) h;
  text = λ s h ps. same (Text s) ps (search (rules, the_lemmas)) h;
  list = λ js k h ps. ap has_form (without_list js ps) ∙ list_form _ ∙ items ps 0 js k (sym (list_form js) ∙ h);
  object = λ ms k h ps. (let form : (members_order ms && values_form ms) ≡ true = sym (object_form ms) ∙ h in
      ap has_form (without_object ms ps) ∙ object_form _ ∙ both _ _ (order ps ms (left _ _ form)) (values ps ms k (right (members_order ms) _ form)));
  opaque = λ h ps. same Opaque ps (search (rules, the_lemmas)) h;
}

pub without_form : (j : Json) (ps : Places) → has_form j ≡ true → has_form (without j ps) ≡ true
without_form j ps h = induction Keeps levels j h ps

-- ---- an update at a place

pub Ok_inj : {A F : Type 0} (x y : A) → (let r : Result A F = Ok x in r ≡ Ok y) → x ≡ y
Ok_inj x y e = cc

merged_if-form : (u j k : Json) (x : Json-F Json Member) → merged_if u j x ≡ Ok k → has_form u ≡ true → has_form j ≡ true → has_form k ≡ true
merged_if-form u j k (Json-F.Object us) e h f = ap has_form (sym (Ok_inj _ _ e)) ∙ merged_form u (Some j) h f
merged_if-form u j k (Json-F.List js) e h f = absurd (cc)
merged_if-form u j k Json-F.Null e h f = absurd (cc)
merged_if-form u j k (Json-F.Flag b) e h f = absurd (cc)
merged_if-form u j k (Json-F.Int z) e h f = absurd (cc)
merged_if-form u j k (Json-F.Text s) e h f = absurd (cc)
merged_if-form u j k Json-F.Opaque e h f = absurd (cc)

updated-form : (u j k : Json) (x : Json-F Json Member) → out-Json j ≡ x → updated_in u j x ≡ Ok k → has_form u ≡ true → has_form j ≡ true → has_form k ≡ true
updated-form u j k (Json-F.List js) is e h f =
    ap has_form (sym (Ok_inj _ _ e)) ∙ list_form _ ∙ items_form-append js (u ∷ []) (sym (list_form js) ∙ ap has_form (is_list j js is) ∙ f) (both (has_form u) true h refl)
updated-form u j k (Json-F.Object ms) is e h f = merged_if-form u j k (out-Json u) e h f
updated-form u j k Json-F.Null is e h f = absurd (cc)
updated-form u j k (Json-F.Flag b) is e h f = absurd (cc)
updated-form u j k (Json-F.Int z) is e h f = absurd (cc)
updated-form u j k (Json-F.Text s) is e h f = absurd (cc)
updated-form u j k Json-F.Opaque is e h f = absurd (cc)

module _ (u : Json) (form : has_form u ≡ true) where
  abbrev Forms : List Token → Type 0
  Forms p = (j k : Json) → changed (updated u) no_target p j ≡ Ok k → has_form j ≡ true → has_form k ≡ true

  at_made : (p : List Token) → Forms p → (j k : Json) (i : ℕ) (c : Json) → slice_get (children j) i ≡ Some c → (r : Result Json ℕ) → changed (updated u) no_target p c ≡ r
      → (r >>= (λ d. Ok (set_child j i d))) ≡ Ok k → has_form j ≡ true → has_form k ≡ true
  at_made p forms j k i c here (Err rule) is f h = absurd (cc)
  at_made p forms j k i c here (Ok d) is f h =
      ap has_form (sym (Ok_inj _ _ f)) ∙ form_in j (out-Json j) i d refl h (forms c d is (child_form j (out-Json j) i c refl here h))

  at_child_of : (p : List Token) → Forms p → (j k : Json) (i : ℕ) (o : Option Json) → slice_get (children j) i ≡ o
      → changed_value (changed (updated u) no_target p) no_target j i o ≡ Ok k → has_form j ≡ true → has_form k ≡ true
  at_child_of p forms j k i None here f h = absurd (cc)
  at_child_of p forms j k i (Some c) here f h = at_made p forms j k i c here (changed (updated u) no_target p c) refl f h

  at_token : (p : List Token) → Forms p → (j k : Json) (o : Option ℕ) → changed_child (changed (updated u) no_target p) no_target j o ≡ Ok k → has_form j ≡ true → has_form k ≡ true
  at_token p forms j k None f h = absurd (cc)
  at_token p forms j k (Some i) f h = at_child_of p forms j k i (slice_get (children j) i) refl f h

  pub changed_form : (p : List Token) → Forms p
  changed_form [] j k e h = updated-form u j k (out-Json j) refl e form h
  changed_form (t ∷ p) j k e h = at_token p (changed_form p) j k (child_of t j) e h
