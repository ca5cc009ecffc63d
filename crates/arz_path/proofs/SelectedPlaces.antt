-- Each selected place names its node.
use Rattle.std.proofs.Common.{◌≡◌, ℕ, suc, ◌+◌, Bool, true, false, ◌&&◌, cond, Ok, Err, List, [], ◌∷◌, ◌++◌, map, reverse, length, nat_lt, Option, Some, None, option_and_then, Ordering, Less, Equal, Greater, nat_cmp, ℤ, pos, negsuc, refl, sym, ap, subst, ◌∙◌, arith, add-zero, zero-add}
use Rattle.std.specs.Prelude.{filter, slice_get}
use Rattle.std.specs.List.{flat_map, enumerate_from}
use Rattle.std.specs.Ordering.{is_lt, is_eq, int_eq}
use Rattle.std.specs.Cmp.Lexicographic.{slice_cmp}
use Rattle.std.specs.Str.{bytes_eq}
use Rattle.std.proofs.lemmas.Cmp.{nat_list_cmp_total}
use Rattle.std.proofs.lemmas.Map.Text.{is_eq-slice_cmp}
use Rattle.std.proofs.lemmas.Slice.Eq.{bytes_eq-Decides}
use Rattle.std.proofs.lemmas.List.{reverse-append}
use Rattle.std.proofs.lemmas.Bool.{cond-true, cond-false}
use Rattle.arz_json.specs.Look.{list_step, object_step}
use Rattle.arz_json.specs.Pointer.{member_named}
use Rattle.arz_json.specs.Tree.{IsWithin, IsWellFormed, max_depth, has_form, form_step, are_ordered, is_below_first}
use Rattle.arz_json.specs.declared.tree.Json.{Json, out-Json}
use Rattle.arz_json.specs.declared.tree.Json.TheOpen.{Json-F}
use Rattle.arz_json.specs.declared.tree.Json.TheVariants.{Null, Flag, Int, Text, List as ListOf, Object, Opaque}
use Rattle.arz_json.specs.declared.tree.Json.TheViews.{outs-Null, outs-Flag, outs-Int, outs-Text, outs-List, outs-Object, outs-Opaque}
use Rattle.arz_json.specs.declared.tree.Member.{Member}
use Rattle.arz_json.proofs.Layers.{folded-Object}
use Rattle.arz_json.proofs.Parts.{IsWithin-item, IsWithin-list_in, IsWithin-object_in, IsWithin-member_in}
use Rattle.arz_json.proofs.Induction.{Each, EachValue, Levels, induction}
use Rattle.arz_rx.specs.Patterns.{PatternsView}
use Rattle.arz_query.specs.declared.query.Segment.{Segment}
use Rattle.arz_query.specs.declared.query.Selector.{Selector}
use Rattle.arz_query.specs.declared.query.Slice.{Slice}
use Rattle.arz_query.specs.declared.query.Test.{Test}
use Rattle.arz_query.specs.declared.query.Operand.{Operand}
use Rattle.arz_query.specs.declared.query.Operand.TheOpen.{Segment-F, Selector-F}
use Rattle.arz_query.specs.declared.query.Operand.TheViews as views
use Rattle.arz_json.specs.declared.place.Token.{Token}
use Rattle.arz_json.specs.declared.place.Token.TheVariants.{Name, Index}
use Rattle.arz_path.specs.Outcome.{Outcome, given, wide, untold, and_then, outcome_map, each}
use Rattle.arz_path.specs.Tree.{Node, items_in, items_of, members_in, members_of, item_child, member_child, children, preorder}
use Rattle.arz_path.specs.declared.fault.SelectFault.TheVariants.{TooWide}
use Rattle.arz_path.specs.Selected.{Setting, widest, told_of, kept, below_node, is_name, index_in, indexed_at, is_taken, in_direction, sliced, run, selected, segment_meaning, selector_meaning, test_meaning}
use Rattle.arz_path.specs.Results.{setting_of}
use Rattle.arz_path.specs.Spots.{grown}
use Rattle.arz_path.specs.Seen.{item_nodes, member_nodes, picked, chosen, chosen_all, kept_all}
use Rattle.arz_path.specs.Finding.{child_at, found_at, IsFound, Every, EachGiven}
use Rattle.arz_path.proofs.Levels.{preorder_nodes, preorder-List, preorder-Object}
use Rattle.arz_path.proofs.Meanings.{meaning-Name, meaning-Wildcard, meaning-Index, meaning-Slice}
use Rattle.arz_path.proofs.Parts.{segment-Child, segment-Descendant, selector-Filter}

-- ---- lists

every_append : {X : Type 0} (P : X → Type 0) (xs ys : List X) → Every P xs → Every P ys → Every P (xs ++ ys)
every_append P [] ys h k = k
every_append P (x ∷ xs) ys h k = (h.0, every_append P xs ys h.1 k)

every_map : {X Y : Type 0} (P : X → Type 0) (f : Y → X) (ys : List Y) → Every (λ y. P (f y)) ys → Every P (map f ys)
every_map P f [] h = tt
every_map P f (y ∷ ys) h = (h.0, every_map P f ys h.1)

every_filter : {X : Type 0} (p : X → Bool) (P : X → Type 0) (xs : List X) → Every P xs → Every P (filter p xs)
every_filter p P [] h = tt
every_filter p P (x ∷ xs) h = of (p x) (every_filter p P xs h.1)
  where
    of : (b : Bool) → Every P (filter p xs) → Every P (cond b (x ∷ filter p xs) (filter p xs))
    of true k = (h.0, k)
    of false k = k

every_from : {X : Type 0} (P Q : X → Type 0) → ((x : X) → P x → Q x) → (xs : List X) → Every P xs → Every Q xs
every_from P Q f [] h = tt
every_from P Q f (x ∷ xs) h = (f x h.0, every_from P Q f xs h.1)

every_reverse : {X : Type 0} (P : X → Type 0) (xs : List X) → Every P xs → Every P (reverse xs)
every_reverse P [] h = tt
every_reverse P (x ∷ xs) h = subst (Every P) (sym (reverse-append (x ∷ []) xs)) (every_append P (reverse xs) (x ∷ []) (every_reverse P xs h.1) (h.0, tt))

each_all : {X Y : Type 0} (P : Y → Type 0) (f : X → Outcome (List Y)) (xs : List X) → Every (λ x. EachGiven P (f x)) xs → EachGiven P (each f xs)
each_all P f [] h = tt
each_all {Y = Y} P f (x ∷ xs) h = of (f x) h.0 (each f xs) (each_all P f xs h.1)
  where
    of : (o : Outcome (List Y)) → EachGiven P o → (p : Outcome (List Y)) → EachGiven P p → EachGiven P (and_then (λ ys. outcome_map (λ more. ys ++ more) p) o)
    of (given ys) h (given zs) k = every_append P ys zs h k
    of (given ys) h wide k = tt
    of (given ys) h untold k = tt
    of wide h p k = tt
    of untold h p k = tt

given_map : {X Y : Type 0} (P : X → Type 0) (Q : Y → Type 0) (f : List X → List Y) → ((xs : List X) → Every P xs → Every Q (f xs)) → (o : Outcome (List X)) → EachGiven P o → EachGiven Q (outcome_map f o)
given_map P Q f g (given xs) h = g xs h
given_map P Q f g wide h = tt
given_map P Q f g untold h = tt

-- ---- steps

pub found_append : (p q : List Token) (j : Json) → found_at (p ++ q) j ≡ option_and_then (found_at q) (found_at p j)
found_append [] q j = refl
found_append (t ∷ p) q j = of (child_at t j) (λ k. found_append p q k)
  where
    of : (o : Option Json) → ((k : Json) → found_at (p ++ q) k ≡ option_and_then (found_at q) (found_at p k)) → option_and_then (found_at (p ++ q)) o ≡ option_and_then (found_at q) (option_and_then (found_at p) o)
    of None f = refl
    of (Some k) f = f k

found_next : (p : List Token) (t : Token) (root j k : Json) → found_at p root ≡ Some j → child_at t j ≡ Some k → found_at (p ++ t ∷ []) root ≡ Some k
found_next p t root j k h c = found_append p (t ∷ []) root ∙ ap (option_and_then (found_at (t ∷ []))) h ∙ ap (option_and_then (found_at [])) c

child_within : (n : ℕ) (t : Token) (j k : Json) → child_at t j ≡ Some k → IsWithin n j → IsWithin n k
child_within n (Name name) j k e w = IsWithin-member_in n name j k e w
child_within n (Index i) j k e w = of (out-Json j) refl e
  where
    of : (layer : Json-F Json Member) → out-Json j ≡ layer → slice_get (items_in layer) i ≡ Some k → IsWithin n k
    of (Json-F.List js) is e = IsWithin-item n js i k e (IsWithin-list_in n j js (ap list_step is) w)
    of Json-F.Null is e = absurd (cc)
    of (Json-F.Flag b) is e = absurd (cc)
    of (Json-F.Int z) is e = absurd (cc)
    of (Json-F.Text s) is e = absurd (cc)
    of (Json-F.Object ms) is e = absurd (cc)
    of Json-F.Opaque is e = absurd (cc)

found_within : (n : ℕ) (p : List Token) (j k : Json) → found_at p j ≡ Some k → IsWithin n j → IsWithin n k
found_within n [] j k e w = let same : j ≡ k = cc in subst (IsWithin n) same w
found_within n (t ∷ p) j k e w = of (child_at t j) refl e (λ i. found_within n p i k)
  where
    of : (o : Option Json) → child_at t j ≡ o → option_and_then (found_at p) o ≡ Some k → ((i : Json) → found_at p i ≡ Some k → IsWithin n i → IsWithin n k) → IsWithin n k
    of None is e f = absurd (cc)
    of (Some i) is e f = f i e (child_within n t j i is w)

-- ---- children

items_at : (P : ℕ × Json → Type 0) (k : ℕ) (js : List Json) → ((i : ℕ) (x : Json) → slice_get js i ≡ Some x → P (k + i, x)) → Every P (enumerate_from k js)
items_at P k [] f = tt
items_at P k (x ∷ js) f = (
  subst (λ n. P (n, x)) (add-zero k) (f 0 x refl),
  items_at P (k + 1) js (λ i y e. let next : k + suc i ≡ k + 1 + i = omega arith in subst (λ n. P (n, y)) next (f (suc i) y e)),
)

abbrev IsChild : Json → Token × Json → Type 0
IsChild j c = child_at c.0 j ≡ Some c.1

items_found : (j : Json) → Every (λ q. IsChild j (item_child q)) (enumerate_from 0 (items_of j))
items_found j = items_at (λ q. IsChild j (item_child q)) 0 (items_of j) (λ i x e. ap (slice_get (items_of j)) (zero-add i) ∙ e)

is_Less : (o : Ordering) → is_lt o ≡ true → o ≡ Less
is_Less Less e = refl
is_Less Equal e = absurd (cc)
is_Less Greater e = absurd (cc)

left : (a b : Bool) → (a && b) ≡ true → a ≡ true
left true b p = refl
left false b p = p

right : (a b : Bool) → (a && b) ≡ true → b ≡ true
right true b p = p
right false b p = absurd (cc)

abbrev pair_of : Member → List ℕ × Bool
pair_of m = (m.name, has_form m.value)

abbrev IsAbove : List ℕ → Member → Type 0
IsAbove k m = slice_cmp nat_cmp k m.name ≡ Less

every_above : (k : List ℕ) (ms : List Member) → is_below_first k (map pair_of ms) ≡ true → are_ordered (map pair_of ms) ≡ true → Every (IsAbove k) ms
every_above k [] first order = tt
every_above k (m ∷ ms) first order =
    let here = is_Less (slice_cmp nat_cmp k m.name) first in
    (here, every_from (IsAbove m.name) (IsAbove k) (λ n. nat_list_cmp_total.trans k m.name n.name here) ms (every_above m.name ms (left _ _ order) (right _ _ order)))

differs : (k : List ℕ) (m : Member) → IsAbove k m → bytes_eq k m.name ≡ false
differs k m h = sym (is_eq-slice_cmp k m.name) ∙ ap is_eq h

abbrev IsNamed : List Member → Member → Type 0
IsNamed ms m = member_named ms m.name ≡ Some m.value

every_named : (ms : List Member) → are_ordered (map pair_of ms) ≡ true → Every (IsNamed ms) ms
every_named [] order = tt
every_named (m ∷ ms) order = (
  cond-true (bytes_eq m.name m.name) (Some m.value) (member_named ms m.name) ((bytes_eq-Decides m.name m.name).1 refl),
  after ms (every_above m.name ms (left _ _ order) (right _ _ order)) (every_named ms (right _ _ order)),
)
  where
    after : (ns : List Member) → Every (IsAbove m.name) ns → Every (IsNamed ms) ns → Every (IsNamed (m ∷ ms)) ns
    after [] a h = tt
    after (n ∷ ns) a h = (cond-false (bytes_eq m.name n.name) (Some m.value) (member_named ms n.name) (differs m.name n a.0) ∙ h.0, after ns a.1 h.1)

members_found : (n : ℕ) (j : Json) → IsWithin n j → Every (λ m. IsChild j (member_child m)) (members_of j)
members_found n j w = of (out-Json j) refl
  where
    of : (layer : Json-F Json Member) → out-Json j ≡ layer → Every (λ m. IsChild j (member_child m)) (members_in layer)
    of (Json-F.Object ms) is =
        let within = IsWithin-object_in n j ms (ap object_step is) w in
        let order = left _ _ (sym (folded-Object Bool form_step ms) ∙ within.form) in
        every_from (IsNamed ms) (λ m. IsChild j (member_child m)) (λ m e. ap (λ o. option_and_then (λ ns. member_named ns m.name) (object_step o)) is ∙ e) ms (every_named ms order)
    of (Json-F.List js) is = tt
    of Json-F.Null is = tt
    of (Json-F.Flag b) is = tt
    of (Json-F.Int z) is = tt
    of (Json-F.Text s) is = tt
    of Json-F.Opaque is = tt

children_found : (n : ℕ) (j : Json) → IsWithin n j → Every (IsChild j) (children j)
children_found n j w = every_append (IsChild j) (map item_child (enumerate_from 0 (items_of j))) (map member_child (members_of j))
    (every_map (IsChild j) item_child (enumerate_from 0 (items_of j)) (items_found j)) (every_map (IsChild j) member_child (members_of j) (members_found n j w))

-- ---- what a selector selects are children

index_found : (j : Json) (at : ℕ) (o : Option Json) → slice_get (items_of j) at ≡ o → Every (IsChild j) (indexed_at at o)
index_found j at None e = tt
index_found j at (Some x) e = (e, tt)

turned : {X : Type 0} (P : X → Type 0) (z : ℤ) (xs : List X) → Every P xs → Every P (in_direction z xs)
turned P (pos k) xs h = h
turned P (negsuc k) xs h = every_reverse P xs h

slice_found : (j : Json) (s : Slice) → Every (IsChild j) (sliced s (items_of j))
slice_found j s = of (int_eq s.step (pos 0))
  where
    of : (b : Bool) → Every (IsChild j) (cond b [] (in_direction s.step (map item_child (filter (λ p. is_taken s (length (items_of j)) s.step p.0) (enumerate_from 0 (items_of j))))))
    of true = tt
    of false = turned (IsChild j) s.step _ (every_map (IsChild j) item_child (filter (λ p. is_taken s (length (items_of j)) s.step p.0) (enumerate_from 0 (items_of j)))
        (every_filter (λ (p : ℕ × Json). is_taken s (length (items_of j)) s.step p.0) (λ q. IsChild j (item_child q)) (enumerate_from 0 (items_of j)) (items_found j)))

keeps : (P : Token × Json → Type 0) (c : Token × Json) (o : Outcome Bool) → P c → EachGiven P (outcome_map (kept c) o)
keeps P c (given true) h = (h, tt)
keeps P c (given false) h = tt
keeps P c wide h = tt
keeps P c untold h = tt

filter_found : (setting : Setting) (t : Test) (P : Token × Json → Type 0) (cs : List (Token × Json)) → Every P cs → EachGiven P (kept_all setting t cs)
unfolding kept_all
filter_found setting t P cs h = each_all P (λ c. outcome_map (kept c) (test_meaning t setting c.1)) cs (every_from P (λ c. EachGiven P (outcome_map (kept c) (test_meaning t setting c.1))) (λ c k. keeps P c (test_meaning t setting c.1) k) cs h)

selector_found : (n : ℕ) (setting : Setting) (j : Json) → IsWithin n j → (s : Selector) → EachGiven (IsChild j) (selector_meaning s setting j)
selector_found n setting j w s = subst (λ z. EachGiven (IsChild j) (selector_meaning z setting j)) (views.roll-out-Selector s) (of (views.out-Selector s))
  where
    of : (d : Selector-F Operand Segment Selector Test) → EachGiven (IsChild j) (selector_meaning (views.roll-Selector d) setting j)
    of (Selector-F.Name k) = subst (λ z. EachGiven (IsChild j) (selector_meaning z setting j)) (sym (views.rolls-Name k))
        (subst (EachGiven (IsChild j)) (sym (meaning-Name k setting j)) (every_filter (λ (c : Token × Json). is_name k c.0) (IsChild j) (children j) (children_found n j w)))
    of Selector-F.Wildcard = subst (λ z. EachGiven (IsChild j) (selector_meaning z setting j)) (sym views.rolls-Wildcard)
        (subst (EachGiven (IsChild j)) (sym (meaning-Wildcard setting j)) (children_found n j w))
    of (Selector-F.Index i) = subst (λ z. EachGiven (IsChild j) (selector_meaning z setting j)) (sym (views.rolls-Index i))
        (subst (EachGiven (IsChild j)) (sym (meaning-Index i setting j)) (index_found j (index_in (length (items_of j)) i) (slice_get (items_of j) (index_in (length (items_of j)) i)) refl))
    of (Selector-F.Slice sl) = subst (λ z. EachGiven (IsChild j) (selector_meaning z setting j)) (sym (views.rolls-Slice sl))
        (subst (EachGiven (IsChild j)) (sym (meaning-Slice sl setting j)) (slice_found j sl))
    of (Selector-F.Filter t) = subst (λ z. EachGiven (IsChild j) (selector_meaning z setting j)) (sym (views.rolls-Filter t))
        (subst (EachGiven (IsChild j)) (sym (selector-Filter t setting j)) (filter_found setting t (IsChild j) (children j) (children_found n j w)))

-- ---- nodes

module _ (n : ℕ) (root : Json) (whole : IsWithin n root) where
  within : (m : Node) → IsFound root m → IsWithin n m.1
  within m h = found_within n m.0 root m.1 h whole

  picked_found : (setting : Setting) (m : Node) → IsFound root m → (s : Selector) → EachGiven (IsFound root) (picked setting m s)
  unfolding picked
  picked_found setting m h s = given_map (IsChild m.1) (IsFound root) (below_node m)
      (λ cs k. every_map (IsFound root) (λ (c : Token × Json). let r : Node = (m.0 ++ c.0 ∷ [], c.1) in r) cs (every_from (IsChild m.1) (λ c. IsFound root (m.0 ++ c.0 ∷ [], c.1)) (λ c e. found_next m.0 c.0 root m.1 c.1 h e) cs k))
      (selector_meaning s setting m.1) (selector_found n setting m.1 (within m h) s)

  all_of : {X : Type 0} (P : X → Type 0) → ((x : X) → P x) → (xs : List X) → Every P xs
  all_of P f [] = tt
  all_of P f (x ∷ xs) = (f x, all_of P f xs)

  chosen_found : (setting : Setting) (ss : List Selector) (m : Node) → IsFound root m → EachGiven (IsFound root) (chosen setting ss m)
  unfolding chosen
  chosen_found setting ss m h = each_all (IsFound root) (picked setting m) ss (all_of (λ s. EachGiven (IsFound root) (picked setting m s)) (picked_found setting m h) ss)

  all_found : (setting : Setting) (ss : List Selector) (ms : List Node) → Every (IsFound root) ms → EachGiven (IsFound root) (chosen_all setting ss ms)
  unfolding chosen_all
  all_found setting ss ms h = each_all (IsFound root) (chosen setting ss) ms (every_from (IsFound root) (λ m. EachGiven (IsFound root) (chosen setting ss m)) (chosen_found setting ss) ms h)

  grown_found : (o : Outcome (List Node)) → EachGiven (IsFound root) o → EachGiven (IsFound root) (grown [] o)
  grown_found (given ms) h = of (nat_lt widest (length ms))
    where
      of : (b : Bool) → EachGiven (IsFound root) (told_of (cond b (Err TooWide) (Ok ms)))
      of true = tt
      of false = h
  grown_found wide h = tt
  grown_found untold h = tt

  -- ---- descendants

  abbrev Below : Json → Type 0
  Below j = (p : List Token) → found_at p root ≡ Some j → Every (IsFound root) (preorder (p, j))

  leaf : (j : Json) → items_of j ≡ [] → members_of j ≡ [] → Below j
  leaf j i m p h = subst (Every (IsFound root)) (sym (preorder_nodes p j ∙ ap (λ js. (p, j) ∷ (item_nodes p 0 js ++ member_nodes p (members_of j))) i ∙ ap (λ ms. (p, j) ∷ (item_nodes p 0 [] ++ member_nodes p ms)) m)) (h, tt)

  items_below : (p : List Token) (k : ℕ) (js : List Json) → Each Below js → Every (λ q. IsFound root (p ++ Index q.0 ∷ [], q.1)) (enumerate_from k js) → Every (IsFound root) (item_nodes p k js)
  items_below p k [] inside h = tt
  items_below p k (j ∷ js) inside h = every_append (IsFound root) (preorder (p ++ Index k ∷ [], j)) (item_nodes p (k + 1) js) (inside.0 (p ++ Index k ∷ []) h.0) (items_below p (k + 1) js inside.1 h.1)

  members_below : (p : List Token) (ms : List Member) → EachValue Below ms → Every (λ m. IsFound root (p ++ Name m.name ∷ [], m.value)) ms → Every (IsFound root) (member_nodes p ms)
  members_below p [] inside h = tt
  members_below p (m ∷ ms) inside h = every_append (IsFound root) (preorder (p ++ Name m.name ∷ [], m.value)) (member_nodes p ms) (inside.0 (p ++ Name m.name ∷ []) h.0) (members_below p ms inside.1 h.1)

  list_below : (js : List Json) → Each Below js → Below (ListOf js)
  list_below js inside p h =
      let items : Every (λ q. IsChild (ListOf js) (item_child q)) (enumerate_from 0 js) = subst (λ ks. Every (λ q. IsChild (ListOf js) (item_child q)) (enumerate_from 0 ks)) (ap items_in (outs-List js)) (items_found (ListOf js)) in
      subst (Every (IsFound root)) (sym (preorder-List p js))
      (h, items_below p 0 js inside (every_from (λ q. IsChild (ListOf js) (item_child q)) (λ q. IsFound root (p ++ Index q.0 ∷ [], q.1)) (λ q e. found_next p (Index q.0) root (ListOf js) q.1 h e) (enumerate_from 0 js) items))

  object_below : (ms : List Member) → EachValue Below ms → Below (Object ms)
  object_below ms inside p h =
      let members : Every (λ m. IsChild (Object ms) (member_child m)) ms = subst (Every (λ m. IsChild (Object ms) (member_child m))) (ap members_in (outs-Object ms)) (members_found n (Object ms) (within (p, Object ms) h)) in
      subst (Every (IsFound root)) (sym (preorder-Object p ms))
      (h, members_below p ms inside (every_from (λ m. IsChild (Object ms) (member_child m)) (λ m. IsFound root (p ++ Name m.name ∷ [], m.value)) (λ m e. found_next p (Name m.name) root (Object ms) m.value h e) ms members))

  levels : Levels Below
  levels = record {
    null = leaf Null (ap items_in outs-Null) (ap members_in outs-Null);
    flag = λ b. leaf (Flag b) (ap items_in (outs-Flag b)) (ap members_in (outs-Flag b));
    int = λ z. leaf (Int z) (ap items_in (outs-Int z)) (ap members_in (outs-Int z));
    text = λ s. leaf (Text s) (ap items_in (outs-Text s)) (ap members_in (outs-Text s));
    list = list_below;
    object = object_below;
    opaque = leaf Opaque (ap items_in outs-Opaque) (ap members_in outs-Opaque);
  }

  descendants_found : (ms : List Node) → Every (IsFound root) ms → Every (IsFound root) (flat_map preorder ms)
  descendants_found [] h = tt
  descendants_found (m ∷ ms) h = every_append (IsFound root) (preorder m) (flat_map preorder ms) (induction Below levels m.1 m.0 h.0) (descendants_found ms h.1)

  -- ---- segments

  segment_found : (setting : Setting) (ms : List Node) → Every (IsFound root) ms → (s : Segment) → EachGiven (IsFound root) (segment_meaning s setting ms)
  segment_found setting ms h s = subst (λ z. EachGiven (IsFound root) (segment_meaning z setting ms)) (views.roll-out-Segment s) (of (views.out-Segment s))
    where
      of : (d : Segment-F Operand Segment Selector Test) → EachGiven (IsFound root) (segment_meaning (views.roll-Segment d) setting ms)
      of (Segment-F.Child ss) = subst (λ z. EachGiven (IsFound root) (segment_meaning z setting ms)) (sym (views.rolls-Child ss))
          (subst (EachGiven (IsFound root)) (sym (segment-Child ss setting ms)) (grown_found (chosen_all setting ss ms) (all_found setting ss ms h)))
      of (Segment-F.Descendant ss) = subst (λ z. EachGiven (IsFound root) (segment_meaning z setting ms)) (sym (views.rolls-Descendant ss))
          (subst (EachGiven (IsFound root)) (sym (segment-Descendant ss setting ms)) (grown_found (chosen_all setting ss (flat_map preorder ms)) (all_found setting ss (flat_map preorder ms) (descendants_found ms h))))

  run_found : (setting : Setting) (ss : List Segment) (ms : List Node) → Every (IsFound root) ms → EachGiven (IsFound root) (run (map segment_meaning ss) setting ms)
  run_found setting [] ms h = h
  run_found setting (s ∷ ss) ms h = of (segment_meaning s setting ms) (segment_found setting ms h s) (λ ns. run_found setting ss ns)
    where
      of : (o : Outcome (List Node)) → EachGiven (IsFound root) o → ((ns : List Node) → Every (IsFound root) ns → EachGiven (IsFound root) (run (map segment_meaning ss) setting ns)) → EachGiven (IsFound root) (and_then (run (map segment_meaning ss) setting) o)
      of (given ns) h f = f ns h
      of wide h f = tt
      of untold h f = tt

pub selected_is_found : (vs : List Segment) (root : Json) (patterns : PatternsView) → IsWellFormed root → EachGiven (IsFound root) (selected vs (setting_of patterns root))
unfolding selected
selected_is_found vs root patterns whole = run_found max_depth root whole (setting_of patterns root) vs (([], root) ∷ []) (refl, tt)
