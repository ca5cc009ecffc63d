-- What a query selects, where places are kept and where they are left out.
use Rattle.std.proofs.Common.{◌≡◌, ℕ, ℤ, Result, List, [], ◌∷◌, ◌++◌, map, length, nat_lt, Bool, true, false, cond, Option, Some, None, Ok, Err, refl, sym, ap, ap₂, subst, ◌∙◌, append_assoc}
use Rattle.std.proofs.lemmas.List.{map-append, length-map}
use Rattle.std.specs.List.{flat_map}
use Rattle.std.specs.Prelude.{option_map}
use Rattle.arz_json.specs.declared.tree.Json.{Json}
use Rattle.arz_json.specs.declared.place.Token.{Token}
use Rattle.arz_query.specs.declared.query.Start.{Start}
use Rattle.arz_query.specs.declared.query.Start.TheVariants.{Root, Current}
use Rattle.arz_query.specs.declared.query.Segment.{Segment}
use Rattle.arz_query.specs.declared.query.Segment.TheVariants.{Child, Descendant}
use Rattle.arz_query.specs.declared.query.Selector.{Selector}
use Rattle.arz_query.specs.declared.query.Selector.TheVariants.{Name, Wildcard, Index, Slice as SliceOf, Filter}
use Rattle.arz_query.specs.declared.query.Slice.{Slice}
use Rattle.arz_query.specs.declared.query.Test.{Test}
use Rattle.arz_query.specs.declared.query.Operand.{Operand}
use Rattle.arz_query.specs.declared.query.Operand.TheOpen.{Segment-F}
use Rattle.arz_query.specs.declared.query.Operand.TheViews as views
use Rattle.arz_json.specs.Answer.{Gives}
use Rattle.arz_rx.specs.Patterns.{PatternsView}
use Rattle.arz_path.specs.declared.fault.SelectFault.{SelectFault}
use Rattle.arz_path.specs.declared.fault.SelectFault.TheVariants.{TooWide}
use Rattle.arz_path.specs.Results.{cause, Answers}
use Rattle.arz_path.specs.Outcome.{Outcome, given, wide, untold, and_then, outcome_map, each}
use Rattle.arz_path.specs.Tree.{Node, children, items_of, members_of, member_child, preorder}
use Rattle.arz_path.specs.Selected.{Setting, widest, told_of, kept, below_node, is_name, indexed, sliced, place_of, places, is_any, is_some_node, only, started, run, segment_meaning, selector_meaning, test_meaning}
use Rattle.arz_path.specs.Spots.{Spot, within, placed, further, spots_below, down, grown, sifted, picked_at, chosen_at, chosen_each, reached_in, reached, spots_after, spots_after_all}
use Rattle.arz_path.specs.Seen.{picked, chosen, chosen_all, kept_all, run_all, found_all, found_in, only_spot, spots_found, some_spot, places_told}
use Rattle.arz_path.specs.Begins.{begun}
use Rattle.arz_path.proofs.Faults.{grown_given}
use Rattle.arz_path.proofs.Levels.{preorder_down}
use Rattle.arz_path.proofs.Meanings.{meaning-Wildcard, meaning-Index, meaning-Slice}
use Rattle.arz_path.proofs.Parts.{each-map, segment-Child, segment-Descendant, selector-Name, selector-Filter, found-run, places-run, is_any-run}
use Rattle.std.specs.Prelude.{filter}

-- ---- lists of all

then_mapped : {A B : Type 0} (w : A → B) (o e : Outcome (List A)) →
    outcome_map (map w) (and_then (λ ys. outcome_map (λ more. ys ++ more) e) o) ≡ and_then (λ ys. outcome_map (λ more. ys ++ more) (outcome_map (map w) e)) (outcome_map (map w) o)
then_mapped w (given ys) (given zs) = ap given (map-append w ys zs)
then_mapped w (given ys) wide = refl
then_mapped w (given ys) untold = refl
then_mapped w wide e = refl
then_mapped w untold e = refl

pub each_mapped : {X A B : Type 0} (w : A → B) (f : X → Outcome (List A)) (g : X → Outcome (List B)) → ((x : X) → outcome_map (map w) (f x) ≡ g x) →
    (xs : List X) → outcome_map (map w) (each f xs) ≡ each g xs
each_mapped w f g h [] = refl
each_mapped {B = B} w f g h (x ∷ xs) = then_mapped w (f x) (each f xs)
    ∙ ap₂ (λ (o e : Outcome (List B)). and_then (λ ys. outcome_map (λ more. ys ++ more) e) o) (h x) (each_mapped w f g h xs)

each_same : {X Y : Type 0} (f g : X → Outcome (List Y)) → ((x : X) → f x ≡ g x) → (xs : List X) → each f xs ≡ each g xs
each_same f g h [] = refl
each_same {Y = Y} f g h (x ∷ xs) = ap₂ (λ (o e : Outcome (List Y)). and_then (λ ys. outcome_map (λ more. ys ++ more) e) o) (h x) (each_same f g h xs)

with_none : {Y : Type 0} (o : Outcome (List Y)) → o ≡ outcome_map (λ more. [] ++ more) o
with_none (given ys) = refl
with_none wide = refl
with_none untold = refl

then_joined : {Y : Type 0} (o a e : Outcome (List Y)) →
    and_then (λ ys. outcome_map (λ more. ys ++ more) (and_then (λ zs. outcome_map (λ more. zs ++ more) e) a)) o
    ≡ and_then (λ zs. outcome_map (λ more. zs ++ more) e) (and_then (λ ys. outcome_map (λ more. ys ++ more) a) o)
then_joined (given ys) (given zs) (given es) = ap given (sym (append_assoc ys zs es))
then_joined (given ys) (given zs) wide = refl
then_joined (given ys) (given zs) untold = refl
then_joined (given ys) wide e = refl
then_joined (given ys) untold e = refl
then_joined wide a e = refl
then_joined untold a e = refl

each_append : {X Y : Type 0} (f : X → Outcome (List Y)) (xs ys : List X) →
    each f (xs ++ ys) ≡ and_then (λ zs. outcome_map (λ more. zs ++ more) (each f ys)) (each f xs)
each_append f [] ys = with_none (each f ys)
each_append {Y = Y} f (x ∷ xs) ys = ap (λ (e : Outcome (List Y)). and_then (λ zs. outcome_map (λ more. zs ++ more) e) (f x)) (each_append f xs ys)
    ∙ then_joined (f x) (each f xs) (each f ys)

each_flat : {X Y Z : Type 0} (f : Y → Outcome (List Z)) (g : X → List Y) (xs : List X) → each f (flat_map g xs) ≡ each (λ x. each f (g x)) xs
each_flat f g [] = refl
each_flat {Z = Z} f g (x ∷ xs) = each_append f (g x) (flat_map g xs)
    ∙ ap (λ (e : Outcome (List Z)). and_then (λ zs. outcome_map (λ more. zs ++ more) e) (each f (g x))) (each_flat f g xs)

-- ---- what a selector selects

picked_as : (s : Setting) (n : Spot) (x : Selector) (cs : List (Token × Json)) → selector_meaning x s n.1 ≡ given cs → picked_at s n x ≡ given (spots_below n cs)
unfolding picked_at
picked_as s n x cs e = ap (outcome_map (spots_below n)) e

pub picked-Name : (k : List ℕ) (s : Setting) (n : Spot) → picked_at s n (Name k) ≡ given (spots_below n (filter (λ c. is_name k c.0) (map member_child (members_of n.1))))
picked-Name k s n = picked_as s n (Name k) _ (selector-Name k s n.1)

pub picked-Wildcard : (s : Setting) (n : Spot) → picked_at s n Wildcard ≡ given (spots_below n (children n.1))
picked-Wildcard s n = picked_as s n Wildcard _ (meaning-Wildcard s n.1)

picked-Index : (i : ℤ) (s : Setting) (n : Spot) → picked_at s n (Index i) ≡ given (spots_below n (indexed i (items_of n.1)))
picked-Index i s n = picked_as s n (Index i) _ (meaning-Index i s n.1)

-- an index that was read
pub answers-Index : (s : Setting) (n : Spot) (r : Result Unit SelectFault) (old new : List Spot) (p q : PatternsView) (i j : ℤ) →
    Gives (λ _. new) cause r (within (old ++ spots_below n (indexed j (items_of n.1)))) → j ≡ i → Answers (λ _. new) r (grown old (picked_at s n (Index i))) p q
answers-Index s n r old new p q i j h e = grown_given r old (spots_below n (indexed j (items_of n.1))) new (picked_at s n (Index i)) p q
    (picked-Index i s n ∙ ap (λ z. given (spots_below n (indexed z (items_of n.1)))) (sym e)) h

pub picked-Slice : (slice : Slice) (s : Setting) (n : Spot) → picked_at s n (SliceOf slice) ≡ given (spots_below n (sliced slice (items_of n.1)))
picked-Slice slice s n = picked_as s n (SliceOf slice) _ (meaning-Slice slice s n.1)

kept_below : (n : Spot) (c : Token × Json) (o : Outcome Bool) → outcome_map (spots_below n) (outcome_map (kept c) o) ≡ outcome_map (λ b. spots_below n (kept c b)) o
kept_below n c (given b) = refl
kept_below n c wide = refl
kept_below n c untold = refl

sifted_as : (s : Setting) (t : Test) (n : Spot) (cs : List (Token × Json)) → outcome_map (spots_below n) (kept_all s t cs) ≡ sifted s t n cs
unfolding kept_all sifted
sifted_as s t n cs = each_mapped (λ c. (further n.0 c.0, c.1)) (λ c. outcome_map (kept c) (test_meaning t s c.1)) (λ c. outcome_map (λ b. spots_below n (kept c b)) (test_meaning t s c.1))
    (λ c. kept_below n c (test_meaning t s c.1)) cs

pub picked-Filter : (t : Test) (s : Setting) (n : Spot) → picked_at s n (Filter t) ≡ sifted s t n (children n.1)
unfolding picked_at
picked-Filter t s n = ap (outcome_map (spots_below n)) (selector-Filter t s n.1) ∙ sifted_as s t n (children n.1)

-- ---- what a segment reaches

pub reached-Child : (s : Setting) (xs : List Selector) (n : Spot) → reached s (Child xs) n ≡ chosen_at s xs n
unfolding reached
reached-Child s xs n = ap (λ (d : Segment-F Operand Segment Selector Test). reached_in s d n) (views.outs-Child xs)

pub reached-Descendant : (s : Setting) (xs : List Selector) (n : Spot) → reached s (Descendant xs) n ≡ chosen_each s xs (down n)
unfolding reached
reached-Descendant s xs n = ap (λ (d : Segment-F Operand Segment Selector Test). reached_in s d n) (views.outs-Descendant xs)

-- ---- from the nodes of a tree

below_placed : (p : Option (List Token)) (q : List Token) (cs : List (Token × Json)) →
    map (placed p) (map (λ c. (q ++ c.0 ∷ [], c.1)) cs) ≡ map (λ c. (further (option_map (λ r. r ++ q) p) c.0, c.1)) cs
below_placed p q [] = refl
below_placed None q (c ∷ cs) = ap (λ (more : List Spot). (None, c.1) ∷ more) (below_placed None q cs)
below_placed (Some r) q (c ∷ cs) = ap₂ (λ (t : List Token) (more : List Spot). (Some t, c.1) ∷ more) (sym (append_assoc r q (c.0 ∷ []))) (below_placed (Some r) q cs)

module _ (p : Option (List Token)) (s : Setting) where
  picked_placed : (n : Node) (o : Outcome (List (Token × Json))) → outcome_map (map (placed p)) (outcome_map (below_node n) o) ≡ outcome_map (spots_below (placed p n)) o
  picked_placed n (given cs) = ap given (below_placed p n.0 cs)
  picked_placed n wide = refl
  picked_placed n untold = refl

  chosen_placed : (xs : List Selector) (n : Node) → outcome_map (map (placed p)) (chosen s xs n) ≡ chosen_at s xs (placed p n)
  unfolding chosen picked chosen_at picked_at
  chosen_placed xs n = each_mapped (placed p) (λ x. outcome_map (below_node n) (selector_meaning x s n.1)) (λ x. outcome_map (spots_below (placed p n)) (selector_meaning x s n.1))
      (λ x. picked_placed n (selector_meaning x s n.1)) xs

  all_placed : (xs : List Selector) (ns : List Node) → outcome_map (map (placed p)) (chosen_all s xs ns) ≡ each (λ n. chosen_at s xs (placed p n)) ns
  unfolding chosen_all
  all_placed xs ns = each_mapped (placed p) (chosen s xs) (λ n. chosen_at s xs (placed p n)) (chosen_placed xs) ns

  grown_placed : (o : Outcome (List Node)) → outcome_map (map (placed p)) (grown [] o) ≡ grown [] (outcome_map (map (placed p)) o)
  grown_placed (given ns) = of (nat_lt widest (length ns)) ∙ ap (λ m. told_of (cond (nat_lt widest m) (Err TooWide) (Ok (map (placed p) ns)))) (sym (length-map ns (placed p)))
    where
      of : (b : Bool) → outcome_map (map (placed p)) (told_of (cond b (Err TooWide) (Ok ns))) ≡ told_of (cond b (Err TooWide) (Ok (map (placed p) ns)))
      of true = refl
      of false = refl
  grown_placed wide = refl
  grown_placed untold = refl

  down_placed : (ns : List Node) → map (placed p) (flat_map preorder ns) ≡ flat_map down (map (placed p) ns)
  down_placed [] = refl
  down_placed (n ∷ ns) = map-append (placed p) (preorder n) (flat_map preorder ns) ∙ ap₂ (λ (xs ys : List Spot). xs ++ ys) (preorder_down p n) (down_placed ns)

  child_placed : (xs : List Selector) (ns : List Node) → outcome_map (map (placed p)) (segment_meaning (Child xs) s ns) ≡ spots_after s (Child xs) (map (placed p) ns)
  unfolding spots_after
  child_placed xs ns = ap (outcome_map (map (placed p))) (segment-Child xs s ns) ∙ grown_placed (chosen_all s xs ns)
      ∙ ap (grown []) (all_placed xs ns ∙ sym (each-map (chosen_at s xs) (placed p) ns) ∙ each_same (chosen_at s xs) (reached s (Child xs)) (λ n. sym (reached-Child s xs n)) (map (placed p) ns))

  each_down : (xs : List Selector) (ns : List Spot) → each (chosen_at s xs) (flat_map down ns) ≡ each (reached s (Descendant xs)) ns
  unfolding chosen_each
  each_down xs ns = each_flat (chosen_at s xs) down ns ∙ each_same (λ n. each (chosen_at s xs) (down n)) (reached s (Descendant xs)) (λ n. sym (reached-Descendant s xs n)) ns

  descendant_placed : (xs : List Selector) (ns : List Node) → outcome_map (map (placed p)) (segment_meaning (Descendant xs) s ns) ≡ spots_after s (Descendant xs) (map (placed p) ns)
  unfolding spots_after
  descendant_placed xs ns = ap (outcome_map (map (placed p))) (segment-Descendant xs s ns) ∙ grown_placed (chosen_all s xs (flat_map preorder ns))
      ∙ ap (grown []) (all_placed xs (flat_map preorder ns) ∙ sym (each-map (chosen_at s xs) (placed p) (flat_map preorder ns))
      ∙ ap (each (chosen_at s xs)) (down_placed ns) ∙ each_down xs (map (placed p) ns))

  segment_placed : (v : Segment) (ns : List Node) → outcome_map (map (placed p)) (segment_meaning v s ns) ≡ spots_after s v (map (placed p) ns)
  segment_placed v ns = subst (λ z. outcome_map (map (placed p)) (segment_meaning z s ns) ≡ spots_after s z (map (placed p) ns)) (views.roll-out-Segment v) (of (views.out-Segment v))
    where
      of : (d : Segment-F Operand Segment Selector Test) → outcome_map (map (placed p)) (segment_meaning (views.roll-Segment d) s ns) ≡ spots_after s (views.roll-Segment d) (map (placed p) ns)
      of (Segment-F.Child xs) = subst (λ z. outcome_map (map (placed p)) (segment_meaning z s ns) ≡ spots_after s z (map (placed p) ns)) (sym (views.rolls-Child xs)) (child_placed xs ns)
      of (Segment-F.Descendant xs) = subst (λ z. outcome_map (map (placed p)) (segment_meaning z s ns) ≡ spots_after s z (map (placed p) ns)) (sym (views.rolls-Descendant xs)) (descendant_placed xs ns)

  pub run_placed : (vs : List Segment) (ns : List Node) → outcome_map (map (placed p)) (run_all s vs ns) ≡ spots_after_all s vs (map (placed p) ns)
  unfolding run_all spots_after_all
  run_placed [] ns = refl
  run_placed (v ∷ vs) ns = of (λ ms. run_placed vs ms) (segment_meaning v s ns) ∙ ap (and_then (spots_after_all s vs)) (segment_placed v ns)
    where
      of : ((ms : List Node) → outcome_map (map (placed p)) (run (map segment_meaning vs) s ms) ≡ spots_after_all s vs (map (placed p) ms)) →
          (o : Outcome (List Node)) → outcome_map (map (placed p)) (and_then (run (map segment_meaning vs) s) o) ≡ and_then (spots_after_all s vs) (outcome_map (map (placed p)) o)
      of later (given ms) = later ms
      of later wide = refl
      of later untold = refl

-- ---- whole queries

through_placed : {Y : Type 0} (p : Option (List Token)) (f : List Node → Y) (h : List Spot → Y) → ((ns : List Node) → f ns ≡ h (map (placed p) ns)) →
    (o : Outcome (List Node)) → outcome_map f o ≡ outcome_map h (outcome_map (map (placed p)) o)
through_placed p f h e (given ns) = ap given (e ns)
through_placed p f h e wide = refl
through_placed p f h e untold = refl

found_placed : (ns : List Node) → found_in ns ≡ spots_found (map (placed None) ns)
found_placed ns = ap₂ (λ (n : ℕ) (o : Option Json). (n, o)) (sym (length-map ns (placed None))) (only_one ns)
  where
    only_one : (ns : List Node) → only ns ≡ only_spot (map (placed None) ns)
    only_one [] = refl
    only_one (n ∷ []) = refl
    only_one (n ∷ m ∷ ns) = refl

begun-started : (setting : Setting) (current : Json) (start : Start) → started start setting current ≡ begun start setting.root current
begun-started setting current Root = refl
begun-started setting current Current = refl

pub found-spots : (setting : Setting) (current : Json) (start : Start) (vs : List Segment) →
    outcome_map found_in (found_all setting current start vs) ≡ outcome_map spots_found (spots_after_all setting vs ((None, begun start setting.root current) ∷ []))
found-spots setting current start vs = ap (outcome_map found_in) (found-run setting current start vs)
    ∙ through_placed None found_in spots_found found_placed (run_all setting vs (([], started start setting current) ∷ []))
    ∙ ap (outcome_map spots_found) (run_placed None setting vs (([], started start setting current) ∷ []))
    ∙ ap (λ j. outcome_map spots_found (spots_after_all setting vs ((None, j) ∷ []))) (begun-started setting current start)

some_placed : (ns : List Node) → is_some_node ns ≡ some_spot (map (placed None) ns)
some_placed [] = refl
some_placed (n ∷ ns) = refl

pub is_any-spots : (vs : List Segment) (setting : Setting) → is_any vs setting ≡ outcome_map some_spot (spots_after_all setting vs ((None, setting.root) ∷ []))
is_any-spots vs setting = is_any-run vs setting
    ∙ through_placed None is_some_node some_spot some_placed (run_all setting vs (([], setting.root) ∷ []))
    ∙ ap (outcome_map some_spot) (run_placed None setting vs (([], setting.root) ∷ []))

places_placed : (ns : List Node) → map place_of ns ≡ places_told (map (placed (Some [])) ns)
places_placed [] = refl
places_placed (n ∷ ns) = ap (λ (more : List (List Token)). n.0 ∷ more) (places_placed ns)

pub places-spots : (vs : List Segment) (setting : Setting) → places vs setting ≡ outcome_map places_told (spots_after_all setting vs ((Some [], setting.root) ∷ []))
places-spots vs setting = places-run vs setting
    ∙ through_placed (Some []) (map place_of) places_told places_placed (run_all setting vs (([], setting.root) ∷ []))
    ∙ ap (outcome_map places_told) (run_placed (Some []) setting vs (([], setting.root) ∷ []))
