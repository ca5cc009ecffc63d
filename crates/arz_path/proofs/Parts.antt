-- What each part of a query means, as the code goes.
use Rattle.std.proofs.Common.{◌≡◌, ℕ, List, [], ◌∷◌, ◌++◌, map, length, nat_lt, Option, refl, ap, ap₂, ◌∙◌, arith}
use Rattle.std.proofs.lemmas.Grind.{common_steps}
use Rattle.std.specs.List.{flat_map, list_any, list_all}
use Rattle.std.specs.Prelude.{filter}
use Rattle.arz_json.specs.declared.tree.Json.{Json}
use Rattle.arz_query.specs.declared.query.Start.{Start}
use Rattle.arz_query.specs.declared.query.Segment.{Segment}
use Rattle.arz_query.specs.declared.query.Segment.TheVariants.{Child, Descendant}
use Rattle.arz_query.specs.declared.query.Selector.{Selector}
use Rattle.arz_query.specs.declared.query.Selector.TheVariants.{Name, Filter}
use Rattle.arz_query.specs.declared.query.Test.{Test}
use Rattle.arz_query.specs.declared.query.Test.TheVariants.{Any, All, Exists}
use Rattle.arz_query.specs.declared.query.Operand.TheVariants.{Query as QueryOf, Count, Value}
use Rattle.arz_path.specs.Outcome.{Outcome, given, wide, untold, and_then, outcome_map, each, parts}
use Rattle.arz_path.specs.Tree.{Node, children, members_of, member_child, preorder}
use Rattle.arz_path.specs.Selected.{places, is_any, place_of, selected, Setting, SelectorMeaning, TestMeaning, limited, below_node, is_name, is_some_node, only, count_of, started, segment_meaning, selector_meaning, test_meaning, operand_meaning}
use Rattle.arz_path.specs.Spots.{grown}
use Rattle.arz_path.specs.Seen.{chosen, chosen_all, picked, kept_all, tested_all, run_all, found_all, found_in}
use Rattle.arz_path.proofs.Levels.{named_children}
use Rattle.arz_path.proofs.Meanings.{meaning-Child, meaning-Descendant, meaning-Name, meaning-Filter, meaning-Any, meaning-All, meaning-Exists, meaning-Query, meaning-Count, meaning-Value}

pub each-map : {X Y Z : Type 0} (f : Y → Outcome (List Z)) (h : X → Y) (xs : List X) → each f (map h xs) ≡ each (λ x. f (h x)) xs
each-map f h [] = refl
each-map {Z = Z} f h (x ∷ xs) = ap (λ (o : Outcome (List Z)). and_then (λ ys. outcome_map (λ more. ys ++ more) o) (f (h x))) (each-map f h xs)

-- ---- segments

each_node : (setting : Setting) (ss : List Selector) (ns : List Node) →
    each (λ n. each (λ (s : SelectorMeaning). outcome_map (below_node n) (s setting n.1)) (map selector_meaning ss)) ns ≡ chosen_all setting ss ns
unfolding chosen_all chosen picked
each_node setting ss [] = refl
each_node setting ss (n ∷ ns) = ap₂ (λ (o p : Outcome (List Node)). and_then (λ ys. outcome_map (λ more. ys ++ more) p) o)
    (each-map (λ (s : SelectorMeaning). outcome_map (below_node n) (s setting n.1)) selector_meaning ss) (each_node setting ss ns)

from_none : (o : Outcome (List Node)) → and_then limited o ≡ grown [] o
from_none (given ns) = refl
from_none wide = refl
from_none untold = refl

pub segment-Child : (ss : List Selector) (setting : Setting) (ns : List Node) → segment_meaning (Child ss) setting ns ≡ grown [] (chosen_all setting ss ns)
segment-Child ss setting ns = meaning-Child ss setting ns ∙ ap (and_then limited) (each_node setting ss ns) ∙ from_none (chosen_all setting ss ns)

pub segment-Descendant : (ss : List Selector) (setting : Setting) (ns : List Node) → segment_meaning (Descendant ss) setting ns ≡ grown [] (chosen_all setting ss (flat_map preorder ns))
segment-Descendant ss setting ns = meaning-Descendant ss setting ns ∙ ap (and_then limited) (each_node setting ss (flat_map preorder ns)) ∙ from_none (chosen_all setting ss (flat_map preorder ns))

-- ---- selectors

pub selector-Name : (k : List ℕ) (setting : Setting) (j : Json) → selector_meaning (Name k) setting j ≡ given (filter (λ c. is_name k c.0) (map member_child (members_of j)))
selector-Name k setting j = meaning-Name k setting j ∙ ap given (named_children k j)

pub selector-Filter : (t : Test) (setting : Setting) (j : Json) → selector_meaning (Filter t) setting j ≡ kept_all setting t (children j)
unfolding kept_all
selector-Filter t setting j = meaning-Filter t setting j

-- ---- expressions

tests : (ts : List Test) (setting : Setting) (current : Json) → parts (λ (t : TestMeaning). t setting current) (map test_meaning ts) ≡ tested_all setting current ts
unfolding tested_all
tests ts setting current = each-map (λ (t : TestMeaning). outcome_map (λ b. b ∷ []) (t setting current)) test_meaning ts

pub test-Any : (ts : List Test) (setting : Setting) (current : Json) → test_meaning (Any ts) setting current ≡ outcome_map (list_any (λ b. b)) (tested_all setting current ts)
test-Any ts setting current = meaning-Any ts setting current ∙ ap (outcome_map (list_any (λ b. b))) (tests ts setting current)

pub test-All : (ts : List Test) (setting : Setting) (current : Json) → test_meaning (All ts) setting current ≡ outcome_map (list_all (λ b. b)) (tested_all setting current ts)
test-All ts setting current = meaning-All ts setting current ∙ ap (outcome_map (list_all (λ b. b))) (tests ts setting current)

pub test-Exists : (start : Start) (ss : List Segment) (setting : Setting) (current : Json) → test_meaning (Exists start ss) setting current ≡ outcome_map is_some_node (found_all setting current start ss)
unfolding found_all
test-Exists start ss setting current = meaning-Exists start ss setting current

-- ---- operands

pub operand-Query : (start : Start) (ss : List Segment) (setting : Setting) (current : Json) → operand_meaning (QueryOf start ss) setting current ≡ outcome_map only (found_all setting current start ss)
unfolding found_all
operand-Query start ss setting current = meaning-Query start ss setting current

pub operand-Value : (start : Start) (ss : List Segment) (setting : Setting) (current : Json) → operand_meaning (Value start ss) setting current ≡ outcome_map only (found_all setting current start ss)
unfolding found_all
operand-Value start ss setting current = meaning-Value start ss setting current

pub operand-Count : (start : Start) (ss : List Segment) (setting : Setting) (current : Json) → operand_meaning (Count start ss) setting current ≡ outcome_map count_of (found_all setting current start ss)
unfolding found_all
operand-Count start ss setting current = meaning-Count start ss setting current

-- ---- queries inside filters

pub found-run : (setting : Setting) (current : Json) (start : Start) (ss : List Segment) → found_all setting current start ss ≡ run_all setting ss (([], started start setting current) ∷ [])
unfolding found_all run_all
found-run setting current start ss = refl

pub places-run : (vs : List Segment) (setting : Setting) → places vs setting ≡ outcome_map (map place_of) (run_all setting vs (([], setting.root) ∷ []))
unfolding places selected run_all
places-run vs setting = refl

pub is_any-run : (vs : List Segment) (setting : Setting) → is_any vs setting ≡ outcome_map is_some_node (run_all setting vs (([], setting.root) ∷ []))
unfolding is_any selected run_all
is_any-run vs setting = refl

-- what follows from how many nodes there are and the value of the only one
pub of_found : {Y : Type 0} (f : List Node → Y) (h : ℕ × Option Json → Y) → ((ns : List Node) → f ns ≡ h (found_in ns)) →
    (o : Outcome (List Node)) → outcome_map f o ≡ outcome_map h (outcome_map found_in o)
of_found f h e (given ns) = ap given (e ns)
of_found f h e wide = refl
of_found f h e untold = refl

pub some_found : (ns : List Node) → is_some_node ns ≡ nat_lt 0 (length ns)
some_found [] = refl
some_found (n ∷ ns) = grind (arith, common_steps)
