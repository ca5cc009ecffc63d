-- What reading and applying an overlay answer.
use Rattle.std.specs.Prelude.{◌≡◌, ◌≢◌, ◌≤◌, ℕ, List, [], ◌∷◌, ◌++◌, map, pos, Bool, true, codes, Option, Some, None, Result, Ok, Err}
use Rattle.std.specs.List.{list_all}
use Rattle.std.specs.Option.{is_some}
use Rattle.std.specs.Cmp.Lexicographic.{slice_cmp}
use Rattle.std.specs.Ordering.{nat_cmp}
use Rattle.std.specs.BTreeMap.{get_by}
use Rattle.arz_json.specs.Tree.{has_form, depth}
use Rattle.arz_json.specs.declared.tree.Json.{Json}
use Rattle.arz_json.specs.declared.tree.Json.TheVariants.{Int, Text}
use Rattle.arz_json.specs.declared.tree.Refusal.{Refusal}
use Rattle.arz_json.specs.declared.place.Token.{Token}
use Rattle.arz_json.specs.declared.place.Token.TheVariants.{Name, Index}
use Rattle.arz_rx.specs.Patterns.{PatternsView, Rose}
use Rattle.arz_query.specs.declared.fault.PathFault.{PathFault}
use Rattle.arz_query.specs.declared.fault.PathFault.TheVariants as path_fault
use Rattle.arz_rules.specs.declared.phases.RuleFault.{RuleFault}
use Rattle.arz_rules.specs.declared.phases.RuleFault.TheVariants as rule_fault
use Rattle.arz_rules.specs.Phases.{failure_or, told_or, refusal}
use Rattle.arz_rules.specs.Place.{least, under}
use Rattle.arz_rules.specs.Sites.{in_items}
use Rattle.arz_wire.specs.Spelling.{spelling}
use Rattle.arz_changes.specs.declared.changing.ChangeFault.{ChangeFault}
use Rattle.arz_changes.specs.declared.changing.ChangeFault.TheVariants as change
use Rattle.arz_overlay.specs.declared.fault.OverlayFault.{OverlayFault}
use Rattle.arz_overlay.specs.declared.fault.OverlayFault.TheVariants as fault
use Rattle.arz_overlay.specs.declared.fault.StepFault.{StepFault}
use Rattle.arz_overlay.specs.declared.fault.StepFault.TheVariants as step
use Rattle.arz_overlay.specs.declared.once.KeySet.{KeySet}
use Rattle.arz_overlay.specs.declared.working.Work.{Work}
use Rattle.arz_overlay.specs.Documents.{actions_in, action_place, target_of, is_query, bad_target}
use Rattle.arz_changes.specs.Merging.{no_target, no_match}
use Rattle.arz_changes.specs.Weight.{weight}

-- the refusal of a fault; of want of memory, and of a pattern, there is none
abbrev pub refusal_in : OverlayFault → Option Refusal
refusal_in (fault.Refused r) = Some r
refusal_in fault.Pattern = None
refusal_in fault.Memory = None

abbrev pub from_rule : RuleFault → OverlayFault
from_rule (rule_fault.Refused r) = fault.Refused r
from_rule rule_fault.Memory = fault.Memory

-- this is what is meant, where anything is told of it
abbrev pub Says : {X : Type 0} → Option X → X → Type 0
Says None x = Unit {0}
Says (Some meant) x = meant ≡ x

-- the tree that is meant, of a value as view shows it, or the refusal that is meant; or a pattern was too
-- big; or memory ran out
abbrev pub Applies : {X : Type 0} → (X → Json) → Result X OverlayFault → Option (Result Json Refusal) → PatternsView → PatternsView → Type 0
Applies view (Ok x) meant old new = Says meant (Ok (view x))
Applies view (Err (fault.Refused r)) meant old new = Says meant (Err r)
Applies view (Err fault.Pattern) meant old new = Rose old.too_big new.too_big
Applies view (Err fault.Memory) meant old new = Unit {0}

-- ---- for private clauses

abbrev pub rule_in : StepFault → Option ℕ
rule_in (step.Rule n) = Some n
rule_in step.Memory = None

abbrev pub from_change : ChangeFault → StepFault
from_change change.Target = step.Rule no_target
from_change change.Mismatch = step.Rule no_match
from_change change.Memory = step.Memory

-- a document that was read is in form, its queries are its targets, and each is one
pub record IsKept (tree : Json) (queries : List (List ℕ)) : Type 0 where
  pub form : has_form tree ≡ true
  pub targets : queries ≡ map target_of (actions_in tree)
  pub spelled : list_all is_query queries ≡ true

-- the query that was read, or none where the text is none
abbrev pub ReadAs : Result (List ℕ) PathFault → Option (List ℕ) → Type 0
ReadAs (Ok q) o = o ≡ Some q
ReadAs (Err e) o = (o ≡ None) × (e ≢ path_fault.Memory)

-- the targets, or the refusal of the first that is no query
abbrev pub targets : List ℕ → List Json → Result (List (List ℕ)) Refusal
targets label actions = told_or label (failure_or 15 (least (under (Name (codes "actions")) (in_items bad_target 0 actions))) None) (Ok (map target_of actions))

-- the tree is in form, its bytes are counted, and it nests at most so deep where it is said to be shallow
pub record Keeps (w : Work) : Type 0 where
  pub form : has_form w.tree ≡ true
  pub weighs : w.weight ≡ weight w.tree
  pub nests : w.is_shallow ≡ true → depth w.tree ≤ 127

abbrev pub tree_of_work : Work → Json
tree_of_work w = w.tree

-- what an action at places comes to, as it is told
abbrev pub told_at : List ℕ → ℕ → Result Json ℕ → Result Json Refusal
told_at label k (Ok j) = Ok j
told_at label k (Err rule) = Err (refusal label (rule, action_place k))

-- ---- places by bytes that no other place has

abbrev pub token_tree : Token → Json
token_tree (Name s) = Text s
token_tree (Index i) = Int (pos i)

abbrev pub key_of : List Token → List ℕ
key_of [] = []
key_of (t ∷ ts) = spelling (token_tree t) ++ key_of ts

abbrev pub has_key : KeySet → List ℕ → Bool
has_key keys q = is_some (get_by (λ k. slice_cmp nat_cmp q k.now) keys.there)
