-- The asks and the end of an execution, where `told` is what is told of patterns.
use Rattle.std.specs.Prelude.{ℕ, ◌+◌, ◌*◌, ◌≡◌, ◌≤◌, Bool, true, false, List, [], ◌++◌, if◌then◌else◌, Option, Some, None, length}
use Rattle.arz_flow.specs.declared.bundle.Bundle.{Bundle}
use Rattle.arz_flow.specs.declared.answers.Ask.{Ask}
use Rattle.arz_flow.specs.declared.answers.Ask.TheVariants.{Send, Wait}
use Rattle.arz_flow.specs.declared.answers.Answer.{Answer}
use Rattle.arz_flow.specs.declared.answers.Answer.TheVariants.{Reply as Replied, Served}
use Rattle.arz_relation.specs.declared.ends.End.{End}
use Rattle.arz_request.specs.declared.cause.Cause.TheVariants.{FractionUsed}
use Rattle.arz_relation.specs.declared.ends.End.TheVariants.{Completed as EndCompleted, Broke as EndBroke, Out as EndOut, Stuck as EndStuck, TooDeep as EndTooDeep, Budget as EndBudget}
use Rattle.arz_json.specs.Tree.{has_opaque}
use Rattle.arz_json.specs.declared.Json.TheVariants.{Object}
use Rattle.arz_json.specs.declared.Member.{Member}
use Rattle.arz_relation.specs.Play.{State, Result, Play, Spent, Lost, Out, Ends, Gives, Completed, Broke, NoStep, Untold, Stuck, TooDeep, Budget, play}
use Rattle.arz_flow.specs.declared.answers.Spot.{Spot}
use Rattle.arz_relation.specs.Documents.{workflows_in, longest}
use Rattle.arz_relation.specs.Cases.{Runs, script}
use Rattle.arz_relation.specs.Verdicts.{Patterned}

-- whether an answer fits its ask
abbrev pub fits : Ask → Answer → Bool
fits (Send q) (Replied y) = true
fits (Send q) Served = false
fits (Wait n) (Replied y) = false
fits (Wait n) Served = true

abbrev pub start : List Answer → State
start r = record { left = r; asked = []; done = []; turns = 0; most = 0 }

-- the place of a workflow
abbrev pub spot_of : List ℕ → Spot
spot_of workflow = record { workflow = workflow; step = None }

-- the execution over these answers, with this fuel: a run of the starting workflow with the setup's inputs
abbrev pub execution : Patterned → Bundle → List Answer → ℕ → Play
execution told b r n = play (script told b) n (Runs b.workflow b.inputs 1 (spot_of b.workflow)) (start r)

-- at most so many turns stand before each ask and before the end
abbrev pub pace : Bundle → ℕ
pace b = 264 + 66 * longest (workflows_in b.arazzo)

-- the fuel that suffices for this many answers
abbrev pub fuel : Bundle → (answers : ℕ) → ℕ
fuel b answers = (answers + 1) * pace b

abbrev pub whole : Patterned → Bundle → List Answer → Play
whole told b r = execution told b r (fuel b (length r))

abbrev pub asks_of : Play → List Ask
asks_of Spent = []
asks_of Lost = []
asks_of (Out q s) = s.asked
asks_of (Ends c s) = s.asked
asks_of (Gives o s) = s.asked

-- an end with these outputs, which may hold no Opaque
abbrev pub plain_end : List ℕ → List Member → End → End
plain_end workflow outputs e = if has_opaque (Object outputs) then EndStuck FractionUsed (spot_of workflow) else e

abbrev pub end_of_result : List ℕ → Result → End
end_of_result workflow (Completed outputs) = plain_end workflow outputs (EndCompleted outputs)
end_of_result workflow (Broke outputs) = plain_end workflow outputs (EndBroke outputs)

-- the end that a play of the starting workflow comes to
abbrev pub end_of : List ℕ → Play → Option End
end_of workflow Spent = None
end_of workflow Lost = None
end_of workflow (Out q s) = Some (EndOut q)
end_of workflow (Ends NoStep s) = None
end_of workflow (Ends Untold s) = None
end_of workflow (Ends (Stuck cause at) s) = Some (EndStuck cause at)
end_of workflow (Ends (TooDeep at) s) = Some (EndTooDeep at)
end_of workflow (Ends (Budget limit) s) = Some (EndBudget limit)
end_of workflow (Gives o s) = Some (end_of_result workflow o)

-- the play has come to an end, and took all answers
abbrev pub TookAll : Play → Type 0
TookAll Spent = ⊥
TookAll Lost = ⊥
TookAll (Out q s) = s.left ≡ []
TookAll (Ends c s) = s.left ≡ []
TookAll (Gives o s) = s.left ≡ []

-- the asks that were answered, in order
abbrev pub asks : Patterned → Bundle → List Answer → List Ask
asks told b r = asks_of (whole told b r)

-- the end of the execution
abbrev pub end : Patterned → Bundle → List Answer → Option End
end told b r = end_of b.workflow (whole told b r)

-- all of the answers were taken, and each fits its ask
abbrev pub Fitting : Patterned → Bundle → List Answer → Type 0
Fitting told b r = TookAll (whole told b r)

-- a play that needed no pattern of which nothing is told
abbrev pub is_told : Play → Bool
is_told Spent = true
is_told Lost = true
is_told (Out q s) = true
is_told (Ends NoStep s) = true
is_told (Ends Untold s) = false
is_told (Ends (Stuck cause at) s) = true
is_told (Ends (TooDeep at) s) = true
is_told (Ends (Budget limit) s) = true
is_told (Gives o s) = true

-- all that the execution needs of patterns is told
abbrev pub IsTold : Patterned → Bundle → List Answer → Type 0
IsTold told b r = is_told (whole told b r) ≡ true

abbrev pub HasPace : ℕ → Play → Type 0
HasPace m Spent = ⊥
HasPace m Lost = Unit {0}
HasPace m (Out q s) = (s.most ≤ m) × (s.turns ≤ m)
HasPace m (Ends c s) = (s.most ≤ m) × (s.turns ≤ m)
HasPace m (Gives o s) = (s.most ≤ m) × (s.turns ≤ m)

abbrev pub IsPrefixOf : List Ask → List Ask → Type 0
IsPrefixOf xs ys = (rest : List Ask) × (xs ++ rest ≡ ys)
