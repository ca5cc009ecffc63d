-- What is to be done next while an answer is taken.
use Rattle.std.specs.Prelude.{ℕ, ◌≡◌, ◌+◌, Bool, true, false, List, [], ◌∷◌, length, Option, Some, None}
use Rattle.std.specs.Option.{ForSome}
use Rattle.arz_json.specs.Tree.{has_form}
use Rattle.arz_json.specs.declared.Json.TheVariants.{Object}
use Rattle.arz_scope.specs.Shallow.{AreShallow}
use Rattle.arz_runs.specs.ShallowRuns.{IsShallowState, leaves_send_at}
use Rattle.arz_scope.specs.declared.facts.Completion.{Completion}
use Rattle.arz_scope.specs.declared.facts.Fact.{Fact}
use Rattle.arz_scope.specs.Scopes.{with_fact}
use Rattle.arz_flow.specs.declared.answers.Answer.{Answer}
use Rattle.arz_flow.specs.declared.bundle.Bundle.{Bundle}
use Rattle.arz_relation.specs.Cases.{Case, with_step, result}
use Rattle.arz_relation.specs.Play.{Seen, Script, Give, Stops, NoStep}
use Rattle.arz_relation.specs.Verdicts.{Patterned}
use Rattle.arz_runs.specs.Rests.{Goes, Rests, rest_of, is_waiting}
use Rattle.arz_runs.specs.Runs.{run_at, step_at, attempting, opening}
use Rattle.arz_runs.specs.declared.frames.Frame.{Frame}
use Rattle.arz_runs.specs.declared.frames.Then.{Then}
use Rattle.arz_runs.specs.Plain.{is_plain}
use Rattle.arz_runs.specs.declared.look.Look.{Look}
use Rattle.arz_runs.specs.declared.goals.Goal.{Goal}
use Rattle.arz_runs.specs.declared.goals.Goal.TheVariants.{Attempt, Open, Over, Rest}

-- a fact of the innermost run
abbrev pub with_top : Option Fact → List Frame → List Frame
with_top None fs = fs
with_top (Some fact) [] = []
with_top (Some fact) (f ∷ fs) = record f { facts = with_fact fact f.facts } ∷ fs

module _ (told : Patterned) (b : Bundle) where
  -- an attempt of the step at an index of the innermost run
  abbrev pub attempt_in : List Frame → ℕ → Then → Seen → Script Case
  attempt_in [] i next seen = Stops NoStep
  attempt_in (f ∷ fs) i next seen = with_step (step_at b f.workflow i) (λ step. attempting told b (run_at f fs) i step next seen)

  -- what the code is to do next leads the execution on so; or it rests
  abbrev pub Lands : List Frame → List Completion → (sends : ℕ) → List Answer → Goal → Type 0
  Lands fs done sends r (Attempt i next) = Goes told b fs done sends r (attempt_in fs i next)
  Lands fs done sends r (Open o) = Goes told b fs done sends r (opening told b fs o.workflow o.inputs o.at o.purpose)
  Lands fs done sends r (Over e) = Goes told b fs done sends r (λ seen. Give (result e.completed e.outputs))
  Lands fs done sends r (Rest s) = Rests told b fs done sends s r

-- so many runs are open with the one that is looked at
abbrev pub IsOpenOver : Look → List Frame → Type 0
IsOpenOver l below = l.depth ≡ length below + 1

-- ---- what the code keeps of a goal

-- outputs of an end have a compact text
abbrev pub is_plain_goal : Goal → Bool
is_plain_goal (Attempt i next) = true
is_plain_goal (Open o) = true
is_plain_goal (Over e) = has_form (Object e.outputs)
is_plain_goal (Rest s) = is_plain s

-- each tree is shallow
abbrev pub IsShallowGoal : Goal → Type 0
IsShallowGoal (Attempt i next) = Unit {0}
IsShallowGoal (Open o) = AreShallow o.inputs
IsShallowGoal (Over e) = AreShallow e.outputs
IsShallowGoal (Rest s) = IsShallowState s

abbrev pub IsShallowFact : Option Fact → Type 0
IsShallowFact fact = ForSome fact (λ f. AreShallow f.outputs)

-- where a request is to be sent, fewer were sent than may be
abbrev pub leaves_send : (sends limit : ℕ) → Goal → Bool
leaves_send sends limit (Attempt i next) = true
leaves_send sends limit (Open o) = true
leaves_send sends limit (Over e) = true
leaves_send sends limit (Rest s) = leaves_send_at sends limit s

-- whether the innermost run is over
abbrev pub is_over : Goal → Bool
is_over (Attempt i next) = false
is_over (Open o) = false
is_over (Over e) = true
is_over (Rest s) = false

-- whether seconds are to pass, where no more is to be done
abbrev pub is_waiting_goal : Goal → Bool
is_waiting_goal (Attempt i next) = false
is_waiting_goal (Open o) = false
is_waiting_goal (Over e) = false
is_waiting_goal (Rest s) = is_waiting (rest_of s)
