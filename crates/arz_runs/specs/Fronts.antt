-- The runs that are open while more are made.
use Rattle.std.specs.Prelude.{ℕ, ◌≡◌, ◌<◌, if◌then◌else◌, List, [], ◌∷◌, ◌++◌, length, drop, reverse, Option, Some, None}
use Rattle.std.specs.Option.{option_copied}
use Rattle.arz_scope.specs.declared.facts.Completion.{Completion}
use Rattle.arz_scope.specs.declared.facts.Fact.{Fact}
use Rattle.arz_scope.specs.Scopes.{with_completion}
use Rattle.arz_scope.specs.Speaking.{completions_after}
use Rattle.arz_flow.specs.declared.answers.Answer.{Answer}
use Rattle.arz_flow.specs.declared.bundle.Bundle.{Bundle}
use Rattle.arz_relation.specs.Cases.{depend, is_recorded, result, script}
use Rattle.arz_relation.specs.Documents.{depends_of}
use Rattle.arz_relation.specs.Play.{Result, Completed, Broke, NoStep, Seen, Stops}
use Rattle.arz_relation.specs.Verdicts.{Patterned}
use Rattle.arz_runs.specs.Runs.{run_at, Goal}
use Rattle.arz_runs.specs.Planned.{IsStepAt}
use Rattle.arz_runs.specs.Rests.{Goes}
use Rattle.arz_runs.specs.Scenes.{bundle_in, run_in, scene}
use Rattle.arz_runs.specs.Turns.{with_top, attempt_in, Lands}
use Rattle.arz_runs.specs.declared.frames.Frame.{Frame}
use Rattle.arz_runs.specs.declared.front.Front.{Front}
use Rattle.arz_runs.specs.declared.frames.Then.{Then}
use Rattle.arz_runs.specs.declared.goals.Ending.{Ending}
use Rattle.arz_runs.specs.declared.goals.Goal.{Goal as Turn}
use Rattle.arz_runs.specs.declared.goals.Goal.TheVariants.{Attempt, Open, Over, Rest}
use Rattle.arz_runs.specs.declared.look.Look.{Look}
use Rattle.arz_runs.specs.declared.plans.Planned.{Planned}

abbrev pub bundle_at : Front → Bundle
bundle_at f = f.ground.now.bundle.now

abbrev pub done_at : Front → List Completion
done_at f = completions_after f.newly.now f.done.now

-- the open runs, innermost first, where these were made, of which the innermost is the last
abbrev pub runs_open : Front → (made : List Frame) → List Frame
runs_open f made = reverse made ++ with_top (option_copied f.fact) (reverse f.frames.now)

-- ---- for private clauses: the dependencies of a run

-- the completions after a run with this result
abbrev pub completed_more : Frame → Result → List Completion → List Completion
completed_more f (Completed outputs) done = with_completion (record { workflow = f.workflow; inputs = f.inputs; outputs = outputs }) done
completed_more f (Broke outputs) done = done

-- how a run ended
abbrev pub result_of : Ending → Result
result_of e = result e.completed e.outputs

-- those from the first on that isn't recorded
abbrev pub unrecorded : List Completion → List (List ℕ) → List (List ℕ)
unrecorded done [] = []
unrecorded done (w ∷ ws) = if is_recorded w done then unrecorded done ws else w ∷ ws

-- from this index on, the first that isn't recorded has this one; or each is recorded
abbrev pub IsNextDependency : List Completion → List (List ℕ) → (from : ℕ) → Option ℕ → Type 0
IsNextDependency done ws from None = unrecorded done (drop from ws) ≡ []
IsNextDependency done ws from (Some i) = (i < length ws) × (unrecorded done (drop from ws) ≡ drop i ws)

-- the dependencies of the run from this index on come next
abbrev pub depends_from : Patterned → Bundle → Frame → (below : List Frame) → (from : ℕ) → Goal
depends_from told b f below from = script told b (depend (run_at f below) (drop from (depends_of b f.workflow)))

-- ---- for private clauses: a step that is looked at

-- this run is looked at, which is so deep, where this fact comes after its own and these are the completions, and this is its
-- step at the index
pub record IsLookedAt (b : Bundle) (frame : Frame) (depth : ℕ) (fact : Option Fact) (done : List Completion) (index : ℕ) (l : Look) (p : Planned) : Type 0 where
  pub bundle : bundle_in l ≡ b
  pub frame_is : l.frame.now ≡ frame
  pub depth_is : l.depth ≡ depth
  pub fact_is : option_copied l.fact ≡ fact
  pub done_are : (scene l).done ≡ done
  pub step : IsStepAt (bundle_in l) l.frame.now.workflow index (Some p)

-- the step at this index of the innermost run is looked at
pub record IsOnTop (b : Bundle) (fs : List Frame) (done : List Completion) (index : ℕ) (l : Look) (p : Planned) : Type 0 where
  pub frame : Frame
  pub below : List Frame
  pub runs : fs ≡ frame ∷ below
  pub bundle : bundle_in l ≡ b
  pub run : run_in l ≡ run_at frame below
  pub done_are : (scene l).done ≡ done
  pub step : IsStepAt (bundle_in l) l.frame.now.workflow index (Some p)

-- the innermost run has no step at this index, or no run is open
abbrev pub IsAbsent : Bundle → List Frame → (index : ℕ) → Type 0
IsAbsent b fs index = (told : Patterned) (next : Then) (seen : Seen) → attempt_in told b fs index next seen ≡ Stops NoStep

-- how many turns may follow, but for those of runs that are made
abbrev pub weight : Turn → ℕ
weight (Attempt i next) = 2
weight (Open o) = 1
weight (Over e) = 0
weight (Rest s) = 0

-- a step is attempted in the innermost run, and this is to be done next
abbrev pub Attempts : Front → List Frame → (index : ℕ) → Then → Turn → Type 0
Attempts f made i next goal = (told : Patterned) (r : List Answer)
    → Goes told (bundle_at f) (runs_open f made) (done_at f) f.sends r (attempt_in told (bundle_at f) (runs_open f made) i next)
    → Lands told (bundle_at f) (runs_open f made) (done_at f) f.sends r goal
