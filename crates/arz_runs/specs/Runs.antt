-- The runs that are open, innermost first, and what follows their results in the workflow relation.
use Rattle.std.specs.Prelude.{ℕ, ◌+◌, List, [], ◌∷◌, length, drop, slice_get, Option, Some, None}
use Rattle.arz_json.specs.declared.Json.{Json}
use Rattle.arz_json.specs.declared.Member.{Member}
use Rattle.arz_flow.specs.declared.answers.Spot.{Spot}
use Rattle.arz_flow.specs.declared.bundle.Bundle.{Bundle}
use Rattle.arz_relation.specs.declared.retries.Count.{Count}
use Rattle.arz_relation.specs.Cases.{Run, Case, Runs, Enters, Tried, give, acts, enters_again, after_inner, enters_after, after_dependency, after_run, depend, attempt}
use Rattle.arz_relation.specs.Documents.{steps_of, depends_of}
use Rattle.arz_relation.specs.Play.{Result, Seen, Script, Give, Plays}
use Rattle.arz_relation.specs.Stands.{Follow}
use Rattle.arz_relation.specs.Verdicts.{Patterned}
use Rattle.arz_runs.specs.declared.frames.Frame.{Frame}
use Rattle.arz_runs.specs.declared.frames.Purpose.{Purpose}
use Rattle.arz_runs.specs.declared.frames.Purpose.TheVariants.{Execution, Dependency, Attempt, Instead, Before}
use Rattle.arz_runs.specs.declared.frames.Then.{Then}
use Rattle.arz_runs.specs.declared.frames.Then.TheVariants.{Acts, Again}

-- the run of a frame, where these are open below it
abbrev pub run_at : Frame → (below : List Frame) → Run
run_at f below = record { workflow = f.workflow; inputs = f.inputs; depth = length below + 1; facts = f.facts }

-- a step of a workflow, by its index
abbrev pub step_at : Bundle → (workflow : List ℕ) → ℕ → Option Json
step_at b workflow i = slice_get (steps_of b workflow) i

-- what is to be done next, by what was asked and completed
abbrev pub Goal : Type 0
Goal = Seen → Script Case

module _ (told : Patterned) (b : Bundle) where
  -- what follows an attempt of a step
  abbrev pub then_of : (step : ℕ) → Json → Then → Tried → Seen → Script Case
  then_of i step (Acts counts) = acts told b i step counts
  then_of i step (Again j counts) = enters_again j counts

  -- what follows the result of a run that an attempt made
  abbrev pub after_made : Run → (step : ℕ) → Then → Option Json → Follow
  after_made r i next None = give
  after_made r i next (Some step) = after_inner told b r step (then_of i step next)

  -- what follows a result for the runs below, by what it is for
  abbrev pub resume : Purpose → (below : List Frame) → Follow
  resume p [] = give
  resume Execution (f ∷ fs) = give
  resume Instead (f ∷ fs) = give
  resume (Dependency n) (f ∷ fs) = after_dependency (run_at f fs) (drop n (depends_of b f.workflow))
  resume (Attempt i next) (f ∷ fs) = after_made (run_at f fs) i next (step_at b f.workflow i)
  resume (Before i counts) (f ∷ fs) = enters_after (run_at f fs) i counts

  -- what follows the result of the innermost run
  abbrev pub continues : List Frame → List Follow
  continues [] = []
  continues (f ∷ fs) = after_run f.workflow f.inputs ∷ resume f.purpose fs ∷ continues fs

  -- ---- what is to be done next in the innermost run

  -- an attempt of a step
  abbrev pub attempting : Run → (step : ℕ) → Json → Then → Goal
  attempting r i step next seen = attempt told b r step seen (then_of i step next)

  -- the step is entered, or tried again
  abbrev pub entering : Run → (step : ℕ) → List Count → Goal
  entering r i counts seen = Plays (Enters r i counts) give

  -- these dependencies come next
  abbrev pub depending : Run → List (List ℕ) → Goal
  depending r ws seen = Plays (depend r ws) give

  -- another run is made, over those that are open
  abbrev pub opening : List Frame → (workflow : List ℕ) → List Member → Spot → Purpose → Goal
  opening fs w inputs at purpose seen = Plays (Runs w inputs (length fs + 1) at) (resume purpose fs)

  -- the innermost run is over
  abbrev pub over : Result → Goal
  over o seen = Give o
