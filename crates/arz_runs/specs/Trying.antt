-- ---- for private clauses: what follows an attempt
use Rattle.std.specs.Prelude.{ℕ, ◌≡◌, ◌+◌, Bool, true, false, List, ◌∷◌, length, Option, Some, None}
use Rattle.std.specs.Option.{option_copied}
use Rattle.arz_json.specs.declared.Json.{Json}
use Rattle.arz_world.specs.declared.Reply.{Reply}
use Rattle.arz_request.specs.declared.cause.Cause.TheVariants.{TooWide}
use Rattle.arz_flow.specs.declared.answers.Answer.{Answer}
use Rattle.arz_flow.specs.declared.bundle.Bundle.{Bundle}
use Rattle.arz_scope.specs.declared.facts.Completion.{Completion}
use Rattle.arz_scope.specs.declared.facts.Fact.{Fact}
use Rattle.arz_scope.specs.declared.remembered.Tried.{Tried as Having}
use Rattle.arz_scope.specs.declared.remembered.Tried.TheVariants as having
use Rattle.arz_relation.specs.declared.ends.End.TheVariants.{Stuck}
use Rattle.arz_actions.specs.Ready.{readies}
use Rattle.arz_actions.specs.declared.ready.Ready.{Ready}
use Rattle.arz_relation.specs.Cases.{Run, Case, Tried, give, spot, outputs_at_end, and_fact, act_case}
use Rattle.arz_relation.specs.Retries.{made_of, is_used_up_by}
use Rattle.arz_relation.specs.declared.retries.Count.{Count}
use Rattle.arz_relation.specs.Play.{Plays}
use Rattle.arz_relation.specs.Verdicts.{Patterned}
use Rattle.arz_runs.specs.Rests.{Goes}
use Rattle.arz_runs.specs.Runs.{Goal as Meant, run_at}
use Rattle.arz_runs.specs.Scenes.{Scene, bundle_in, run_in, scene, own_of, IsShallowOwn}
use Rattle.arz_runs.specs.Turns.{Lands}
use Rattle.arz_runs.specs.declared.frames.Frame.{Frame}
use Rattle.arz_runs.specs.declared.frames.Purpose.{Purpose}
use Rattle.arz_runs.specs.declared.frames.State.TheVariants.{Ended}
use Rattle.arz_runs.specs.declared.goals.Goal.{Goal}
use Rattle.arz_runs.specs.declared.goals.Goal.TheVariants.{Open, Over, Rest}
use Rattle.arz_runs.specs.declared.look.Look.{Look}
use Rattle.arz_runs.specs.declared.plans.Planned.{Planned}
use Rattle.arz_runs.specs.declared.trying.Judged.{Judged}
use Rattle.arz_runs.specs.Planned.{IsStepAt}

-- where this is to be done next in a run that stands so, the code is to do that
abbrev pub LeadsAt : Patterned → Scene → Meant → Goal → Type 0
LeadsAt told s meant goal =
    (below : List Frame) (sends : ℕ) (r : List Answer) → s.run.depth ≡ length below + 1 → (frame : Frame) → run_at frame below ≡ s.run
    → Goes told s.bundle (frame ∷ below) s.done sends r meant → Lands told s.bundle (frame ∷ below) s.done sends r goal

abbrev pub Leads : Patterned → Look → Meant → Goal → Type 0
Leads told l meant goal = LeadsAt told (scene l) meant goal

-- a case whose result is that of the run
abbrev pub playing : Case → Meant
playing c seen = Plays c give

-- an attempt that was judged, whose fact the run has
abbrev pub tried_in : Look → Judged → Tried
tried_in l j = record { ok = j.succeeded; run = run_in l; own = own_of j.own }

-- the reply that an attempt has of its own
abbrev pub reply_in : Having → Option Reply
reply_in having.Nothing = None
reply_in (having.Exchange e) = Some e.now.1
reply_in (having.Inner outputs) = None

-- a step of the run that is looked at was attempted
pub record IsAttempt (l : Look) (j : Judged) : Type 0 where
  pub step : IsStepAt (bundle_in l) l.frame.now.workflow j.index (Some j.planned.now)
  pub own : IsShallowOwn j.own
  pub reply : option_copied j.reply ≡ reply_in j.own

-- the same run is looked at, where an attempt has left this fact
pub record HasFact (l : Look) (fact : Fact) (m : Look) : Type 0 where
  pub ground : m.ground ≡ l.ground
  pub frame : m.frame ≡ l.frame
  pub same : scene m ≡ record { bundle = bundle_in l; run = and_fact (run_in l) fact; done = (scene l).done }

-- What an action does after an attempt: a case, and what the code is to do. It is that of the action, unless that is a retry that was
-- made as often as it may be, which isn't chosen.
pub record Takes (l : Look) (j : Judged) (counts : List Count) (action : Ready) (goal : Goal) : Type 0 where
  pub case : Case
  pub is : is_used_up_by action.act (made_of action.name counts) ≡ false → case ≡ act_case (bundle_in l) j.index (spot (run_in l) j.planned.now.step.now) counts (tried_in l j) action.name action.act
  pub leads : (told : Patterned) → Leads told l (playing case) goal

-- the actions of a step after its success, or after its failure
abbrev pub actions_after : Planned → Bool → List Ready
actions_after p true = readies p.success
actions_after p false = readies p.failure

-- the execution has ended at a step, since a selection of a criterion is too wide
abbrev pub widened : Run → Json → Goal
widened r step = Rest (Ended (Stuck TooWide (spot r step)))

-- another run is made from a step, with the inputs of this one
abbrev pub opened : Run → Json → (workflow : List ℕ) → Purpose → Goal
opened r step w purpose = Open (record { workflow = w; inputs = r.inputs; purpose = purpose; at = spot r step })

-- the run is over
abbrev pub closed : Bundle → Run → List Completion → Bool → Goal
closed b r done ok = Over (record { completed = ok; outputs = outputs_at_end b r done })
