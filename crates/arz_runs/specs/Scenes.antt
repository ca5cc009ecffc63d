-- Where a run stands while an answer is taken, and what its expressions speak of.
use Rattle.std.specs.Prelude.{ℕ, ◌<◌, List, length, slice_get, Option, None, Some, Result, Ok, Err}
use Rattle.std.specs.Option.{option_copied, ForSome}
use Rattle.arz_json.specs.declared.Json.{Json}
use Rattle.arz_expr.specs.declared.syntax.Base.{Base}
use Rattle.arz_scope.specs.declared.facts.Completion.{Completion}
use Rattle.arz_scope.specs.declared.remembered.Tried.{Tried as Having}
use Rattle.arz_scope.specs.Remembering.{exchange_in, inner_in}
use Rattle.arz_scope.specs.Scopes.{Attempt}
use Rattle.arz_scope.specs.Shallow.{AreShallow}
use Rattle.arz_scope.specs.Speaking.{Speaking, attempt_of, facts_after, completions_after}
use Rattle.arz_path.specs.Outcome.{Outcome, given, wide, Covers}
use Rattle.arz_rx.specs.Patterns.{PatternsView, Rose}
use Rattle.arz_cond.specs.declared.cause.CondFault.{CondFault}
use Rattle.arz_cond.specs.declared.cause.CondFault.TheVariants as fault
use Rattle.arz_relation.specs.Cases.{Run, spoken_of}
use Rattle.arz_flow.specs.declared.bundle.Bundle.{Bundle}
use Rattle.arz_runs.specs.declared.look.Look.{Look}

-- the bundle, the run with its facts, and the completions
pub record Scene : Type 0 where
  pub bundle : Bundle
  pub run : Run
  pub done : List Completion

abbrev pub bundle_in : Look → Bundle
bundle_in l = l.ground.now.bundle.now

abbrev pub run_in : Look → Run
run_in l = record { workflow = l.frame.now.workflow; inputs = l.frame.now.inputs; depth = l.depth; facts = facts_after (option_copied l.fact) l.frame.now.facts }

abbrev pub scene : Look → Scene
scene l = record { bundle = bundle_in l; run = run_in l; done = completions_after l.newly.now l.done.now }

-- what an attempt has of its own
abbrev pub own_of : Having → Attempt
own_of t = attempt_of (exchange_in t) (inner_in t)

-- the value of each base there
abbrev pub speaks : Scene → Attempt → Base → Option Json
speaks s own = spoken_of s.bundle s.run s.done own

-- the outputs of an inner run are
abbrev pub IsShallowOwn : Having → Type 0
IsShallowOwn t = ForSome (inner_in t) AreShallow

-- the scope of expressions there
abbrev pub speaking : Scene → Having → Speaking
speaking s t = record { description = s.bundle.arazzo; inputs = s.run.inputs; facts = s.run.facts; done = s.done; exchange = exchange_in t; inner = inner_in t }

-- ---- the first action that may be taken, by its index

-- the choice is that of this index of the raw actions, where that is told
abbrev pub IsChoice : List Json → Outcome (Option Json) → Option ℕ → Type 0
IsChoice actions meant None = Covers meant (given None)
IsChoice actions meant (Some i) = (i < length actions) × Covers meant (given (slice_get actions i))

-- the same unless a selection is too wide, where that is told; or a pattern was too big; or memory ran out
abbrev pub Chooses : List Json → Outcome (Option Json) → (old new : PatternsView) → Result (Option ℕ) CondFault → Type 0
Chooses actions meant old new (Ok chosen) = IsChoice actions meant chosen
Chooses actions meant old new (Err fault.TooWide) = Covers meant wide
Chooses actions meant old new (Err fault.Pattern) = Rose old.too_big new.too_big
Chooses actions meant old new (Err fault.Memory) = Unit {0}
