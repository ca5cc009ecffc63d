use Rattle.std.proofs.Common.{◌≡◌, ◌++◌, reverse, sym, subst, None}
use Rattle.std.specs.Prelude.{IfNone}
use Rattle.std.specs.Option.{option_copied}
use Rattle.arz_runs.specs.Fronts.{bundle_at, done_at, runs_open, IsAbsent}
use Rattle.arz_runs.specs.ShallowRuns.{IsShallowFrame}
use Rattle.arz_runs.specs.Turns.{with_top}
use Rattle.arz_runs.proofs.Entering.{on_top, not_there, none_there, some_more, none_more, made_last, open_last, none_last, made_depth, open_depth}
use Rattle.arz_runs.proofs.Resuming.{last_has}
use Rattle.arz_runs.proofs.front.Front.step.Goals as goal

pub step_of-requires : goal.step_of-requires
step_of-requires c = record {
  frame_is = last_has IsShallowFrame c.args.made.now c.in-Some.field-0-1.now c.in-Some.frame.now c.in-Some.ensures.cases c.requires;
  fact_is = λ x e. absurd cc;
  done_are = c.args.self.now.done_shallow;
  newly_are = c.args.self.now.newly_shallow;
}

pub step_of-requires-in-None : goal.step_of-requires-in-None
step_of-requires-in-None c = record {
  frame_is = last_has IsShallowFrame c.args.self.now.frames.now c.in_ok-frame-in-None.field-0-1.now c.in_ok-frame-in-None.frame.now c.in_ok-frame-in-None.ensures.cases c.args.self.now.shallow;
  fact_is = c.args.self.now.fact_shallow;
  done_are = c.args.self.now.done_shallow;
  newly_are = c.args.self.now.newly_shallow;
}

pub returns-in-Some-clause-there : goal.returns-in-Some-clause-there
returns-in-Some-clause-there c =
    let f = c.args.self.now in
    let rest = c.in-Some.field-0-1.now in
    let frame = c.in-Some.frame.now in
    let others = with_top (option_copied f.fact) (reverse f.frames.now) in
    some_more _ _ c.step_of.result
    (λ p at. on_top (bundle_at f) (runs_open f c.args.made.now) (reverse rest ++ others) frame None (made_last c.args.made.now rest frame others c.in-Some.ensures.cases) c.args.index _ (done_at f) p.0 p.1.now
    (made_depth c.args.made.now f.frames.now rest frame (option_copied f.fact) c.in-Some.ensures.cases) at)
    c.step_of.ensures.there

pub returns-in-Some-clause-absent : goal.returns-in-Some-clause-absent
returns-in-Some-clause-absent c =
    let f = c.args.self.now in
    let rest = c.in-Some.field-0-1.now in
    let frame = c.in-Some.frame.now in
    let others = with_top (option_copied f.fact) (reverse f.frames.now) in
    none_more _ _ c.step_of.result
    (not_there (bundle_at f) (runs_open f c.args.made.now) (reverse rest ++ others) frame None (made_last c.args.made.now rest frame others c.in-Some.ensures.cases) c.args.index)
    c.step_of.ensures.absent

pub returns-in_ok-frame-in-None-clause-there : goal.returns-in_ok-frame-in-None-clause-there
returns-in_ok-frame-in-None-clause-there c =
    let f = c.args.self.now in
    let rest = c.in_ok-frame-in-None.field-0-1.now in
    let frame = c.in_ok-frame-in-None.frame.now in
    some_more _ _ c.step_of-in-None.result
    (λ p at. on_top (bundle_at f) (runs_open f c.args.made.now) (reverse rest) frame (option_copied f.fact) (open_last c.args.made.now f.frames.now rest frame (option_copied f.fact) c.in-None.ensures.cases c.in_ok-frame-in-None.ensures.cases) c.args.index _ (done_at f) p.0 p.1.now
    (open_depth c.args.made.now f.frames.now rest frame c.in-None.ensures.cases c.in_ok-frame-in-None.ensures.cases) at)
    c.step_of-in-None.ensures.there

pub returns-in_ok-frame-in-None-clause-absent : goal.returns-in_ok-frame-in-None-clause-absent
returns-in_ok-frame-in-None-clause-absent c =
    let f = c.args.self.now in
    let rest = c.in_ok-frame-in-None.field-0-1.now in
    let frame = c.in_ok-frame-in-None.frame.now in
    none_more _ _ c.step_of-in-None.result
    (not_there (bundle_at f) (runs_open f c.args.made.now) (reverse rest) frame (option_copied f.fact) (open_last c.args.made.now f.frames.now rest frame (option_copied f.fact) c.in-None.ensures.cases c.in_ok-frame-in-None.ensures.cases) c.args.index)
    c.step_of-in-None.ensures.absent

pub returns-in_err-frame-in-None-clause-absent : goal.returns-in_err-frame-in-None-clause-absent
returns-in_err-frame-in-None-clause-absent c =
    let f = c.args.self.now in
    subst (λ o. IfNone o (IsAbsent (bundle_at f) (runs_open f c.args.made.now) c.args.index)) (sym c.from_residual.ensures)
    (none_there (bundle_at f) (runs_open f c.args.made.now) c.args.index (none_last c.args.made.now f.frames.now (option_copied f.fact) c.in-None.ensures.cases c.in_err-frame-in-None.ensures.cases))
