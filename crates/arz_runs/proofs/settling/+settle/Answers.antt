use Rattle.std.proofs.Common.{◌≡◌, reverse, refl, sym, subst, ◌∙◌, arith}
use Rattle.arz_scope.specs.Shallow.{AreDoneShallow}
use Rattle.arz_scope.specs.Speaking.{completions_after}
use Rattle.arz_runs.specs.ShallowRuns.{IsShallowFrame}
use Rattle.arz_runs.proofs.Resuming.{ok_more_both, last_has, rest_has, none_open, ends_none, settles_one, settles_rest}
use Rattle.arz_runs.proofs.settling.+settle.Goals as goal

pub returns-in_default-split_last-clause-lands : goal.returns-in_default-split_last-clause-lands
returns-in_default-split_last-clause-lands g t c = λ sends r lands.
    ends_none (g.P.Patterns.patterns c.args.rx.now).told c.args.ground.now.bundle.now (completions_after c.args.settled.newly c.args.done.now) sends r c.args.settled.fact (reverse c.args.frames.now) c.args.settled.goal c.in-Over.ending c.in_ok-end_of.field-0
    (none_open c.args.frames.now c.in_default-split_last.ensures.cases) c.in-Over.is c.in_ok-end_of.ensures.end lands

pub recorded-requires-clause-frame : goal.recorded-requires-clause-frame
recorded-requires-clause-frame g t c = last_has IsShallowFrame c.args.frames.now c.in-Some.below.now c.in-Some.frame.now c.in-Some.ensures.cases c.requires.frames

pub resumed-requires-clause-below : goal.resumed-requires-clause-below
resumed-requires-clause-below g t c = rest_has IsShallowFrame c.args.frames.now c.in-Some.below.now c.in-Some.frame.now c.in-Some.ensures.cases c.requires.frames

pub resumed-requires-clause-newly : goal.resumed-requires-clause-newly
resumed-requires-clause-newly g t c = subst AreDoneShallow (sym c.as_slice.ensures) c.in_ok-newly.ensures.shallow

pub settle-requires : goal.settle-requires
settle-requires g t c κs within =
    let below = rest_has IsShallowFrame c.args.frames.now c.in-Some.below.now c.in-Some.frame.now c.in-Some.ensures.cases c.requires.frames in
    let next = c.in_ok-next.ensures in
    (omega (arith, c.in-Some.ensures.cases.1), (within, (refl, (below, (c.requires.done, (c.in_ok-newly.ensures.shallow, (next.shallow.0, (next.shallow.1, next.plain))))))))

pub returns-clause-lands : goal.returns-clause-lands
returns-clause-lands g t c =
    let told = (g.P.Patterns.patterns c.args.rx.now).told in
    let b = c.args.ground.now.bundle.now in
    ok_more_both _ _ _ c.settle.result
    (λ s lands kept sends r at.
    settles_rest told b (g.P.Patterns.patterns c.resumed.new.rx).told c.args.frames.now c.in-Some.below.now c.in-Some.frame.now s.kept c.in_ok-next.next.fact s.fact (completions_after c.in_ok-newly.newly c.args.done.now) (completions_after s.newly c.args.done.now) c.in_ok-next.next.goal s.goal sends r
    c.in-Some.ensures.cases kept c.in_ok-next.ensures.asked.told (lands sends r)
    (settles_one told b c.args.frames.now c.in-Some.below.now c.in-Some.frame.now c.args.settled.fact c.in_ok-next.next.fact c.args.settled.newly c.in_ok-newly.newly c.as_slice.result.now c.args.done.now c.args.settled.goal c.in_ok-next.next.goal c.in-Over.ending
    c.in-Some.ensures.cases c.in-Over.is c.as_slice.ensures c.in_ok-newly.ensures.after c.in_ok-next.ensures.lands sends r at))
    c.settle.ensures.lands c.settle.ensures.kept
