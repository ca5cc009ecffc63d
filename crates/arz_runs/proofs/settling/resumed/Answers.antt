use Rattle.std.proofs.Common.{◌≡◌, ◌+◌, ℕ, List, ◌∷◌, length, reverse, refl, sym, ap, ◌∙◌, subst, arith}
use Rattle.std.proofs.lemmas.List.{length-reverse}
use Rattle.arz_scope.specs.Speaking.{completions_after}
use Rattle.arz_runs.specs.Fronts.{result_of}
use Rattle.arz_runs.specs.ShallowRuns.{IsShallowFrame}
use Rattle.arz_runs.specs.Turns.{Lands, with_top}
use Rattle.arz_runs.proofs.Resuming.{ok_more, end_lands, enters_again, looked_lands, absent_gives, moved, only_lands, none_open, one_open, last_has}
use Rattle.arz_runs.proofs.settling.resumed.Goals as goal

pub depended-requires : goal.depended-requires
depended-requires g c = last_has IsShallowFrame c.args.below.now c.in-Some.field-0-1.now c.in-Some.frame.now c.in-Some.ensures.cases c.requires.below

pub step_of-requires : goal.step_of-requires
step_of-requires g c = record {
  frame_is = last_has IsShallowFrame c.args.below.now c.in-Some.field-0-1.now c.in-Some.frame.now c.in-Some.ensures.cases c.requires.below;
  fact_is = λ x e. absurd cc;
  done_are = c.requires.done;
  newly_are = c.requires.newly;
}

pub returns-in_default-clause-lands : goal.returns-in_default-clause-lands
returns-in_default-clause-lands g c = λ sends r at.
    end_lands (g.P.Patterns.patterns c.args.rx.now).told c.args.ground.now.bundle.now (completions_after c.args.newly.now c.args.done.now) sends r c.args.over.now.purpose (result_of c.args.ending)
    c.in_ok-end_of.field-0 c.only.result.fact c.only.result.goal (reverse c.args.below.now) (none_open c.args.below.now c.in_default.ensures.cases) c.only.ensures.goal c.in_ok-end_of.ensures.end at

pub returns-in_ok-depended-in-Dependency-clause-lands : goal.returns-in_ok-depended-in-Dependency-clause-lands
returns-in_ok-depended-in-Dependency-clause-lands g c = λ sends r at.
    let told = (g.P.Patterns.patterns c.args.rx.now).told in
    let b = c.args.ground.now.bundle.now in
    let done = completions_after c.args.newly.now c.args.done.now in
    let fs = reverse c.in-Some.field-0-1.now in
    let top = one_open c.args.below.now c.in-Some.frame.now c.in-Some.field-0-1.now c.in-Some.ensures.cases in
    only_lands told b done sends r c.only-in-Dependency.result.fact c.in_ok-depended-in-Dependency.field-0 c.only-in-Dependency.result.goal (reverse c.args.below.now) (c.in-Some.frame.now ∷ fs)
    c.only-in-Dependency.ensures.fact c.only-in-Dependency.ensures.goal top
    (c.in_ok-depended-in-Dependency.ensures.lands told fs sends r (moved told b done sends r (reverse c.args.below.now) (c.in-Some.frame.now ∷ fs) c.args.over.now.purpose _ (result_of c.args.ending) top c.in-Dependency.is at))

pub returns-in-Some-step_of-clause-lands : goal.returns-in-Some-step_of-clause-lands
returns-in-Some-step_of-clause-lands g c =
    let told = (g.P.Patterns.patterns c.args.rx.now).told in
    let b = c.args.ground.now.bundle.now in
    let done = completions_after c.args.newly.now c.args.done.now in
    let rest = c.in-Some.field-0-1.now in
    let deep : length c.args.below.now ≡ length (reverse rest) + 1 = omega (arith, length-reverse rest, c.in-Some.ensures.cases.1) in
    let top = one_open c.args.below.now c.in-Some.frame.now rest c.in-Some.ensures.cases in
    ok_more _ _ c.attempted.result
    (λ a h sends r at.
    let landed = looked_lands told b c.in-Some.frame.now (reverse rest) (length c.args.below.now) c.in-Attempt.index done c.in-Some-step_of.look c.in-Some-step_of.planned.now c.in-Some-step_of.ensures.there deep
    c.in-Attempt.next c.args.ending.completed c.args.ending.outputs c.as_slice.result.now a.fact a.goal c.as_slice.ensures h sends r
    (moved told b done sends r (reverse c.args.below.now) (c.in-Some.frame.now ∷ reverse rest) c.args.over.now.purpose _ (result_of c.args.ending) top c.in-Attempt.is at) in
    subst (λ fs. Lands told b (with_top a.fact fs) done sends r a.goal) (sym top) landed)
    c.attempted.ensures.lands

pub returns-in_ok-counts-in-Before-clause-lands : goal.returns-in_ok-counts-in-Before-clause-lands
returns-in_ok-counts-in-Before-clause-lands g c = λ sends r at.
    let told = (g.P.Patterns.patterns c.args.rx.now).told in
    let b = c.args.ground.now.bundle.now in
    let done = completions_after c.args.newly.now c.args.done.now in
    let fs = reverse c.in-Some.field-0-1.now in
    let top = one_open c.args.below.now c.in-Some.frame.now c.in-Some.field-0-1.now c.in-Some.ensures.cases in
    let same : c.in_ok-counts-in-Before.counts ≡ c.in-Before.counts = c.in_ok-counts-in-Before.ensures ∙ c.as_slice-in-Before.ensures in
    only_lands told b done sends r c.only-in-Before.result.fact _ c.only-in-Before.result.goal (reverse c.args.below.now) (c.in-Some.frame.now ∷ fs)
    c.only-in-Before.ensures.fact c.only-in-Before.ensures.goal top
    (enters_again told b done sends r c.in-Some.frame.now fs c.in-Before.index c.in-Before.counts c.in_ok-counts-in-Before.counts (result_of c.args.ending) same
    (moved told b done sends r (reverse c.args.below.now) (c.in-Some.frame.now ∷ fs) c.args.over.now.purpose _ (result_of c.args.ending) top c.in-Before.is at))
