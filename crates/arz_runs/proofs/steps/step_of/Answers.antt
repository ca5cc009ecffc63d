use Rattle.std.proofs.Common.{◌≡◌, refl, sym, ap, ◌∙◌, subst}
use Rattle.arz_runs.specs.Planned.{IsPlan}
use Rattle.arz_runs.proofs.steps.step_of.Goals as goal

pub invariant_of-look-clause-planned : goal.invariant_of-look-clause-planned
invariant_of-look-clause-planned c = subst (λ id. IsPlan c.args.ground.now.bundle.now id c.in_ok-plan.plan.now) c.as_str.ensures (c.in_ok-plan.ensures.there c.in_ok-plan.plan.now refl)
