use Rattle.std.proofs.Common.{ℕ, option_map, sym, ap, ◌∙◌}
use Rattle.arz_rules.specs.Phases.{Failure}
use Rattle.arz_rules.specs.Sets.{has}
use Rattle.arz_components.specs.Indexes.{finds}
use Rattle.arz_sources.specs.Failures.{place_at}
use Rattle.arz_sources.proofs.Numbers.{first-step}
use Rattle.arz_sources.proofs.steps.first_in_step.Goals as goal

pub returns-in_default : goal.returns-in_default
returns-in_default c =
    let at : ℕ → Failure = λ rule. (rule, place_at rule c.args.step.now) in
    ap (option_map at) (sym c.in_default.is ∙ c.in_ok-rule.ensures)
    ∙ sym (first-step c.args.sources.now (finds c.args.components.now) (has c.args.given.now) c.args.step.now)

pub returns : goal.returns
returns c =
    let at : ℕ → Failure = λ rule. (rule, place_at rule c.args.step.now) in
    c.in_ok-found.ensures
    ∙ ap (option_map at) (sym c.in-Some.is ∙ c.in_ok-rule.ensures)
    ∙ sym (first-step c.args.sources.now (finds c.args.components.now) (has c.args.given.now) c.args.step.now)
