use Rattle.std.proofs.Common.{◌≡◌, true, false, ap, sym, ◌∙◌}
use Rattle.std.specs.Str.{bytes_eq}
use Rattle.arz_scope.proofs.LatestLemmas.{fact-replaced, fact-kept}
use Rattle.arz_scope.proofs.remembered.fact_after.Goals as goal

pub returns-then-eq-clause-value : goal.returns-then-eq-clause-value
returns-then-eq-clause-value c =
    let same : bytes_eq c.args.fact.now.step c.args.step.now ≡ true = ap (λ s. bytes_eq s c.args.step.now) (sym c.as_str.ensures) ∙ sym c.eq.ensures ∙ c.if-eq.true in
    fact-replaced c.args.step.now c.args.fact.now c.args.facts.now same

pub returns-else-eq-clause-value : goal.returns-else-eq-clause-value
returns-else-eq-clause-value c =
    let other : bytes_eq c.args.fact.now.step c.args.step.now ≡ false = ap (λ s. bytes_eq s c.args.step.now) (sym c.as_str.ensures) ∙ sym c.eq.ensures ∙ c.if-eq.false in
    c.fact_among.ensures.value ∙ fact-kept c.args.step.now c.args.fact.now c.args.facts.now other
