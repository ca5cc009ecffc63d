use Rattle.std.proofs.Common.{sym, ap, ◌∙◌, None, Some}
use Rattle.arz_scope.proofs.OutputLemmas.{reading-is, value-is}
use Rattle.arz_scope.proofs.output_values.output_value.Goals as goal

pub returns-in_default-2-clause-value : goal.returns-in_default-2-clause-value
returns-in_default-2-clause-value g c =
    let is = reading-is c.in-Some.text.now None tt (rw c.in_default-2.is at c.in_ok-expression.ensures.complete) in
    value-is (g.S.Scope.found c.args.scope.now) c.args.written.now c.in-Some.text.now None (sym c.in-Some.ensures) is

pub returns-in-Some-value-clause-value : goal.returns-in-Some-value-clause-value
returns-in-Some-value-clause-value g c =
    let reads = rw c.in-Some-2.is at c.in_ok-expression.ensures.reads in
    let is = reading-is c.in-Some.text.now (Some c.in-Some-2.expression) reads (rw c.in-Some-2.is at c.in_ok-expression.ensures.complete) in
    ap (λ j. Some j) c.in_ok-copy-in-Some-value.ensures ∙ c.in-Some-value.ensures.value ∙ value-is (g.S.Scope.found c.args.scope.now) c.args.written.now c.in-Some.text.now (Some c.in-Some-2.expression) (sym c.in-Some.ensures) is

pub returns-clause-value : goal.returns-clause-value
returns-clause-value g c =
    let reads = rw c.in-Some-2.is at c.in_ok-expression.ensures.reads in
    let is = reading-is c.in-Some.text.now (Some c.in-Some-2.expression) reads (rw c.in-Some-2.is at c.in_ok-expression.ensures.complete) in
    c.in-None.ensures.value ∙ value-is (g.S.Scope.found c.args.scope.now) c.args.written.now c.in-Some.text.now (Some c.in-Some-2.expression) (sym c.in-Some.ensures) is
