use Rattle.std.proofs.Common.{◌≡◌, List, IfOk, subst, ap, ◌∙◌}
use Rattle.std.specs.Prelude.{not, filter}
use Rattle.arz_expr.specs.declared.template.Given.{Given}
use Rattle.arz_openapi.specs.Names.{taken_in}
use Rattle.arz_runs.specs.Joining.{has_at}
use Rattle.arz_runs.proofs.Joining.{as_named}
use Rattle.arz_runs.proofs.given.others_than.Goals as goal

pub returns : goal.returns
returns c =
    let taken = taken_in c.in_ok-names.names in
    subst (λ (l : List Given). IfOk c.unnamed.result (λ kept. kept.items ≡ l))
    (ap (λ (l : List Given). filter (λ g. not (taken g.place g.name)) l) c.into_std.ensures
    ∙ as_named taken c.args.own.now c.args.others (λ place q. c.in_ok-names.ensures place q ∙ ap (λ (l : List Given). has_at l place q) c.as_slice.ensures))
    c.unnamed.ensures
