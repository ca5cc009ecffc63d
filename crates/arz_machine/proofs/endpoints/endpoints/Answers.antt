use Rattle.std.proofs.Common.{◌≡◌, List, IfOk, subst}
use Rattle.arz_flow.specs.declared.endpoint.Endpoint.{Endpoint}
use Rattle.arz_machine.proofs.Reaching.{reached}
use Rattle.arz_machine.proofs.endpoints.endpoints.Goals as goal

pub returns : goal.returns
returns c =
    subst (λ (l : List Endpoint). IfOk c.endpoints_of.result (λ found. found ≡ l))
    (reached c.args.bundle.now c.as_slice-sources.result.now c.as_slice-servers.result.now c.args.steps.now c.in_ok-targets.targets.items c.as_slice-sources.ensures c.as_slice-servers.ensures c.in_ok-targets.ensures)
    c.endpoints_of.ensures
