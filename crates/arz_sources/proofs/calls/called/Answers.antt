use Rattle.std.proofs.Common.{◌≡◌, None, codes, rules}
use Rattle.arz_components.specs.Texts.{text_named}
use Rattle.arz_sources.proofs.Searches.{found-flow}
use Rattle.arz_sources.proofs.calls.called.Goals as goal

pub returns : goal.returns
returns c =
    let a : text_named (codes "operationId") c.args.step.now ≡ None = search rules in
    let b : text_named (codes "operationPath") c.args.step.now ≡ None = search rules in
    found-flow c.args.sources.now c.args.step.now a b
