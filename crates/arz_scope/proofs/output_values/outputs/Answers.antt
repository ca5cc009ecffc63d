use Rattle.std.proofs.Common.{◌≡◌, arith, rules}
use Rattle.std.proofs.lemmas.Grind.{common_steps}
use Rattle.arz_scope.specs.Outputs.{outputs_of}
use Rattle.arz_scope.specs.Shallow.{AreShallow}
use Rattle.arz_scope.proofs.OutputLemmas.{outputs-well_formed}
use Rattle.arz_scope.proofs.output_values.outputs.Goals as goal

pub returns-clause-well_formed : goal.returns-clause-well_formed
returns-clause-well_formed g c =
    let is : c.from_std.result ≡ outputs_of (g.S.Scope.found c.args.scope.now) c.args.listed.now = grind (arith, common_steps) in
    let all : AreShallow c.from_std.result = search rules in
    λ w. outputs-well_formed (g.S.Scope.found c.args.scope.now) c.args.listed.now c.from_std.result is all w
