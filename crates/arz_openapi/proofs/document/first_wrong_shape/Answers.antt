use Rattle.std.proofs.Common.{codes}
use Rattle.arz_json.specs.Look.{members_at}
use Rattle.arz_rules.specs.Misses.{misses}
use Rattle.arz_rules.specs.declared.kinds.Kind.TheVariants.{OpenApi}
use Rattle.arz_openapi.specs.Rules.{behind_members}
use Rattle.arz_openapi.proofs.Placed.{joined}
use Rattle.arz_openapi.proofs.document.first_wrong_shape.Goals as goal

pub returns : goal.returns
returns c =
    joined (misses c.args.root.now OpenApi) (behind_members c.args.root.now (members_at (codes "paths") c.args.root.now)) _ _ _ c.lesser.ensures c.in_ok-own.ensures c.in_ok-items.ensures
