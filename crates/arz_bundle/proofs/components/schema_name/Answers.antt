use Rattle.std.proofs.Common.{codes}
use Rattle.arz_expr.proofs.Keys.{stripped}
use Rattle.arz_bundle.proofs.components.schema_name.Goals as goal

pub returns : goal.returns
returns c = stripped (codes "#/components/inputs/") c.args.reference.now c.strip_prefix.result c.strip_prefix.ensures.cases
