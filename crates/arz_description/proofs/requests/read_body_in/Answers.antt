use Rattle.std.proofs.Common.{codes}
use Rattle.arz_description.proofs.Sound.{under, listed_under}
use Rattle.arz_description.proofs.requests.read_body_in.Goals as goal

pub read-requires : goal.read-requires
read-requires c = under (codes "payload") c.args.tree.now c.in-Some.payload.now c.in-Some.ensures c.requires

pub read_replacements-requires : goal.read_replacements-requires
read_replacements-requires c = listed_under (codes "replacements") c.args.tree.now c.items_at.result.now c.items_at.ensures c.requires
