use Rattle.std.proofs.Common.{codes}
use Rattle.arz_description.proofs.Sound.{under}
use Rattle.arz_description.proofs.requests.read_body.Goals as goal

pub read_body_in-requires : goal.read_body_in-requires
read_body_in-requires c = under (codes "requestBody") c.args.step.now c.in-Some.body.now c.in-Some.ensures c.requires
