use Rattle.std.proofs.Common.{arith}
use Rattle.std.proofs.lemmas.Grind.{common_steps}
use Rattle.arz_description.proofs.Gathered.{outputs_step}
use Rattle.arz_description.proofs.outputs.read_outputs.Goals as goal

pub loop-member-preserved : goal.loop-member-preserved
loop-member-preserved c =
    let e = outputs_step c.args.members.now c.loop-member.member-index c.member-item.result c.loop-member-test.true c.member-item.is in
    grind (arith, common_steps, e)
