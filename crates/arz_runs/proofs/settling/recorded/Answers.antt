use Rattle.arz_runs.proofs.Resuming.{records_more, records_shallow}
use Rattle.arz_runs.proofs.settling.recorded.Goals as goal

pub returns-clause-after : goal.returns-clause-after
returns-clause-after c =
    records_more c.args.frame.now c.args.ending.now c.in_ok-copy.field-0 c.in_ok-copied_inputs.field-0 c.in_ok-copied_inputs-2.field-0 c.push.new.self c.args.newly
    c.in_ok-copied_inputs.ensures c.in_ok-copied_inputs-2.ensures c.in_ok-push.ensures.ok c.if-not-ending.false c.in_ok-copy.ensures

pub returns-clause-shallow : goal.returns-clause-shallow
returns-clause-shallow c =
    records_shallow c.args.frame.now c.args.ending.now c.in_ok-copy.field-0 c.in_ok-copied_inputs.field-0 c.in_ok-copied_inputs-2.field-0 c.push.new.self c.args.newly
    c.in_ok-copied_inputs.ensures c.in_ok-copied_inputs-2.ensures c.in_ok-push.ensures.ok c.requires.frame c.requires.ending c.requires.newly
