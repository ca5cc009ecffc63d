use Rattle.arz_runs.proofs.Joining.{name_put}
use Rattle.arz_runs.proofs.given.names_of.Goals as goal

pub loop-given-preserved : goal.loop-given-preserved
loop-given-preserved c =
    let facts = c.in_ok-_was.ensures in
    name_put c.loop-given.names c.put.new.self c.args.givens.now c.loop-given.given-index c.given-item.result c.as_str.result.now
    c.loop-given-test.true c.given-item.is c.as_str.ensures facts.path facts.query facts.header facts.cookie c.loop-given.invariant
