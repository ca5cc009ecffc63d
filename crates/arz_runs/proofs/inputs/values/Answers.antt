use Rattle.arz_runs.proofs.Filling.{one_more, put_shallow}
use Rattle.arz_runs.proofs.inputs.values.Goals as goal

pub loop-parameter-preserved : goal.loop-parameter-preserved
loop-parameter-preserved g c =
    let l = c.loop-parameter in
    record {
      filled = one_more (g.S.Scope.found c.args.scope.now) c.args.given.now l.parameter-index c.parameter-item.result c.loop-parameter-test.true c.parameter-item.is l.values l.invariant.filled
          c.insert.new.self c.as_str.result c.in_ok-value.value c.in_ok-value.ensures.filled c.as_str.ensures c.in_ok-insert.ensures.entries;
      shallow = put_shallow l.values c.insert.new.self c.as_str.result c.in_ok-value.value c.in_ok-insert.ensures.entries l.invariant.shallow c.in_ok-value.ensures.shallow;
    }
