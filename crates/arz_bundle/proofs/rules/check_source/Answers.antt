use Rattle.arz_openapi.specs.Rules.{rules}
use Rattle.arz_bundle.proofs.Stages.{phase-passed, phase-relabelled}
use Rattle.arz_bundle.proofs.rules.check_source.Goals as goal

pub returns-in-Ok : goal.returns-in-Ok
returns-in-Ok c = phase-passed c.args.label.now (rules c.args.source.now) tt c.in-Ok.ensures

pub returns-in-Err : goal.returns-in-Err
returns-in-Err c = phase-relabelled c.args.label.now (rules c.args.source.now) c.in-Err.fault c.relabel.result c.in-Err.ensures c.relabel.ensures
