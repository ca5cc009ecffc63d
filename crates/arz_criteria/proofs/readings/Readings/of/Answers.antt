use Rattle.std.proofs.Common.{rules, ap, ◌∙◌}
use Rattle.arz_criteria.specs.Taken.{texts_of}
use Rattle.arz_criteria.proofs.Noted.{readings_tell}
use Rattle.arz_criteria.proofs.readings.Readings.of.Goals as goal

pub returns-clause-tells : goal.returns-clause-tells
returns-clause-tells g c =
    readings_tell (g.P.Patterns.patterns c.args.rx.now).told c.args.root.now (texts_of c.as_slice.result.now) _ c.ask_each.new.self (search rules) (ap texts_of c.as_slice.ensures.value ∙ c.in_ok-patterns.ensures) c.in_ok-ask_each.ensures.notes
