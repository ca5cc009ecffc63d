use Rattle.std.proofs.Common.{take}
use Rattle.arz_path.specs.Results.{Asked}
use Rattle.arz_criteria.specs.Taken.{texts_of, Notes}
use Rattle.arz_criteria.proofs.readings.Readings.ask_each.Given as goal

abbrev pub invariant-loop-pattern : goal.invariant-loop-pattern
invariant-loop-pattern g l = record {
  notes : Notes (g.P.Patterns.patterns l.fn.rx).told (take l.pattern-index (texts_of l.patterns)) l.fn.self l.self;
  asked : Asked (g.P.Patterns.patterns l.fn.rx) (g.P.Patterns.patterns l.rx);
}
