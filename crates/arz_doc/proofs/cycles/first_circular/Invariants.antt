use Rattle.std.proofs.Common.{◌≡◌}
use Rattle.arz_rules.specs.Place.{least, tokens_in}
use Rattle.arz_doc.specs.Cycles.{tells, circular_below}
use Rattle.arz_doc.proofs.cycles.first_circular.Given as goal

abbrev pub invariant-loop-number : goal.invariant-loop-number
invariant-loop-number l = tokens_in l.best ≡ least (circular_below (tells l.cycles) l.number)
