use Rattle.std.proofs.Common.{◌≡◌, ◌≤◌, drop}
use Rattle.arz_query.specs.Numbers.{number_from}
use Rattle.arz_cond.proofs.numbers.value_of.Given as goal

abbrev pub invariant-loop-digit : goal.invariant-loop-digit
invariant-loop-digit l = (number_from l.limit 0 l.digits ≡ number_from l.limit l.value (drop l.digit-index l.digits)) × (l.value ≤ l.limit)
