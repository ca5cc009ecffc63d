use Rattle.std.proofs.Common.{◌≡◌, ◌≤◌, take, true}
use Rattle.std.specs.Prelude.{min}
use Rattle.std.specs.List.{list_all}
use Rattle.arz_relation.specs.Retries.{longest_delay, digits_after, is_digit}
use Rattle.arz_relation.proofs.delays.seconds_in.Given as goal

abbrev pub invariant-loop-digit : goal.invariant-loop-digit
invariant-loop-digit l = (l.seconds ≡ min longest_delay (digits_after 0 (take l.digit-index l.text))) × (list_all is_digit (take l.digit-index l.text) ≡ true)
