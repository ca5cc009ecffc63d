use Rattle.std.proofs.Common.{◌≡◌, ◌-◌, length, option_map}
use Rattle.arz_cond.specs.Reading.{quoted_within}
use Rattle.arz_cond.proofs.Quoted.{behind}
use Rattle.arz_cond.proofs.literals.quoted.Given as goal

abbrev pub invariant-loop : goal.invariant-loop
invariant-loop l = quoted_within (length l.text) l.text ≡ option_map (behind l.bytes.items) (quoted_within (length l.text - l.counter) l.rest)
