use Rattle.std.proofs.Common.{◌≡◌, ◌-◌, length, option_map}
use Rattle.arz_query.specs.Lexical.{quoted_within, behind}
use Rattle.arz_query.proofs.quoted.quoted.Given as goal

abbrev pub invariant-loop : goal.invariant-loop
invariant-loop l = quoted_within (length l.text) l.quote l.text ≡ option_map (behind l.bytes.items) (quoted_within (length l.text - l.counter) l.quote l.rest)
