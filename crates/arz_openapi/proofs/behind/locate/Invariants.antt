use Rattle.std.proofs.Common.{◌≡◌, ◌++◌, [], length, IsUtf8, option_map}
use Rattle.arz_openapi.specs.Rules.{spot, spot_from}
use Rattle.arz_openapi.proofs.behind.locate.Given as goal

abbrev pub invariant-tokens : goal.invariant-tokens
invariant-tokens l = (option_map (λ s. (l.tokens ++ s.0, s.1)) (spot_from [] l.rest l.tree) ≡ spot l.pointer l.root) × IsUtf8 l.rest

abbrev pub decreases-tokens : goal.decreases-tokens
decreases-tokens l = length l.rest
