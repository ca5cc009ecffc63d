use Rattle.std.proofs.Common.{◌≡◌, length, reverse}
use Rattle.arz_scope.specs.Bodies.{skip_blanks}
use Rattle.arz_scope.proofs.bodies.trimmed_end.Given as goal

abbrev pub invariant-blanks : goal.invariant-blanks
invariant-blanks l = skip_blanks (reverse l.text) ≡ skip_blanks (reverse l.rest)

abbrev pub decreases-blanks : goal.decreases-blanks
decreases-blanks l = length l.rest
