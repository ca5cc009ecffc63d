use Rattle.std.proofs.Common.{◌≡◌, length}
use Rattle.arz_scope.specs.Bodies.{skip_blanks}
use Rattle.arz_scope.proofs.bodies.trimmed_start.Given as goal

abbrev pub invariant-blanks : goal.invariant-blanks
invariant-blanks l = skip_blanks l.text ≡ skip_blanks l.rest

abbrev pub decreases-blanks : goal.decreases-blanks
decreases-blanks l = length l.rest
