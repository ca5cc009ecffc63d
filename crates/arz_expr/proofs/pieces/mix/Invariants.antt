use Rattle.std.proofs.Common.{◌≡◌, ◌++◌, length, string_bytes, IsUtf8}
use Rattle.arz_expr.specs.Filling.{mapped, mixed}
use Rattle.arz_expr.proofs.pieces.mix.Given as goal

-- what stands there and what is left make the whole
abbrev pub invariant-pieces : goal.invariant-pieces
invariant-pieces g l = (mapped (λ t. string_bytes l.out ++ t) (mixed (g.S.Scope.found l.scope) l.rest) ≡ mixed (g.S.Scope.found l.scope) l.text) × IsUtf8 l.rest

abbrev pub decreases-pieces : goal.decreases-pieces
decreases-pieces g l = length l.rest
