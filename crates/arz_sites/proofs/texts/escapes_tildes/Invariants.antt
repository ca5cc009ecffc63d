use Rattle.std.proofs.Common.{◌≡◌, length}
use Rattle.arz_expr.specs.Grammar.{escapes_tildes}
use Rattle.arz_sites.proofs.texts.escapes_tildes.Given as goal

abbrev pub invariant-bytes : goal.invariant-bytes
invariant-bytes l = escapes_tildes l.bytes ≡ escapes_tildes l.rest

abbrev pub decreases-bytes : goal.decreases-bytes
decreases-bytes l = length l.rest
