-- What follows blanks is no longer.
use Rattle.std.proofs.Common.{ℕ, ◌≤◌, List, length, arith}
use Rattle.arz_query.specs.Grammar.{IsBlank, nothing, blank}

pub blank_shorter : {s r : List ℕ} → IsBlank s r → length r ≤ length s
blank_shorter nothing = omega arith
blank_shorter (blank e more) = omega (arith, blank_shorter more)
