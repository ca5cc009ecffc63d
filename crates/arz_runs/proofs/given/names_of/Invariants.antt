use Rattle.std.proofs.Common.{◌≡◌, ℕ, List, take}
use Rattle.arz_json.specs.declared.tree.Location.{Location}
use Rattle.arz_openapi.specs.Names.{taken_in}
use Rattle.arz_runs.specs.Joining.{has_at}
use Rattle.arz_runs.proofs.given.names_of.Given as goal

abbrev pub invariant-loop-given : goal.invariant-loop-given
invariant-loop-given l = (place : Location) (q : List ℕ) → taken_in l.names place q ≡ has_at (take l.given-index l.givens) place q
