use Rattle.std.proofs.Common.{◌≡◌, ℕ, List, drop}
use Rattle.arz_json.specs.Pointer.{member_named}
use Rattle.arz_components.specs.Indexes.{found_in}
use Rattle.arz_components.proofs.components.index.Given as goal

abbrev pub invariant-loop-k : goal.invariant-loop-k
invariant-loop-k l = (q : List ℕ) → found_in l.map q ≡ member_named (drop l.k l.members) q
