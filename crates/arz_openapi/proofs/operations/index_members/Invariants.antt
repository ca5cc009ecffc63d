use Rattle.std.proofs.Common.{◌≡◌, ℕ, List, drop}
use Rattle.arz_json.specs.Pointer.{member_named}
use Rattle.arz_openapi.specs.Indexes.{item_in_map}
use Rattle.arz_openapi.proofs.operations.index_members.Given as goal

abbrev pub invariant-loop-k : goal.invariant-loop-k
invariant-loop-k l = (q : List ℕ) → item_in_map l.map q ≡ member_named (drop l.k l.members) q
