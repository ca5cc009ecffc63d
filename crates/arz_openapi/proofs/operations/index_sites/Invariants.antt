use Rattle.std.proofs.Common.{◌≡◌, ℕ, List, drop, map}
use Rattle.std.specs.Prelude.{find}
use Rattle.arz_operation.specs.Named.{has_id}
use Rattle.arz_openapi.specs.Sites.{seen}
use Rattle.arz_openapi.specs.Indexes.{site_in_map}
use Rattle.arz_openapi.proofs.operations.index_sites.Given as goal

abbrev pub invariant-loop-k : goal.invariant-loop-k
invariant-loop-k l = (q : List ℕ) → site_in_map l.ids q ≡ find (has_id q) (map seen (drop l.k l.sites))
