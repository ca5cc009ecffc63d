use Rattle.std.proofs.Common.{◌≡◌, drop, map}
use Rattle.std.specs.Prelude.{find}
use Rattle.arz_operation.specs.Named.{has_id}
use Rattle.arz_openapi.specs.Sites.{seen}
use Rattle.arz_openapi.proofs.finding.first_with.Given as goal

abbrev pub invariant-loop-site : goal.invariant-loop-site
invariant-loop-site l = find (has_id l.id) (map seen l.sites) ≡ find (has_id l.id) (map seen (drop l.site-index l.sites))
