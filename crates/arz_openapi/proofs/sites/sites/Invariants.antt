use Rattle.std.proofs.Common.{◌≡◌, ◌++◌, map, drop, codes}
use Rattle.std.specs.List.{flat_map}
use Rattle.arz_json.specs.Look.{members_at}
use Rattle.arz_operation.specs.Named.{in_member, operations}
use Rattle.arz_openapi.specs.Sites.{seen}
use Rattle.arz_openapi.proofs.sites.sites.Given as goal

abbrev pub invariant-loop-member : goal.invariant-loop-member
invariant-loop-member l = map seen l.sites.items ++ flat_map (in_member l.root) (drop l.member-index (members_at (codes "paths") l.root)) ≡ operations l.root
