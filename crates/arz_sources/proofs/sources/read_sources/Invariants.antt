use Rattle.std.proofs.Common.{◌≡◌, map, take}
use Rattle.arz_sources.specs.Served.{served, seen_source}
use Rattle.arz_sources.proofs.sources.read_sources.Given as goal

abbrev pub invariant-loop-named : goal.invariant-loop-named
invariant-loop-named l = map seen_source l.out.items ≡ map (served l.servers) (take l.named-index l.sources)
