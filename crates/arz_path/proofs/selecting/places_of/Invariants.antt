use Rattle.std.proofs.Common.{◌≡◌, ◌++◌, drop, map}
use Rattle.arz_path.specs.Results.{tokens_in}
use Rattle.arz_path.specs.Seen.{seen, places_told}
use Rattle.arz_path.proofs.selecting.places_of.Given as goal

abbrev pub invariant-loop-node : goal.invariant-loop-node
invariant-loop-node l = map tokens_in l.places.items ++ places_told (map seen (drop l.node-index l.nodes)) ≡ places_told (map seen l.nodes)
