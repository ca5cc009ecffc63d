use Rattle.std.proofs.Common.{◌≡◌, drop}
use Rattle.arz_path.specs.Finding.{found_at}
use Rattle.arz_path.proofs.finding.found.Given as goal

abbrev pub invariant-loop-token : goal.invariant-loop-token
invariant-loop-token l = found_at l.token-items l.root ≡ found_at (drop l.token-index l.token-items) l.value
