use Rattle.std.proofs.Common.{◌≡◌, drop, map}
use Rattle.arz_operation.specs.Named.{is_among}
use Rattle.arz_openapi.proofs.finding.is_one_of.Given as goal

abbrev pub invariant-loop-word : goal.invariant-loop-word
invariant-loop-word l = is_among (map (λ w. w.now) l.words) l.name ≡ is_among (map (λ w. w.now) (drop l.word-index l.words)) l.name
