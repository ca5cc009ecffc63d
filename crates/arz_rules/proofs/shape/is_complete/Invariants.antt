use Rattle.std.proofs.Common.{◌≡◌, drop, map}
use Rattle.arz_rules.specs.Shapes.{seen_field}
use Rattle.arz_rules.specs.Misses.{named_misses, is_complete}
use Rattle.arz_rules.proofs.shape.is_complete.Given as goal

abbrev pub invariant-loop-field : goal.invariant-loop-field
invariant-loop-field l = is_complete (map seen_field l.fields) (named_misses l.members) ≡ is_complete (map seen_field (drop l.field-index l.fields)) (named_misses l.members)
