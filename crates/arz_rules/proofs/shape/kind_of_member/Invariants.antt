use Rattle.std.proofs.Common.{◌≡◌, drop, map}
use Rattle.arz_rules.specs.Shapes.{seen_field}
use Rattle.arz_rules.specs.Misses.{kind_named}
use Rattle.arz_rules.proofs.shape.kind_of_member.Given as goal

abbrev pub invariant-loop-field : goal.invariant-loop-field
invariant-loop-field l = kind_named (map seen_field l.fields) l.others l.name ≡ kind_named (map seen_field (drop l.field-index l.fields)) l.others l.name
