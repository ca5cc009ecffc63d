use Rattle.std.proofs.Common.{◌≡◌, drop, map}
use Rattle.arz_json.specs.Tree.{has_opaque, some_true}
use Rattle.arz_scope.proofs.output_values.any_opaque.Given as goal

abbrev pub invariant-loop-member : goal.invariant-loop-member
invariant-loop-member l =
    some_true (map (λ m. has_opaque m.value) l.members) ≡ some_true (map (λ m. has_opaque m.value) (drop l.member-index l.members))
