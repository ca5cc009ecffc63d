use Rattle.std.proofs.Common.{◌<◌, ◌↔◌, drop, map}
use Rattle.arz_json.specs.Tree.{depth, largest}
use Rattle.arz_json.proofs.placing.+deeper.Given as goal

abbrev pub invariant-items_deeper-loop-item : goal.invariant-items_deeper-loop-item
invariant-items_deeper-loop-item l = (l.limit < largest (map depth l.item-items)) ↔ (l.limit < largest (map depth (drop l.item-index l.item-items)))

abbrev pub invariant-members_deeper-loop-member : goal.invariant-members_deeper-loop-member
invariant-members_deeper-loop-member l =
    (l.limit < largest (map (λ m. depth m.value) l.member-items)) ↔ (l.limit < largest (map (λ m. depth m.value) (drop l.member-index l.member-items)))
