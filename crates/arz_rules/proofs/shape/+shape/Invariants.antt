use Rattle.std.proofs.Common.{◌≡◌, drop, map}
use Rattle.arz_rules.specs.Shapes.{seen_field, seen_choice}
use Rattle.arz_rules.specs.Place.{least, lesser, tokens_in}
use Rattle.arz_rules.specs.Misses.{misses, named_misses, first_met, has_kind, member_misses, item_misses}
use Rattle.arz_rules.proofs.shape.+shape.Given as goal

abbrev pub invariant-first_met-loop-choice : goal.invariant-first_met-loop-choice
invariant-first_met-loop-choice l = first_met (map seen_choice l.choices) l.other (named_misses l.members) ≡ first_met (map seen_choice (drop l.choice-index l.choices)) l.other (named_misses l.members)

abbrev pub invariant-has_kind-loop-member : goal.invariant-has_kind-loop-member
invariant-has_kind-loop-member l = has_kind (named_misses l.member-items) l.name l.kind ≡ has_kind (named_misses (drop l.member-index l.member-items)) l.name l.kind

abbrev pub invariant-first_miss_in_members-loop-member : goal.invariant-first_miss_in_members-loop-member
invariant-first_miss_in_members-loop-member l =
    least (member_misses (map seen_field l.fields) l.others (named_misses l.member-items))
    ≡ lesser (tokens_in l.best) (least (member_misses (map seen_field l.fields) l.others (named_misses (drop l.member-index l.member-items))))

abbrev pub invariant-first_miss_in_items-loop-i : goal.invariant-first_miss_in_items-loop-i
invariant-first_miss_in_items-loop-i l =
    least (item_misses l.kind 0 (map misses l.item-items)) ≡ lesser (tokens_in l.best) (least (item_misses l.kind l.i (map misses (drop l.i l.item-items))))
