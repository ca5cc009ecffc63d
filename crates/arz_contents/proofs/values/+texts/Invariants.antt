use Rattle.std.proofs.Common.{◌≡◌, drop, map}
use Rattle.arz_rules.specs.Place.{least, lesser, tokens_in}
use Rattle.arz_contents.specs.Contents.{bad_texts, in_each_item, in_each_member, named_texts}
use Rattle.arz_contents.proofs.values.+texts.Given as goal

abbrev pub invariant-first_in_items-loop-i : goal.invariant-first_in_items-loop-i
invariant-first_in_items-loop-i l =
    least (in_each_item 0 (map bad_texts l.item-items)) ≡ lesser (tokens_in l.best) (least (in_each_item l.i (map bad_texts (drop l.i l.item-items))))

abbrev pub invariant-first_in_members-loop-member : goal.invariant-first_in_members-loop-member
invariant-first_in_members-loop-member l =
    least (in_each_member (named_texts l.member-items)) ≡ lesser (tokens_in l.best) (least (in_each_member (named_texts (drop l.member-index l.member-items))))
