use Rattle.std.proofs.Common.{◌≡◌, ◌++◌, drop, map, true}
use Rattle.arz_json.specs.Tree.{has_form, all_true}
use Rattle.arz_wire.specs.Spelling.{spellings, member_spellings}
use Rattle.arz_wire.specs.Texts.{has_texts, has_text}
use Rattle.arz_wire.proofs.writing.+tree.Given as goal

abbrev pub invariant-put_items-loop-item : goal.invariant-put_items-loop-item
invariant-put_items-loop-item l =
    (all_true (map has_form (drop l.item-index l.item-items)) ≡ true)
    × (all_true (map has_texts l.item-items) ≡ all_true (map has_texts (drop l.item-index l.item-items)))
    × (l.out.items ++ spellings (drop l.item-index l.item-items) ≡ l.initial.out.items ++ spellings l.item-items)

abbrev pub invariant-put_members-loop-member : goal.invariant-put_members-loop-member
invariant-put_members-loop-member l =
    (all_true (map (λ m. has_form m.value) (drop l.member-index l.member-items)) ≡ true)
    × (all_true (map has_text l.member-items) ≡ all_true (map has_text (drop l.member-index l.member-items)))
    × (l.out.items ++ member_spellings (drop l.member-index l.member-items) ≡ l.initial.out.items ++ member_spellings l.member-items)
