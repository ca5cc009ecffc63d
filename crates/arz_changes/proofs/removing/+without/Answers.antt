use Rattle.std.proofs.Common.{◌≡◌, ◌<◌, ◌++◌, ◌∷◌, ◌+◌, [], Some, drop, get_or, length, sym, ap, ◌∙◌, arith, append_assoc, add-one}
use Rattle.std.specs.Option.{option_to_list}
use Rattle.std.proofs.lemmas.List.{get_or-map}
use Rattle.arz_json.specs.Tree.{has_form}
use Rattle.arz_json.specs.declared.place.Token.TheVariants.{Name, Index}
use Rattle.arz_wire.specs.Spelling.{number}
use Rattle.arz_wire.proofs.Measures.{list_length, object_length}
use Rattle.arz_changes.specs.Removal.{below, child_kept, member_kept, items_kept, members_kept}
use Rattle.arz_changes.specs.Groups.{ways_seen, group_seen}
use Rattle.arz_changes.specs.Weight.{weight, items_weight, members_weight}
use Rattle.arz_changes.proofs.Forms.{items_form, values_form, list_form, object_form}
use Rattle.arz_changes.proofs.Lists.{left, right, drop_tail, drop_head}
use Rattle.arz_changes.proofs.Weights.{items_weight-cons, items_weight-append, items_weight-drop, items_weight-option, members_weight-cons, members_weight-append, members_weight-drop}
use Rattle.arz_changes.proofs.Removals.{without_none, none_seen, items_kept-cons, members_kept-cons, items_form-drop, values_form-drop}
use Rattle.arz_changes.proofs.removing.+without.Goals as goal

pub kept_child-returns-then-is_empty-clause-gives : goal.kept_child-returns-then-is_empty-clause-gives
kept_child-returns-then-is_empty-clause-gives t c =
    ap (λ j. Some j) (sym (without_none c.args.child)) ∙ ap (child_kept c.args.child) (sym (none_seen c.args.ways.now (sym c.is_empty.ensures ∙ c.if-is_empty.true)))

pub kept_items-returns-clause-tallies : goal.kept_items-returns-clause-tallies
kept_items-returns-clause-tallies t c =
    let before = list_length c.args.items in
    let after = list_length c.from_std-kept.result in
    let first = ap (λ n. length (number n)) c.len.ensures in
    let second = ap (λ n. length (number n)) c.len-3.ensures in
    let was = ap items_weight c.into_std.ensures in
    let now = ap items_weight c.from_std-kept.ensures in
    let step = c.in_ok-kept.ensures.tallies.balance in
    let a = c.in_ok-goes.ensures.gone in
    let b = c.in_ok-goes.ensures.come in
    let d = c.in_ok-comes.ensures.come in
    let e = c.in_ok-comes.ensures.gone in
    record { balance = omega (arith, before, after, first, second, was, now, step, a, b, d, e) }

pub kept_member-kept_child-requires : goal.kept_member-kept_child-requires
kept_member-kept_child-requires t c = let one = members_weight-cons c.args.member [] in (omega (arith, one), c.requires)

pub kept_members-returns-clause-tallies : goal.kept_members-returns-clause-tallies
kept_members-returns-clause-tallies t c =
    let before = object_length c.args.members in
    let after = object_length c.from_std-kept.result in
    let first = ap (λ n. length (number n)) c.len.ensures in
    let second = ap (λ n. length (number n)) c.len-2.ensures in
    let was = ap members_weight c.into_std.ensures in
    let now = ap members_weight c.from_std-kept.ensures in
    let step = c.in_ok-kept.ensures.tallies.balance in
    let a = c.in_ok-goes.ensures.gone in
    let b = c.in_ok-goes.ensures.come in
    let d = c.in_ok-comes.ensures.come in
    let e = c.in_ok-comes.ensures.gone in
    record { balance = omega (arith, before, after, first, second, was, now, step, a, b, d, e) }

pub left_items-kept_child-requires : goal.left_items-kept_child-requires
left_items-kept_child-requires t c =
    let i = c.loop-group.group-index in
    let items = c.from_vec-rest.result.items in
    let whole : drop i items ≡ c.in-Some.item ∷ c.pop_front.new.self.items = sym c.loop-group.invariant.rest ∙ c.in-Some.ensures.items in
    let a = ap items_weight whole in
    let b = items_weight-cons c.in-Some.item c.pop_front.new.self.items in
    let d = items_weight-drop i items in
    let e = ap items_weight c.from_vec-rest.ensures.items in (
      omega (arith, a, b, d, e),
      left (has_form c.in-Some.item) _ (sym (ap items_form whole) ∙ items_form-drop i items (ap items_form c.from_vec-rest.ensures.items ∙ c.requires.form)),
    )

pub left_items-loop-group-preserved : goal.left_items-loop-group-preserved
left_items-loop-group-preserved t c =
    let i = c.loop-group.group-index in
    let items = c.from_vec-rest.result.items in
    let item = c.in-Some.item in
    let rest = c.pop_front.new.self.items in
    let kept = c.loop-group.kept.items in
    let ps = ways_seen c.args.ways.now in
    let inv = c.loop-group.invariant in
    let whole : drop i items ≡ item ∷ rest = sym inv.rest ∙ c.in-Some.ensures.items in
    let within : i < length c.args.groups.now = omega arith in
    let ways : ways_seen c.as_slice.result.now ≡ below (Index i) ps =
    ap ways_seen c.as_slice.ensures.value ∙ ap group_seen c.group-item.is ∙ sym (get_or-map group_seen c.args.groups.now i c.group-item.result [] within) ∙ c.requires.groups i (omega (arith, within, c.requires.len)) in
    let pushed : c.push_any.new.items.items ≡ kept ++ option_to_list (child_kept item (below (Index i) ps)) =
    c.in_ok-push_any.ensures ∙ ap (λ o. kept ++ option_to_list o) (c.in_ok-left.ensures.gives ∙ ap (child_kept item) ways) in
    let heavy = ap (λ l. items_weight (l ++ rest)) c.in_ok-push_any.ensures in
    let a = items_weight-append (kept ++ option_to_list c.in_ok-left.left) rest in
    let b = items_weight-append kept (option_to_list c.in_ok-left.left) in
    let d = items_weight-option c.in_ok-left.left in
    let e = ap (λ l. items_weight (kept ++ l)) c.in-Some.ensures.items in
    let f = items_weight-append kept (item ∷ rest) in
    let g = items_weight-cons item rest in
    let before = inv.tallies.balance in
    let step = c.in_ok-left.ensures.tallies.balance in
    record {
      rest = sym (rw add-one (drop_tail items i item rest whole));
      gives = ap (λ l. l ++ items_kept ps (i + 1) rest) pushed ∙ append_assoc kept (option_to_list (child_kept item (below (Index i) ps))) (items_kept ps (i + 1) rest)
          ∙ ap (λ l. kept ++ l) (sym (items_kept-cons ps i item rest) ∙ ap (items_kept ps i) (sym c.in-Some.ensures.items)) ∙ inv.gives;
      tallies = record { balance = omega (arith, heavy, a, b, d, e, f, g, before, step) };
    }

pub left_members-kept_member-requires : goal.left_members-kept_member-requires
left_members-kept_member-requires t c =
    let i = c.loop-group.group-index in
    let members = c.from_vec-rest.result.items in
    let whole : drop i members ≡ c.in-Some.member ∷ c.pop_front.new.self.items = sym c.loop-group.invariant.rest ∙ c.in-Some.ensures.items in
    let a = ap members_weight whole in
    let b = members_weight-append (c.in-Some.member ∷ []) c.pop_front.new.self.items in
    let d = members_weight-drop i members in
    let e = ap members_weight c.from_vec-rest.ensures.items in (
      omega (arith, a, b, d, e),
      left (has_form c.in-Some.member.value) _ (sym (ap values_form whole) ∙ values_form-drop i members (ap values_form c.from_vec-rest.ensures.items ∙ c.requires.form)),
    )

pub left_members-loop-group-preserved : goal.left_members-loop-group-preserved
left_members-loop-group-preserved t c =
    let i = c.loop-group.group-index in
    let members = c.from_vec-rest.result.items in
    let m = c.in-Some.member in
    let rest = c.pop_front.new.self.items in
    let kept = c.loop-group.kept.items in
    let ps = ways_seen c.args.ways.now in
    let inv = c.loop-group.invariant in
    let whole : drop i members ≡ m ∷ rest = sym inv.rest ∙ c.in-Some.ensures.items in
    let within : i < length c.args.groups.now = omega arith in
    let is : get_or c.args.members.items i m ≡ m = ap (λ l. get_or l i m) (sym c.from_vec-rest.ensures.items) ∙ drop_head members i m m rest whole in
    let ways : ways_seen c.as_slice.result.now ≡ below (Name m.name) ps =
    ap ways_seen c.as_slice.ensures.value ∙ ap group_seen c.group-item.is ∙ sym (get_or-map group_seen c.args.groups.now i c.group-item.result [] within) ∙ c.requires.groups i m (omega (arith, within, c.requires.len))
    ∙ ap (λ (n : _). below (Name n.name) ps) is in
    let pushed : c.push_any.new.items.items ≡ kept ++ option_to_list (member_kept m (below (Name m.name) ps)) =
    c.in_ok-push_any.ensures ∙ ap (λ o. kept ++ option_to_list o) (c.in_ok-left.ensures.gives ∙ ap (member_kept m) ways) in
    let heavy = ap (λ l. members_weight (l ++ rest)) c.in_ok-push_any.ensures in
    let a = members_weight-append (kept ++ option_to_list c.in_ok-left.left) rest in
    let b = members_weight-append kept (option_to_list c.in_ok-left.left) in
    let e = ap (λ l. members_weight (kept ++ l)) c.in-Some.ensures.items in
    let f = members_weight-append kept (m ∷ rest) in
    let g = members_weight-append (m ∷ []) rest in
    let before = inv.tallies.balance in
    let step = c.in_ok-left.ensures.tallies.balance in
    record {
      rest = sym (rw add-one (drop_tail members i m rest whole));
      gives = ap (λ l. l ++ members_kept ps rest) pushed ∙ append_assoc kept (option_to_list (member_kept m (below (Name m.name) ps))) (members_kept ps rest)
          ∙ ap (λ l. kept ++ l) (sym (members_kept-cons ps m rest) ∙ ap (members_kept ps) (sym c.in-Some.ensures.items)) ∙ inv.gives;
      tallies = record { balance = omega (arith, heavy, a, b, e, f, g, before, step) };
    }

pub without-kept_items-requires : goal.without-kept_items-requires
without-kept_items-requires t c =
    let whole = ap weight c.in-List.is ∙ list_length c.in-List.items in
    (omega (arith, whole), sym (list_form c.in-List.items) ∙ sym (ap has_form c.in-List.is) ∙ c.requires)

pub without-kept_members-requires : goal.without-kept_members-requires
without-kept_members-requires t c =
    let whole = ap weight c.in-Object.is ∙ object_length c.in-Object.members in
    let form = sym (object_form c.in-Object.members) ∙ sym (ap has_form c.in-Object.is) ∙ c.requires in
    (omega (arith, whole), (left _ _ form, right _ (values_form c.in-Object.members) form))
