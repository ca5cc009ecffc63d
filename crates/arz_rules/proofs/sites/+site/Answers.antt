use Rattle.std.proofs.Common.{rules, map, true, ◌≡◌, ◌∙◌, ◌∷◌, sym, ap, subst, List, Option, Some, option_map, IfOk}
use Rattle.std.specs.Option.{option_copied}
use Rattle.arz_json.specs.Tree.{has_form, all_true}
use Rattle.arz_json.specs.Look.{object_in, member_in}
use Rattle.arz_json.specs.declared.tree.Member.{Member}
use Rattle.arz_json.specs.declared.place.Token.{Token}
use Rattle.arz_json.specs.declared.place.Token.TheVariants.{Name}
use Rattle.arz_rules.specs.declared.sites.Way.{Way}
use Rattle.arz_rules.specs.Place.{tokens_in, least}
use Rattle.arz_rules.specs.Sites.{seen_way, at as at_site}
use Rattle.arz_rules.proofs.InForm.{item_form, value_form, member_form, object_members}
use Rattle.arz_rules.proofs.Steps.{in_items_step, in_members_step, in_member_found}
use Rattle.arz_rules.proofs.sites.+site.Goals as goal

pub first_at-first_at-requires : goal.first_at-first_at-requires
first_at-first_at-requires g t c κs within =
    let h : has_form c.args.tree.now ≡ true = search rules in
    let e : member_in c.in-Member.name.now c.args.tree.now ≡ Some c.in-Some-child.value.now = sym c.child.ensures ∙ ap option_copied c.in-Some-child.is in
    (search rules, (search rules, member_form c.in-Member.name.now c.args.tree.now c.in-Some-child.value.now e h))

pub first_at-first_in_members-requires : goal.first_at-first_in_members-requires
first_at-first_in_members-requires g t c κs within =
    let h : has_form c.args.tree.now ≡ true = search rules in
    let e : object_in c.args.tree.now ≡ Some c.in-Some-as_object.members.now = sym c.as_object.ensures ∙ ap option_copied c.in-Some-as_object.is in
    (search rules, (search rules, object_members c.args.tree.now c.in-Some-as_object.members.now e h))

pub first_at-returns-in_ok-first_at-in-Some-child : goal.first_at-returns-in_ok-first_at-in-Some-child
first_at-returns-in_ok-first_at-in-Some-child g t c =
    let check = at_site (map seen_way c.in-Some.rest.now) (g.C.Check.places c.args.check.now) in
    let w : c.args.ways.now ≡ c.in-Some.way.now ∷ c.in-Some.rest.now = search rules in
    let e : member_in c.in-Member.name.now c.args.tree.now ≡ Some c.in-Some-child.value.now = sym c.child.ensures ∙ ap option_copied c.in-Some-child.is in
    let whole : option_map (λ q. Name c.in-Member.name.now ∷ q) (tokens_in c.in_ok-first_at-in-Some-child.field-0) ≡ least (at_site (map seen_way c.args.ways.now) (g.C.Check.places c.args.check.now) c.args.tree.now) =
    in_member_found check c.in-Member.name.now (member_in c.in-Member.name.now c.args.tree.now) c.in-Some-child.value.now (tokens_in c.in_ok-first_at-in-Some-child.field-0) e c.in_ok-first_at-in-Some-child.ensures
    ∙ sym (ap (λ (ways : List Way). least (at_site (map seen_way ways) (g.C.Check.places c.args.check.now) c.args.tree.now)) (w ∙ ap (λ (x : Way). x ∷ c.in-Some.rest.now) c.in-Member.is)) in
    let P : Option (List Token) → Type 0 = λ o. IfOk c.below_name.result (λ p. tokens_in p ≡ o) in
    subst P whole c.below_name.ensures

pub first_in_items-first_at-requires : goal.first_in_items-first_at-requires
first_in_items-first_at-requires g t c κs within =
    let h : all_true (map has_form c.args.items.now) ≡ true = search rules in
    (search rules, (search rules, ap has_form c.index-items-i.is ∙ item_form c.args.items.now c.loop-i.i c.index-items-i.result h c.loop-i-test.true))

pub first_in_items-loop-i-preserved : goal.first_in_items-loop-i-preserved
first_in_items-loop-i-preserved g t c =
    in_items_step (at_site (map seen_way c.args.rest.now) (g.C.Check.places c.args.check.now)) _ (tokens_in c.loop-i.best) (tokens_in c.lesser-best.result) (tokens_in c.in_ok-found.found) c.args.items.now c.loop-i.i c.index-items-i.result
    c.loop-i.invariant c.loop-i-test.true c.index-items-i.is c.in_ok-found.ensures (search rules)

pub first_in_members-first_at-requires : goal.first_in_members-first_at-requires
first_in_members-first_at-requires g t c κs within =
    let h : all_true (map (λ m. has_form m.value) c.args.members.now) ≡ true = search rules in
    (search rules, (search rules, ap (λ (m : Member). has_form m.value) c.member-item.is ∙ value_form c.args.members.now c.loop-member.member-index c.member-item.result h c.loop-member-test.true))

pub first_in_members-loop-member-preserved : goal.first_in_members-loop-member-preserved
first_in_members-loop-member-preserved g t c =
    in_members_step (at_site (map seen_way c.args.rest.now) (g.C.Check.places c.args.check.now)) _ (tokens_in c.loop-member.best) (tokens_in c.lesser-best.result) (tokens_in c.in_ok-found.found) c.args.members.now c.loop-member.member-index c.member-item.result
    c.loop-member.invariant c.loop-member-test.true c.member-item.is c.in_ok-found.ensures (search rules)
