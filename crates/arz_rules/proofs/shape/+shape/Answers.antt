use Rattle.std.proofs.Common.{◌≡◌, List, map, IfOk, subst, rules}
use Rattle.arz_json.specs.declared.place.Token.{Token}
use Rattle.arz_rules.specs.Place.{least, tokens_in}
use Rattle.arz_rules.specs.Shapes.{seen_field, seen_form}
use Rattle.arz_rules.specs.Misses.{misses, level_of, shape_misses}
use Rattle.arz_rules.proofs.Levels.{misses_by}
use Rattle.arz_rules.proofs.Steps.{items_step, members_step}
use Rattle.arz_rules.proofs.shape.+shape.Goals as goal

pub first_miss-returns : goal.first_miss-returns
first_miss-returns t c =
    let e : shape_misses (seen_form c.form_at.result) (level_of c.args.tree.now) ≡ misses c.args.tree.now c.args.kind = misses_by c.args.tree.now c.args.kind c.in_ok-kind.kind _ c.in_ok-kind.ensures c.form_at.ensures in
    let P : List (List Token) → Type 0 = λ ps. IfOk c.first_miss_of.result (λ p. tokens_in p ≡ least ps) in
    subst P e c.first_miss_of.ensures

pub first_miss_in_items-loop-i-preserved : goal.first_miss_in_items-loop-i-preserved
first_miss_in_items-loop-i-preserved t c =
    items_step c.args.kind _ (tokens_in c.loop-i.best) (tokens_in c.lesser-best.result) (tokens_in c.in_ok-found.found) c.as_slice-item-items.result.now c.loop-i.i c.item-item.result
    c.loop-i.invariant c.loop-i-test.true c.item-item.is c.in_ok-found.ensures (search rules)

pub first_miss_in_members-loop-member-preserved : goal.first_miss_in_members-loop-member-preserved
first_miss_in_members-loop-member-preserved t c =
    members_step (map seen_field c.args.fields.now) c.args.others c.kind_of_member-kind.result _ (tokens_in c.loop-member.best) (tokens_in c.lesser-best.result) (tokens_in c.in_ok-found.found) c.as_slice-member-items.result.now c.loop-member.member-index c.member-item.result
    c.loop-member.invariant c.loop-member-test.true c.member-item.is (search rules) c.in_ok-found.ensures (search rules)
