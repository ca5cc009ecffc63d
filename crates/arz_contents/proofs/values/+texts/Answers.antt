use Rattle.std.proofs.Common.{◌≡◌, List, IfOk, subst, sym, rules}
use Rattle.arz_json.specs.declared.place.Token.{Token}
use Rattle.arz_rules.specs.Place.{least, tokens_in}
use Rattle.arz_contents.specs.Contents.{bad_texts, text_level, text_level_of}
use Rattle.arz_contents.proofs.TextLevels.{texts_level, items_step, members_step}
use Rattle.arz_contents.proofs.values.+texts.Goals as goal

pub first_bad_text-returns : goal.first_bad_text-returns
first_bad_text-returns t c =
    let e : text_level (text_level_of c.args.tree.now) ≡ bad_texts c.args.tree.now = sym (texts_level c.args.tree.now) in
    let P : List (List Token) → Type 0 = λ ps. IfOk c.first_in_level.result (λ p. tokens_in p ≡ least ps) in
    subst P e c.first_in_level.ensures

pub first_in_items-loop-i-preserved : goal.first_in_items-loop-i-preserved
first_in_items-loop-i-preserved t c =
    items_step _ (tokens_in c.loop-i.best) (tokens_in c.lesser-best.result) (tokens_in c.in_ok-found.found) c.as_slice-item-items.result.now c.loop-i.i c.item-item.result
    c.loop-i.invariant c.loop-i-test.true c.item-item.is c.in_ok-found.ensures (search rules)

pub first_in_members-loop-member-preserved : goal.first_in_members-loop-member-preserved
first_in_members-loop-member-preserved t c =
    members_step _ (tokens_in c.loop-member.best) (tokens_in c.lesser-best.result) (tokens_in c.in_ok-found.found) c.as_slice-member-items.result.now c.loop-member.member-index c.member-item.result
    c.loop-member.invariant c.loop-member-test.true c.member-item.is c.in_ok-found.ensures (search rules)
