use Rattle.std.proofs.Common.{◌≡◌, ◌-◌, length, Some, None, option_map, ap, ◌∙◌, arith, option_and_then}
use Rattle.std.proofs.lemmas.Grind.{common_steps}
use Rattle.arz_query.specs.Lexical.{after_byte, quoted_at, behind, piece_at, texted}
use Rattle.arz_query.proofs.Texts.{quoted_ends, quoted_fails, quoted_takes, quoted_none}
use Rattle.arz_query.proofs.quoted.quoted.Goals as goal

pub returns-in_err-text : goal.returns-in_err-text
unfolding quoted_at
returns-in_err-text c =
    let l = c.loop in
    let end : after_byte c.args.quote l.rest.now ≡ Some c.in-Some.end.now = grind arith in
    let whole = ap (option_and_then texted) (l.invariant ∙ quoted_ends (length c.args.text.now) l.counter c.args.quote l.bytes.items l.rest.now c.in-Some.end.now c.loop-test.true end) in
    grind (arith, common_steps, whole)

pub returns-in-Some : goal.returns-in-Some
unfolding quoted_at
returns-in-Some c =
    let l = c.loop in
    let end : after_byte c.args.quote l.rest.now ≡ Some c.in-Some.end.now = grind arith in
    let whole = ap (option_and_then texted) (l.invariant ∙ quoted_ends (length c.args.text.now) l.counter c.args.quote l.bytes.items l.rest.now c.in-Some.end.now c.loop-test.true end) in
    grind (arith, common_steps, whole)

pub returns-in_err-rest : goal.returns-in_err-rest
unfolding quoted_at
returns-in_err-rest c =
    let l = c.loop in
    let none : after_byte c.args.quote l.rest.now ≡ None = grind arith in
    let step = quoted_fails (length c.args.text.now) l.counter c.args.quote l.bytes.items l.rest.now c.loop-test.true none in
    grind (arith, common_steps, l.invariant, step)

pub loop-preserved : goal.loop-preserved
loop-preserved c =
    let l = c.loop in
    let none : after_byte c.args.quote l.rest.now ≡ None = grind arith in
    let piece : option_map (behind l.bytes.items) (piece_at c.args.quote l.rest.now) ≡ Some (c.push_piece.new.bytes.items, c.in_ok-rest.rest.now) = grind arith in
    l.invariant ∙ quoted_takes (length c.args.text.now) l.counter c.args.quote l.bytes.items l.rest.now c.push_piece.new.bytes.items c.in_ok-rest.rest.now c.loop-test.true none piece

pub returns : goal.returns
unfolding quoted_at
returns c =
    let l = c.loop in
    ap (option_and_then texted) (l.invariant ∙ quoted_none (length c.args.text.now - l.counter) c.args.quote l.bytes.items l.rest.now (omega arith))
