use Rattle.std.proofs.Common.{◌≡◌, ℕ, ◌+◌, ◌-◌, List, [], ◌∷◌, ◌++◌, length, Some, None, sym, ap, ◌∙◌, arith, option_map, option_and_then}
use Rattle.arz_query.specs.Lexical.{texted}
use Rattle.arz_cond.specs.Reading.{character_at, quoted_at, quoted_within}
use Rattle.arz_cond.proofs.Quoted.{behind, quoted_end, quoted_takes, quoted_none}
use Rattle.arz_cond.proofs.literals.quoted.Goals as goal

pub returns-in_default : goal.returns-in_default
returns-in_default c =
    let l = c.loop in
    let none : character_at l.rest.now ≡ None = grind arith in
    let whole = quoted_end c.args.text.now l.bytes.items l.rest.now l.counter l.invariant c.loop-test.true none in
    rw (whole, ← c.as_slice.ensures.value) c.ended.ensures

pub loop-preserved : goal.loop-preserved
loop-preserved c =
    let l = c.loop in
    let next : character_at l.rest.now ≡ Some (c.in-Some.byte, c.in-Some.more.now) = grind arith in
    let items : c.push.new.self.items ≡ l.bytes.items ++ c.in-Some.byte ∷ [] = grind arith in
    l.invariant
    ∙ quoted_takes (length c.args.text.now) l.counter l.bytes.items l.rest.now c.in-Some.more.now c.in-Some.byte c.loop-test.true next
    ∙ ap (λ (f : List ℕ). option_map (behind f) (quoted_within (length c.args.text.now - (l.counter + 1)) c.in-Some.more.now)) (sym items)

pub returns : goal.returns
unfolding quoted_at
returns c =
    let l = c.loop in
    ap (option_and_then texted) (l.invariant ∙ quoted_none (length c.args.text.now - l.counter) l.bytes.items l.rest.now (omega arith))
