use Rattle.std.proofs.Common.{◌<◌, length, sym, ◌∙◌, subst, arith}
use Rattle.std.proofs.lemmas.Bool.{eqb-true, eqb-false}
use Rattle.arz_http.specs.Standings.{Stands, StandsBefore}
use Rattle.arz_http.proofs.PastRoom.{none_behind, long_to_close, long_chunks, no_other}
use Rattle.arz_http.proofs.standing.past_room.Goals as goal
use Rattle.arz_http.proofs.standing.past_room.Goals.{Else-is_empty}

some : (c : Else-is_empty) → 0 < length c.args.rest.now
some c = let none = eqb-false (length c.args.rest.now) 0 (sym c.is_empty.ensures ∙ c.if-is_empty.false) in omega (arith, none)

pub returns-then-is_empty : goal.returns-then-is_empty
returns-then-is_empty c =
    none_behind c.args.head_only c.args.bytes.now c.args.rest.now c.args.standing c.requires.stands (eqb-true (length c.args.rest.now) 0 (sym c.is_empty.ensures ∙ c.if-is_empty.true))

pub returns-in-Chunks : goal.returns-in-Chunks
returns-in-Chunks c =
    let s = some (goal.at.returns-in-Chunks c).Else-is_empty in
    subst (StandsBefore c.args.head_only c.args.bytes.now c.args.rest.now) (sym c.faulted.ensures)
    (long_chunks c.args.head_only c.args.bytes.now c.args.rest.now c.in-Chunks.start c.in-Chunks.field-1 (subst (Stands c.args.head_only c.args.bytes.now) c.in-Chunks.is c.requires.stands) s (c.requires.full s))

pub returns-in-ToClose : goal.returns-in-ToClose
returns-in-ToClose c =
    let s = some (goal.at.returns-in-ToClose c).Else-is_empty in
    subst (StandsBefore c.args.head_only c.args.bytes.now c.args.rest.now) (sym c.faulted-in-ToClose.ensures)
    (long_to_close c.args.head_only c.args.bytes.now c.args.rest.now c.in-ToClose.start (subst (Stands c.args.head_only c.args.bytes.now) c.in-ToClose.is c.requires.stands) s (c.requires.full s))

pub returns-in_default : goal.returns-in_default
returns-in_default c =
    let s = some (goal.at.returns-in_default c).Else-is_empty in
    no_other c.args.head_only c.args.bytes.now c.args.rest.now c.args.standing c.requires.stands s (c.requires.full s) c.in_default.not-Chunks c.in_default.not-ToClose
