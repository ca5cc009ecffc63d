use Rattle.std.proofs.Common.{◌<◌, length, Ok, sym, ◌∙◌, subst, arith}
use Rattle.arz_http.specs.declared.reader.Fed.{Fed}
use Rattle.arz_http.specs.Readings.{TakesReply}
use Rattle.std.proofs.lemmas.Bool.{eqb-true, eqb-false}
use Rattle.arz_exchange.proofs.Hearing.{hears_end, hears_done, hears_fault}
use Rattle.arz_exchange.proofs.receiving.hear.Goals as goal

pub returns-then-is_empty-clause-hears : goal.returns-then-is_empty-clause-hears
returns-then-is_empty-clause-hears c =
    hears_end c.args.reader.now.head_only c.args.reader.now.bytes c.args.piece.now c.end.new.self (eqb-true (length c.args.piece.now) 0 (sym c.is_empty.ensures ∙ c.if-is_empty.true))
    c.end.ensures.head_only c.end.ensures.bytes (c.in_ok-end.ensures.taken c.requires.taking)

pub returns-in-Ok-Done-clause-hears : goal.returns-in-Ok-Done-clause-hears
returns-in-Ok-Done-clause-hears c =
    let some : 0 < length c.args.piece.now = let none = eqb-false (length c.args.piece.now) 0 (sym c.is_empty.ensures ∙ c.if-is_empty.false) in omega (arith, none) in
    hears_done c.args.reader.now.head_only c.args.reader.now.bytes c.args.piece.now c.feed.new.self some c.feed.ensures.head_only _
    (subst (λ (f : Fed). TakesReply c.args.reader.now.head_only c.args.reader.now.bytes c.args.piece.now c.feed.new.self.bytes c.feed.new.self.seen (Ok f)) c.in-Ok-Done.field-0-is (c.in-Ok-Done.ensures.taken c.requires.taking))

pub returns-in-Err-clause-hears : goal.returns-in-Err-clause-hears
returns-in-Err-clause-hears c =
    let some : 0 < length c.args.piece.now = let none = eqb-false (length c.args.piece.now) 0 (sym c.is_empty.ensures ∙ c.if-is_empty.false) in omega (arith, none) in
    hears_fault c.args.reader.now.head_only c.args.reader.now.bytes c.args.piece.now c.feed.new.self some c.feed.ensures.head_only c.in-Err.fault (c.in-Err.ensures.taken c.requires.taking)
