use Rattle.std.proofs.Common.{◌≡◌, ◌∙◌, ◌++◌, List, ℕ, Bool, Ok, Err, length, sym, subst}
use Rattle.std.proofs.lemmas.Bool.{eqb-true}
use Rattle.arz_http.specs.declared.reader.Fed.{Fed}
use Rattle.arz_http.specs.Readings.{TakesReply, Closes}
use Rattle.arz_probe.specs.Replies.{IsRead}
use Rattle.arz_probe.proofs.Received.{done, refused, ended, cut_parts}
use Rattle.arz_probe.proofs.replies.read_all.Goals as goal

pub returns-in-Err : goal.returns-in-Err
returns-in-Err c =
    subst (λ (o : Bool). IsRead o c.args.came.now c.feed.new.self (Err c.in-Err.fault)) c.pieces.invariant.1
    (refused c.pieces.reader.head_only c.args.came.now c.pieces.reader.bytes c.split_at.result.0.now c.split_at.result.1.now c.feed.new.self c.in-Err.fault
    (cut_parts c.args.came.now c.pieces.reader.bytes c.pieces.rest.now _ _ c.min.result c.pieces.invariant.2 c.split_at.ensures.front c.split_at.ensures.back)
    c.one_fault.ensures.stays (c.in-Err.ensures.taken c.pieces.invariant.0))

pub returns-in-Ok-Done : goal.returns-in-Ok-Done
returns-in-Ok-Done c =
    subst (λ (o : Bool). IsRead o c.args.came.now c.feed.new.self (Ok tt)) c.pieces.invariant.1
    (done c.pieces.reader.head_only c.args.came.now c.pieces.reader.bytes c.split_at.result.0.now c.split_at.result.1.now c.feed.new.self _
    (cut_parts c.args.came.now c.pieces.reader.bytes c.pieces.rest.now _ _ c.min.result c.pieces.invariant.2 c.split_at.ensures.front c.split_at.ensures.back)
    (subst (λ (f : Fed). TakesReply c.pieces.reader.head_only c.pieces.reader.bytes c.split_at.result.0.now c.feed.new.self.bytes c.feed.new.self.seen (Ok f)) c.in-Ok-Done.field-0-is (c.in-Ok-Done.ensures.taken c.pieces.invariant.0)))

pub returns : goal.returns
returns c =
    subst (λ (o : Bool). IsRead o c.args.came.now c.end.new.self c.end.result) c.pieces.invariant.1
    (ended c.pieces.reader.head_only c.args.came.now c.pieces.reader.bytes c.pieces.rest.now c.end.new.self c.end.result c.pieces.invariant.2
    (eqb-true (length c.pieces.rest.now) 0 (sym c.is_empty.ensures ∙ c.pieces-test.false)) c.end.ensures.bytes (c.end.ensures.taken c.pieces.invariant.0))
