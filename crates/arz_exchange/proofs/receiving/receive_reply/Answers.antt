use Rattle.std.proofs.Common.{◌≡◌, ◌-◌, ◌<◌, ◌≤◌, ℕ, Bool, List, ◌++◌, Ok, length, refl, ◌∙◌, ap, subst, arith, rules, length-append}
use Rattle.arz_exchange.specs.Conversing.{Brings}
use Rattle.arz_exchange.proofs.FewBytes.{few_bytes}
use Rattle.arz_exchange.proofs.Calls.{so_far_none, so_far_on, ends_whole, ends_each, fails, fails_each, calls_in}
use Rattle.arz_exchange.proofs.receiving.receive_reply.Goals as goal

grows : (old new piece : List ℕ) → new ≡ old ++ piece → 0 < length piece → length new ≤ 1114112 → 1114113 - length new < 1114113 - length old
grows old new piece is some few = omega (arith, ap length is, length-append old piece, some, few)

pub pieces-init : goal.pieces-init
pieces-init g c = record { so_far = so_far_none _ c.args.reader.now c.requires.unread; head_only = refl; room = c.requires.room }

pub returns-in-Ok-true-clause-answered : goal.returns-in-Ok-true-clause-answered
returns-in-Ok-true-clause-answered g c =
    ends_whole _ _ _ c.pieces.reader (g.met.W.World.lawful _) c.pieces.invariant.so_far c.receive_piece.ensures.call c.receive_piece.new.reader
    (subst (λ (x : Bool). Brings c.pieces.reader c.receive_piece.new.reader (g.W.World.told c.pieces.world) (g.W.World.told c.receive_piece.new.world) (Ok x)) c.in-Ok-true.field-0-test c.in-Ok-true.ensures.brings)

pub returns-in-Ok-true-clause-any_moment : goal.returns-in-Ok-true-clause-any_moment
returns-in-Ok-true-clause-any_moment g c =
    ends_each _ _ _ c.pieces.reader (g.met.W.World.lawful _) c.pieces.invariant.so_far c.receive_piece.ensures.call c.receive_piece.new.reader
    (subst (λ (x : Bool). Brings c.pieces.reader c.receive_piece.new.reader (g.W.World.told c.pieces.world) (g.W.World.told c.receive_piece.new.world) (Ok x)) c.in-Ok-true.field-0-test c.in-Ok-true.ensures.brings)

pub returns-in-Ok-true-clause-calls : goal.returns-in-Ok-true-clause-calls
returns-in-Ok-true-clause-calls g c =
    omega (arith, few_bytes _ _ c.pieces.invariant.so_far.more, calls_in _ _ _ c.pieces.reader (g.met.W.World.lawful _) c.pieces.invariant.so_far c.receive_piece.ensures.call)

pub pieces-smaller : goal.pieces-smaller
pieces-smaller g c =
    let b = subst (λ (x : Bool). Brings c.pieces.reader c.receive_piece.new.reader (g.W.World.told c.pieces.world) (g.W.World.told c.receive_piece.new.world) (Ok x)) c.in-Ok-false.field-0-test c.in-Ok-false.ensures.brings in
    grows c.pieces.reader.bytes c.receive_piece.new.reader.bytes b.0 b.1.1 b.1.0 (few_bytes _ _ b.1.3)

pub pieces-preserved : goal.pieces-preserved
pieces-preserved g c =
    let b = subst (λ (x : Bool). Brings c.pieces.reader c.receive_piece.new.reader (g.W.World.told c.pieces.world) (g.W.World.told c.receive_piece.new.world) (Ok x)) c.in-Ok-false.field-0-test c.in-Ok-false.ensures.brings in
    record {
      so_far = so_far_on _ _ _ c.pieces.reader (g.met.W.World.lawful _) c.pieces.invariant.so_far c.receive_piece.ensures.call b.0 b.2 c.receive_piece.new.reader b.1;
      head_only = c.receive_piece.ensures.head_only ∙ c.pieces.invariant.head_only;
      room = search rules;
    }

pub returns-in-Err-clause-answered : goal.returns-in-Err-clause-answered
returns-in-Err-clause-answered g c =
    fails _ _ _ c.pieces.reader (g.met.W.World.lawful _) c.pieces.invariant.so_far c.receive_piece.ensures.call c.in-Err.fault c.receive_piece.new.reader c.in-Err.ensures.brings

pub returns-in-Err-clause-any_moment : goal.returns-in-Err-clause-any_moment
returns-in-Err-clause-any_moment g c =
    fails_each _ _ _ c.pieces.reader (g.met.W.World.lawful _) c.pieces.invariant.so_far c.receive_piece.ensures.call c.in-Err.fault c.receive_piece.new.reader c.in-Err.ensures.brings

pub returns-in-Err-clause-calls : goal.returns-in-Err-clause-calls
returns-in-Err-clause-calls g c =
    omega (arith, few_bytes _ _ c.pieces.invariant.so_far.more, calls_in _ _ _ c.pieces.reader (g.met.W.World.lawful _) c.pieces.invariant.so_far c.receive_piece.ensures.call)
