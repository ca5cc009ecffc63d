use Rattle.std.proofs.Common.{IsTrue, refl, sym, subst, arith}
use Rattle.arz_world.proofs.Moments.{if_told, later_trans}
use Rattle.arz_journal.proofs.Firsts.{looked, is_there, wrote, synced, is_made}
use Rattle.arz_journal.proofs.block.put_first.Goals as goal

pub returns-in_err-size-clause-any_moment : goal.returns-in_err-size-clause-any_moment
returns-in_err-size-clause-any_moment g c = λ can. if_told _ _ _ c.size.ensures.call.time.later (g.met.W.World.lawful _) (λ told. looked _ (can told) _ c.size.ensures.call c.size.ensures.images)

pub returns-then-size-gt9-clause-any_moment : goal.returns-then-size-gt9-clause-any_moment
returns-then-size-gt9-clause-any_moment g c = λ can. if_told _ _ _ c.size.ensures.call.time.later (g.met.W.World.lawful _) (λ told. looked _ (can told) _ c.size.ensures.call c.size.ensures.images)

pub returns-then-size-gt9-clause-put : goal.returns-then-size-gt9-clause-put
returns-then-size-gt9-clause-put g c = λ can told. is_there _ (can told) _ c.size.ensures.call c.size.ensures.images c.size.ensures.file (let room = c.in_ok-size.ensures.size told in omega (arith, room, c.if-size-gt9.true))

pub returns-in_err-write-clause-any_moment : goal.returns-in_err-write-clause-any_moment
returns-in_err-write-clause-any_moment g c = λ can. if_told _ _ _ (later_trans _ _ _ c.size.ensures.call.time.later c.write.ensures.call.time.later) (g.met.W.World.lawful _) (λ told. wrote _ (can told) _ c.size.ensures.call c.size.ensures.images c.size.ensures.file (let room = c.in_ok-size.ensures.size told in omega (arith, room, c.if-size-gt9.false)) _ refl _ c.write.ensures.call c.write.ensures.images)

pub returns-in_err-sync-clause-any_moment : goal.returns-in_err-sync-clause-any_moment
returns-in_err-sync-clause-any_moment g c = λ can. if_told _ _ _ (later_trans _ _ _ (later_trans _ _ _ c.size.ensures.call.time.later c.write.ensures.call.time.later) c.sync.ensures.call.time.later) (g.met.W.World.lawful _) (λ told. synced _ (can told) _ c.size.ensures.call c.size.ensures.images c.size.ensures.file (let room = c.in_ok-size.ensures.size told in omega (arith, room, c.if-size-gt9.false)) _ refl _ c.write.ensures.call c.write.ensures.images _ c.sync.ensures.call c.sync.ensures.images)

pub returns-clause-any_moment : goal.returns-clause-any_moment
returns-clause-any_moment g c = λ can. if_told _ _ _ (later_trans _ _ _ (later_trans _ _ _ c.size.ensures.call.time.later c.write.ensures.call.time.later) c.sync.ensures.call.time.later) (g.met.W.World.lawful _) (λ told. synced _ (can told) _ c.size.ensures.call c.size.ensures.images c.size.ensures.file (let room = c.in_ok-size.ensures.size told in omega (arith, room, c.if-size-gt9.false)) _ refl _ c.write.ensures.call c.write.ensures.images _ c.sync.ensures.call c.sync.ensures.images)

pub returns-clause-put : goal.returns-clause-put
returns-clause-put g c = λ can told.
    let told1 = subst IsTrue (sym c.size.ensures.call.time.later.tells) told in
    is_made _ (can told) _ c.size.ensures.call c.size.ensures.images c.size.ensures.file (let room = c.in_ok-size.ensures.size told in omega (arith, room, c.if-size-gt9.false)) _ refl _ c.write.ensures.call c.write.ensures.images _ c.sync.ensures.call c.sync.ensures.images (c.in_ok-write.ensures.written told1) c.sync.ensures.file c.in_ok-sync.ensures.stable
