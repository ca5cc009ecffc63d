use Rattle.arz_world.proofs.Moments.{if_told, later_trans, told_after}
use Rattle.arz_journal.proofs.Puts.{moments1, moments2, moments3, moments4, is_put}
use Rattle.arz_journal.proofs.block.put_block.Goals as goal

pub returns-in_err-write-clause-any_moment : goal.returns-in_err-write-clause-any_moment
returns-in_err-write-clause-any_moment g c = λ entry can. if_told _ _ _ (c.write.ensures.call.time.later) (g.met.W.World.lawful _) (λ told.
    moments1 c.args.place c.args.bytes.now entry _ (can told) _ c.write.ensures.call c.write.ensures.images)

pub returns-in_err-sync-clause-any_moment : goal.returns-in_err-sync-clause-any_moment
returns-in_err-sync-clause-any_moment g c = λ entry can. if_told _ _ _ (later_trans _ _ _ c.write.ensures.call.time.later c.sync.ensures.call.time.later) (g.met.W.World.lawful _) (λ told.
    moments2 c.args.place c.args.bytes.now entry _ (can told) _ c.write.ensures.call c.write.ensures.images
    _ c.sync.ensures.call c.sync.ensures.images)

pub returns-in_err-write-2-clause-any_moment : goal.returns-in_err-write-2-clause-any_moment
returns-in_err-write-2-clause-any_moment g c = λ entry can. if_told _ _ _ (later_trans _ _ _ (later_trans _ _ _ c.write.ensures.call.time.later c.sync.ensures.call.time.later) c.write-2.ensures.call.time.later) (g.met.W.World.lawful _) (λ told.
    moments3 c.args.place c.args.bytes.now entry _ (can told) _ c.write.ensures.call c.write.ensures.images
    _ c.sync.ensures.call c.sync.ensures.images (c.in_ok-write.ensures.written told) c.sync.ensures.file
    c.in_ok-sync.ensures.stable _ c.write-2.ensures.call c.write-2.ensures.images)

pub returns-in_err-sync-2-clause-any_moment : goal.returns-in_err-sync-2-clause-any_moment
returns-in_err-sync-2-clause-any_moment g c = λ entry can. if_told _ _ _ (later_trans _ _ _ (later_trans _ _ _ (later_trans _ _ _ c.write.ensures.call.time.later c.sync.ensures.call.time.later) c.write-2.ensures.call.time.later) c.sync-2.ensures.call.time.later) (g.met.W.World.lawful _) (λ told.
    moments4 c.args.place c.args.bytes.now entry _ (can told) _ c.write.ensures.call c.write.ensures.images
    _ c.sync.ensures.call c.sync.ensures.images (c.in_ok-write.ensures.written told) c.sync.ensures.file
    c.in_ok-sync.ensures.stable _ c.write-2.ensures.call c.write-2.ensures.images
    _ c.sync-2.ensures.call c.sync-2.ensures.images)

pub returns-clause-any_moment : goal.returns-clause-any_moment
returns-clause-any_moment g c = λ entry can. if_told _ _ _ (later_trans _ _ _ (later_trans _ _ _ (later_trans _ _ _ c.write.ensures.call.time.later c.sync.ensures.call.time.later) c.write-2.ensures.call.time.later) c.sync-2.ensures.call.time.later) (g.met.W.World.lawful _) (λ told.
    moments4 c.args.place c.args.bytes.now entry _ (can told) _ c.write.ensures.call c.write.ensures.images
    _ c.sync.ensures.call c.sync.ensures.images (c.in_ok-write.ensures.written told) c.sync.ensures.file
    c.in_ok-sync.ensures.stable _ c.write-2.ensures.call c.write-2.ensures.images
    _ c.sync-2.ensures.call c.sync-2.ensures.images)

pub returns-clause-put : goal.returns-clause-put
returns-clause-put g c = λ entry can told.
    let told2 = told_after c.write.ensures.call c.sync.ensures.call told in
    is_put c.args.place c.args.bytes.now entry _ (can told) _ c.write.ensures.call c.write.ensures.images
    _ c.sync.ensures.call c.sync.ensures.images (c.in_ok-write.ensures.written told) c.sync.ensures.file
    c.in_ok-sync.ensures.stable _ c.write-2.ensures.call c.write-2.ensures.images
    _ c.sync-2.ensures.call c.sync-2.ensures.images (c.in_ok-write-2.ensures.written told2) c.sync-2.ensures.file c.in_ok-sync-2.ensures.stable
