use Rattle.std.proofs.Common.{◌≡◌, ◌≤◌, ◌<◌, ◌+◌, length, sym, ap, ◌∙◌, subst, arith, length-append, ◌∷◌, []}
use Rattle.std.specs.Option.{option_copied}
use Rattle.arz_scope.specs.Shallow.{AreShallow}
use Rattle.arz_relation.specs.Cases.{deepest}
use Rattle.arz_runs.specs.Fronts.{bundle_at, done_at, runs_open, Attempts, weight}
use Rattle.arz_runs.specs.Turns.{Lands, IsShallowGoal}
use Rattle.arz_runs.proofs.Entering.{weight_most, shallow_opened, more_shallow, ends_deep, opens_next}
use Rattle.arz_runs.proofs.Resuming.{ok_more}
use Rattle.arz_runs.proofs.front.Front.+go.Goals as goal

pub go-requires-in-Open-2 : goal.go-requires-in-Open-2
go-requires-in-Open-2 t c =
    let f = c.args.self.now in
    let pushed : length c.push.new.self ≡ length c.args.made + 1 = ap length c.in_ok-push-in-Open-2.ensures.ok ∙ length-append c.args.made (c.opened-frame.result ∷ []) in
    let room : length f.frames.now + length c.args.made < deepest = omega (arith, c.if-self-len-eq-DEEPEST.false, c.len.ensures, c.requires.few) in
    let one : weight c.args.goal ≡ 1 = ap weight c.in-Open.is in
    let most : weight c.in_ok-goal-in-Open-2.goal ≤ 2 = weight_most c.in_ok-goal-in-Open-2.goal in
    let inputs : AreShallow c.in-Open.opening.inputs = subst IsShallowGoal c.in-Open.is c.requires.shallow in
    let shallow = more_shallow c.args.made c.push.new.self c.opened-frame.result c.in_ok-push-in-Open-2.ensures.ok c.requires.made (shallow_opened c.opened-frame.result c.in-Open.opening c.opened-frame.ensures inputs) in
    let next = c.in_ok-goal-in-Open-2.ensures in
    (omega (arith, pushed, room, one, most), (shallow, (omega (arith, pushed, room), (next.over, (next.shallow, (next.plain, next.rests f.sends (bundle_at f).max_attempts))))))

pub returns-in_ok-goal-in-Attempt-clause-lands : goal.returns-in_ok-goal-in-Attempt-clause-lands
returns-in_ok-goal-in-Attempt-clause-lands t c =
    let f = c.args.self.now in
    let tries = subst (λ m. Attempts f m c.in-Attempt.index c.in-Attempt.next c.in_ok-goal-in-Attempt.goal) c.as_slice.ensures c.in_ok-goal-in-Attempt.ensures.lands in
    ok_more _ _ c.go.result
    (λ p h told r lands. h told r (tries told r (subst (λ x. Lands told (bundle_at f) (runs_open f c.args.made) (done_at f) f.sends r x) c.in-Attempt.is lands)))
    c.go.ensures.lands

pub returns-in-Open-clause-lands : goal.returns-in-Open-clause-lands
returns-in-Open-clause-lands t c = λ told r lands.
    let f = c.args.self.now in
    ends_deep told (bundle_at f) c.args.made f.frames.now (option_copied f.fact) (done_at f) f.sends r c.in-Open.opening c.args.goal c.in-Open.is (omega (arith, c.if-self-len-eq-DEEPEST.true, c.len.ensures)) lands

pub returns-in_ok-push-in-Open-2-clause-lands : goal.returns-in_ok-push-in-Open-2-clause-lands
returns-in_ok-push-in-Open-2-clause-lands t c =
    let f = c.args.self.now in
    ok_more _ _ c.go-in-Open-2.result
    (λ p h told r lands. h told r
    (opens_next told (bundle_at f) c.args.made f.frames.now (option_copied f.fact) (done_at f) f.sends r c.in-Open.opening c.args.goal c.in-Open.is c.push.new.self c.opened-frame.result c.in_ok-goal-in-Open-2.goal
    c.in_ok-push-in-Open-2.ensures.ok c.opened-frame.ensures (omega (arith, c.if-self-len-eq-DEEPEST.false, c.len.ensures, c.requires.few)) c.in_ok-goal-in-Open-2.ensures.lands lands))
    c.go-in-Open-2.ensures.lands
