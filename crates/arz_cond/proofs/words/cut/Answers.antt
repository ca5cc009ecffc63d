use Rattle.std.proofs.Common.{◌≡◌, ℕ, ◌<◌, ◌-◌, List, length, take, drop, get_or, false, ap, ◌∙◌, sym, arith}
use Rattle.std.proofs.lemmas.Grind.{common_steps}
use Rattle.arz_cond.specs.Grammar.{run}
use Rattle.arz_cond.specs.Reading.{is_of}
use Rattle.arz_cond.proofs.Runs.{run-at}
use Rattle.arz_cond.proofs.words.cut.Goals as goal
use Rattle.arz_cond.proofs.words.cut.Goals.{After-result-1, then-loop-end-test+else-is_in, else-loop-end-test}

stops : (c : goal.After-result-1) → run (is_of c.args.class) c.args.text.now ≡ (take c.loop-end.end c.args.text.now, drop c.loop-end.end c.args.text.now)
stops c =
    let stop : c.loop-end.end < length c.args.text.now → is_of c.args.class (get_or c.args.text.now c.loop-end.end 0) ≡ false =
    elim c.loop-end-test.branch [ then-loop-end-test+else-is_in w ↦ λ lt. grind (arith, w.is_in.ensures) | else-loop-end-test w ↦ λ lt. absurd (omega (arith, w.loop-end-test.false)) ] in
    run-at (is_of c.args.class) c.args.text.now c.loop-end.end c.loop-end.invariant.1 stop

pub returns-clause-front : goal.returns-clause-front
returns-clause-front c = sym (ap (λ (p : List ℕ × List ℕ). p.0) (stops c))

pub returns-clause-rest : goal.returns-clause-rest
returns-clause-rest c =
    let whole : take (length c.args.text.now - c.loop-end.end) (drop c.loop-end.end c.args.text.now) ≡ drop c.loop-end.end c.args.text.now = grind (arith, common_steps) in
    whole ∙ sym (ap (λ (p : List ℕ × List ℕ). p.1) (stops c))
