use Rattle.std.proofs.Common.{◌≡◌, ℕ, ◌<◌, List, length, take, drop, get_or, false, ap, ◌∙◌, sym, arith}
use Rattle.arz_expr.specs.Grammar.{is_name_byte}
use Rattle.arz_expr.specs.Reading.{cut}
use Rattle.arz_expr.proofs.Runs.{cut-at, boundary}
use Rattle.arz_expr.proofs.names.cut.Goals as goal
use Rattle.arz_expr.proofs.names.cut.Goals.{then-loop-end-test+else-is_name_byte, else-loop-end-test}

pub split_at-requires : goal.split_at-requires
split_at-requires c =
    rw (← c.as_bytes-bytes.ensures.value) (boundary c.as_bytes-bytes.result.now c.loop-end.end c.as_bytes-bytes.ensures.utf8 c.loop-end.invariant.0 c.loop-end.invariant.2)

stops : (c : goal.After-split_at) → cut c.as_bytes-bytes.result.now ≡ (take c.loop-end.end c.as_bytes-bytes.result.now, drop c.loop-end.end c.as_bytes-bytes.result.now)
stops c =
    let bytes = c.as_bytes-bytes.result.now in
    let stop : c.loop-end.end < length bytes → is_name_byte (get_or bytes c.loop-end.end 0) ≡ false =
    elim c.loop-end-test.branch [ then-loop-end-test+else-is_name_byte w ↦ λ lt. grind (arith, w.is_name_byte.ensures) | else-loop-end-test w ↦ λ lt. absurd (omega (arith, w.loop-end-test.false)) ] in
    cut-at bytes c.loop-end.end c.loop-end.invariant.1 stop

pub returns-clause-front : goal.returns-clause-front
returns-clause-front c =
    c.split_at.ensures.front ∙ ap (take c.loop-end.end) (sym c.as_bytes-bytes.ensures.value)
    ∙ sym (ap (λ (p : List ℕ × List ℕ). p.0) (stops c)) ∙ ap (λ t. (cut t).0) c.as_bytes-bytes.ensures.value

pub returns-clause-rest : goal.returns-clause-rest
returns-clause-rest c =
    c.split_at.ensures.back ∙ ap (drop c.loop-end.end) (sym c.as_bytes-bytes.ensures.value)
    ∙ sym (ap (λ (p : List ℕ × List ℕ). p.1) (stops c)) ∙ ap (λ t. (cut t).1) c.as_bytes-bytes.ensures.value
