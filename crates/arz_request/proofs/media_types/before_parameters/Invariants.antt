use Rattle.std.proofs.Common.{◌≡◌, ◌==◌, ℕ, ◌<◌, get_or, false}
use Rattle.arz_request.proofs.media_types.before_parameters.Given as goal

-- no byte so far begins the parameters
abbrev pub invariant-loop-i : goal.invariant-loop-i
invariant-loop-i l = (k : ℕ) → k < l.i → (get_or l.kind k 0 == 59) ≡ false
