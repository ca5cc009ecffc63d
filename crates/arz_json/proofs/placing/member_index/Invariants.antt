use Rattle.std.proofs.Common.{◌≡◌, ◌+◌, drop, option_and_then, option_map}
use Rattle.arz_json.specs.Pointer.{decoded}
use Rattle.arz_json.specs.Put.{place_of}
use Rattle.arz_json.proofs.placing.member_index.Given as goal

abbrev pub invariant-loop-i : goal.invariant-loop-i
invariant-loop-i l = option_and_then (place_of l.member-items) (decoded l.token) ≡ option_map (λ k. k + l.i) (option_and_then (place_of (drop l.i l.member-items)) (decoded l.token))
