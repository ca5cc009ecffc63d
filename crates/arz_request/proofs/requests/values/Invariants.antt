use Rattle.std.proofs.Common.{◌≡◌, map, All}
use Rattle.arz_json.specs.Shallow.{IsShallow}
use Rattle.arz_request.proofs.requests.values.Given as goal

abbrev pub invariant-loop-parameter : goal.invariant-loop-parameter
invariant-loop-parameter l = (l.values.items ≡ map (λ w. w.sent) l.yielded) × All (λ s. IsShallow s.value) l.values.items
