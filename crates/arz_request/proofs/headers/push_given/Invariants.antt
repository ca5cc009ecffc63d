use Rattle.std.proofs.Common.{◌≡◌, ◌++◌, take}
use Rattle.arz_request.specs.Requests.{given_headers}
use Rattle.arz_request.proofs.headers.push_given.Given as goal

abbrev pub invariant-loop-parameter : goal.invariant-loop-parameter
invariant-loop-parameter l = l.lines.items ≡ l.initial.lines.items ++ given_headers (take l.parameter-index l.written)
