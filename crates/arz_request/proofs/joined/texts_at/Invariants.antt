use Rattle.std.proofs.Common.{◌≡◌, map, take}
use Rattle.arz_request.specs.Parameters.{texts_at}
use Rattle.arz_request.proofs.joined.texts_at.Given as goal

abbrev pub invariant-loop-parameter : goal.invariant-loop-parameter
invariant-loop-parameter l = map (λ t. t.now) l.texts.items ≡ texts_at l.place (take l.parameter-index l.written)
