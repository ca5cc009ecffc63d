use Rattle.std.proofs.Common.{◌≡◌, ◌∷◌, map, take, codes}
use Rattle.arz_json.specs.Texts.{joined}
use Rattle.arz_scope.proofs.fields.joined.Given as goal

abbrev pub invariant-loop-value : goal.invariant-loop-value
invariant-loop-value l = l.bytes.items ≡ joined (codes ", ") (l.first ∷ map (λ v. v.now) (take l.value-index l.rest))
