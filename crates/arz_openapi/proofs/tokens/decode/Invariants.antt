use Rattle.std.proofs.Common.{◌≡◌, ◌++◌, length, IsUtf8, option_map, string_bytes}
use Rattle.arz_json.specs.Pointer.{decoded}
use Rattle.arz_openapi.proofs.tokens.decode.Given as goal

abbrev pub invariant-tildes : goal.invariant-tildes
invariant-tildes l = (option_map (λ name. string_bytes l.out ++ name) (decoded l.rest) ≡ decoded l.token) × IsUtf8 l.rest

abbrev pub decreases-tildes : goal.decreases-tildes
decreases-tildes l = length l.rest
