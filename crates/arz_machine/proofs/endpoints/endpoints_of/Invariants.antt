use Rattle.std.proofs.Common.{◌≡◌, map}
use Rattle.std.specs.Prelude.{option_map}
use Rattle.arz_sources.specs.Seen.{seen_target}
use Rattle.arz_machine.specs.Reached.{endpoint_if}
use Rattle.arz_machine.proofs.endpoints.endpoints_of.Given as goal

abbrev pub invariant-loop-target : goal.invariant-loop-target
invariant-loop-target l = l.endpoints.items ≡ map (λ t. endpoint_if (option_map seen_target t)) l.yielded
