use Rattle.std.proofs.Common.{◌≡◌, map, take, option_map}
use Rattle.arz_description.specs.Calls.{call_of}
use Rattle.arz_openapi.specs.Targets.{target_if}
use Rattle.arz_sources.specs.Seen.{seen_target}
use Rattle.arz_sources.specs.Served.{found_in}
use Rattle.arz_sources.proofs.found.find_targets.Given as goal

abbrev pub invariant-loop-step : goal.invariant-loop-step
invariant-loop-step l =
    map (option_map seen_target) l.found.items ≡ map (λ step. target_if (found_in l.sources (call_of step))) (take l.step-index l.steps)
