-- What a step calls, as the code holds it.
use Rattle.std.specs.Prelude.{option_map}
use Rattle.arz_openapi.specs.Targets as spec
use Rattle.arz_sources.specs.declared.calls.Target.{Target}

abbrev pub seen_target : Target → spec.Target
seen_target t = record { operation = t.operation; given = option_map (λ t. t.now) t.server }
