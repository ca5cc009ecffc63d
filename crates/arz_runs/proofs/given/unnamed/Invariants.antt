use Rattle.std.proofs.Common.{◌≡◌}
use Rattle.std.specs.Prelude.{not, filter}
use Rattle.arz_openapi.specs.Names.{taken_in}
use Rattle.arz_runs.proofs.given.unnamed.Given as goal

abbrev pub invariant-loop-given : goal.invariant-loop-given
invariant-loop-given l = l.kept.items ≡ filter (λ g. not (taken_in l.names g.place g.name)) l.yielded
