-- What the expressions of a run speak of.
use Rattle.std.specs.Prelude.{List, [], Option, None}
use Rattle.arz_world.specs.declared.Reply.{Reply}
use Rattle.arz_world.specs.declared.Request.{Request}
use Rattle.arz_flow.specs.declared.bundle.Bundle.{Bundle}
use Rattle.arz_scope.specs.declared.facts.Fact.{Fact}
use Rattle.arz_scope.specs.Speaking.{Speaking}

-- the description, the inputs and the facts so far of the starting workflow's run, and an attempt's exchange (Arazzo 1.0.1, 4.7)
unfoldable pub spoken : Bundle → List Fact → Option (Request × Reply) → Speaking
spoken b facts exchange = record { description = b.arazzo; inputs = b.inputs; facts = facts; done = []; exchange = exchange; inner = None }
