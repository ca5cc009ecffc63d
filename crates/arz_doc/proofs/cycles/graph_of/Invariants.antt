use Rattle.std.proofs.Common.{◌≡◌, map, take}
use Rattle.arz_doc.specs.Cycles.{number_in, named_by}
use Rattle.arz_doc.proofs.cycles.graph_of.Given as goal

abbrev pub invariant-loop-workflow : goal.invariant-loop-workflow
invariant-loop-workflow l = map (λ v. v.items) l.graph.items ≡ map (named_by (number_in l.numbers)) (take l.workflow-index l.workflows)
