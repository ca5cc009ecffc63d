use Rattle.std.proofs.Common.{◌≡◌, take, codes, option_and_then}
use Rattle.std.specs.List.{filter_map}
use Rattle.arz_json.specs.Look.{text_in, items_at}
use Rattle.arz_doc.specs.Cycles.{number_in}
use Rattle.arz_doc.proofs.cycles.dependencies.Given as goal

abbrev pub invariant-loop-item : goal.invariant-loop-item
invariant-loop-item l = l.found.items ≡ filter_map (λ j. option_and_then (number_in l.numbers) (text_in j)) (take l.item-index (items_at (codes "dependsOn") l.workflow))
