use Rattle.std.proofs.Common.{◌≡◌, drop}
use Rattle.arz_openapi.specs.Parts.{lesser_rule, items_rule}
use Rattle.arz_openapi.proofs.parts.rule_of_items.Given as goal

abbrev pub invariant-loop-item : goal.invariant-loop-item
invariant-loop-item l = lesser_rule l.least (items_rule l.root (drop l.item-index l.items)) ≡ items_rule l.root l.items
