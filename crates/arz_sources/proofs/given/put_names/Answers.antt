use Rattle.std.proofs.Common.{◌||◌, Bool, ap, ◌∙◌}
use Rattle.arz_json.specs.declared.tree.Json.{Json}
use Rattle.arz_rules.specs.Sets.{has}
use Rattle.arz_components.specs.Indexes.{finds}
use Rattle.arz_description.specs.Requests.{given_of}
use Rattle.arz_sources.specs.Rules.{fills}
use Rattle.arz_sources.proofs.Names.{one_name}
use Rattle.arz_sources.proofs.given.put_names.Goals as goal

pub loop-item-preserved : goal.loop-item-preserved
loop-item-preserved c = λ q.
    one_name (λ (item : Json). fills q (given_of (finds c.args.components.now) item)) c.args.items.now c.loop-item.item-index c.item-item.result
    (has c.loop-item.set q) (has c.put_name.new.set q) _ c.loop-item-test.true c.item-item.is (c.loop-item.invariant q)
    (c.in_ok-put_name.ensures q ∙ ap (λ (b : Bool). b || has c.loop-item.set q) (c.path_name.ensures q))
