use Rattle.std.proofs.Common.{◌≡◌, ◌++◌, List, ℕ, Option, length, get_or, take, codes, option_and_then, sym, ap, ◌∙◌, arith}
use Rattle.std.specs.List.{filter_map}
use Rattle.std.specs.Option.{option_to_list}
use Rattle.arz_json.specs.declared.tree.Json.{Json}
use Rattle.arz_json.specs.Look.{text_in, items_at}
use Rattle.arz_doc.specs.Cycles.{number_in}
use Rattle.arz_doc.proofs.Numbered.{filter_more}
use Rattle.arz_doc.proofs.cycles.dependencies.Goals as goal

pub loop-item-preserved : goal.loop-item-preserved
loop-item-preserved c =
    let items = items_at (codes "dependsOn") c.args.workflow.now in
    let h : Json → Option ℕ = λ j. option_and_then (number_in c.args.numbers.now) (text_in j) in
    let i = c.loop-item.item-index in
    let same = c.items_at-item-items.ensures in
    c.in_ok-put_found.ensures ∙ ap (λ l. l ++ option_to_list c.number_named.result) c.loop-item.invariant
    ∙ ap (λ o. filter_map h (take i items) ++ option_to_list o) c.number_named.ensures
    ∙ sym (filter_more h items i c.item-item.result (omega (arith, ap length same, c.loop-item-test.true)) (c.item-item.is ∙ ap (λ l. get_or l i c.item-item.result) same))
