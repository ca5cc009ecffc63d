use Rattle.std.proofs.Common.{◌≡◌, List, map, set, Some, sym, ap, ◌∙◌, arith}
use Rattle.std.specs.Prelude.{slice_get}
use Rattle.std.proofs.lemmas.Option.{slice_get-get_or}
use Rattle.arz_json.specs.Put.{set_value}
use Rattle.arz_json.specs.declared.tree.Member.{Member}
use Rattle.arz_json.proofs.Places.{set_value-set, slice_get-values}
use Rattle.arz_json.proofs.placing.swap_value.Goals as goal

pub returns-clause-after : goal.returns-clause-after
returns-clause-after c =
    let items = c.into_std-items.result.items in
    let m : Member = c.index_mut.result.now in
    let here : slice_get items c.args.at ≡ Some m = slice_get-get_or items c.args.at m (grind arith) ∙ ap (λ x. Some x) (sym c.index_mut.ensures.value) in
    c.from_std.ensures ∙ ap (λ v. set items c.args.at (let n : Member = record { name = m.name; value = v } in n)) c.swap.ensures.x_after
    ∙ set_value-set items c.args.at m c.args.value.now here ∙ ap (λ ms. set_value ms c.args.at c.args.value.now) c.into_std-items.ensures

pub returns-clause-value : goal.returns-clause-value
returns-clause-value c =
    let items = c.into_std-items.result.items in
    let m : Member = c.index_mut.result.now in
    let here : slice_get items c.args.at ≡ Some m = slice_get-get_or items c.args.at m (grind arith) ∙ ap (λ x. Some x) (sym c.index_mut.ensures.value) in
    ap (λ (ms : List Member). slice_get (map (λ m. m.value) ms) c.args.at) (sym c.into_std-items.ensures) ∙ slice_get-values items c.args.at m here
    ∙ ap (λ v. Some v) (sym c.swap.ensures.y_after)
