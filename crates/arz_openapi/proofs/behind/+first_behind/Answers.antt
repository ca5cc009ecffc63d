use Rattle.std.proofs.Common.{◌-◌, arith, sym, ap, ◌∙◌, option_map}
use Rattle.arz_rules.specs.Place.{least}
use Rattle.arz_openapi.specs.Rules.{item_misses, below, behind}
use Rattle.arz_openapi.specs.Spots.{seen_spot}
use Rattle.arz_openapi.proofs.Placed.{chain, joined}
use Rattle.arz_openapi.proofs.behind.+first_behind.Goals as goal

pub returns : goal.returns
returns t c =
    let s = seen_spot c.in-Some.next in
    let root = c.args.root.now in
    joined (below s.0 (item_misses s.1)) (behind (c.args.left - 1) root s.1) _ _ _ c.lesser.ensures c.in_ok-own.ensures c.in_ok-further.ensures
    ∙ sym (ap least (chain c.args.left root c.args.item.now s (grind arith) (sym c.in_ok-next.ensures ∙ ap (option_map seen_spot) c.in-Some.is)))
