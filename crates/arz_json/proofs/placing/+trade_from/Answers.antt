use Rattle.std.proofs.Common.{◌≡◌, [], set, length, sym, ap, ◌∙◌, subst, refl, arith, length-set}
use Rattle.std.proofs.lemmas.Str.Pattern.{split_parts}
use Rattle.arz_json.specs.declared.tree.Json.TheVariants.{Null}
use Rattle.arz_json.specs.Put.{children, set_child, traded_from, traded_child, Trades}
use Rattle.arz_json.proofs.Trades.{traded_token, traded_last, traded_none, trade_step, set_child-again, children-set_child}
use Rattle.arz_json.proofs.placing.+trade_from.Goals as goal

pub returns-in_default : goal.returns-in_default
returns-in_default t c =
    let none = rw c.in_default.is at (split_parts 47 c.args.rest.now c.split_once.result c.split_once.ensures.cases (omega arith)) in
    subst (λ o. Trades o c.trade_child.result.1 c.args.tree c.trade_child.result.0 c.args.item.now c.trade_child.new.item) (sym (traded_last c.args.item.now c.args.rest.now c.args.tree none)) c.trade_child.ensures

pub returns-in_default-child_index : goal.returns-in_default-child_index
returns-in_default-child_index t c =
    let cut = rw c.in-Some.is at (split_parts 47 c.args.rest.now c.split_once.result c.split_once.ensures.cases (omega arith)) in
    let new = c.args.item.now in (
      ap (λ l. traded_from new [] l c.args.tree) cut.0 ∙ traded_token new _ _ c.args.tree cut.1
          ∙ traded_none (traded_from new [] c.in-Some.more.now) c.in-Some.token.now c.args.tree c.in_default-child_index.ensures.none,
      refl,
      refl,
    )

pub swap_child-tree-requires-2 : goal.swap_child-tree-requires-2
swap_child-tree-requires-2 t c =
    let at = c.in-Some-child_index.at in
    let tree : children c.swap_child-tree.result.0 ≡ set (children c.args.tree) at Null = ap children c.swap_child-tree.ensures.after ∙ children-set_child c.args.tree at Null in
    omega (arith, ap length tree, length-set (children c.args.tree) at Null, c.in-Some-child_index.ensures.within)

pub returns : goal.returns
returns t c =
    let cut = rw c.in-Some.is at (split_parts 47 c.args.rest.now c.split_once.result c.split_once.ensures.cases (omega arith)) in
    let new = c.args.item.now in
    let at = c.in-Some-child_index.at in
    let child = c.trade_from-child.result.0 in
    let tree : c.swap_child-tree-2.result.0 ≡ set_child c.args.tree at child =
    c.swap_child-tree-2.ensures.after ∙ ap (λ j. set_child j at child) c.swap_child-tree.ensures.after ∙ set_child-again c.args.tree at Null child in
    let along : traded_from new [] c.args.rest.now c.args.tree ≡ traded_child (traded_from new [] c.in-Some.more.now) c.in-Some.token.now c.args.tree =
    ap (λ l. traded_from new [] l c.args.tree) cut.0 ∙ traded_token new _ _ c.args.tree cut.1 in
    let made = trade_step (traded_from new [] c.in-Some.more.now) c.in-Some.token.now c.args.tree at c.swap_child-tree.result.1 c.trade_from-child.result.1 child new c.trade_from-child.new.item
    c.in-Some-child_index.ensures.place c.swap_child-tree.ensures.child c.trade_from-child.ensures in
    subst (λ o. Trades o c.trade_from-child.result.1 c.args.tree c.swap_child-tree-2.result.0 new c.trade_from-child.new.item) (sym along)
    (subst (λ j. Trades (traded_child (traded_from new [] c.in-Some.more.now) c.in-Some.token.now c.args.tree) c.trade_from-child.result.1 c.args.tree j new c.trade_from-child.new.item) (sym tree) made)
