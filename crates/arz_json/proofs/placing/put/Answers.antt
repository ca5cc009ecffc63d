use Rattle.std.proofs.Common.{◌<◌, Err, sym, ap, subst, arith}
use Rattle.std.specs.Prelude.{IsSomeAnd, option_map}
use Rattle.arz_json.specs.declared.placing.PutFault.TheVariants.{NoPlace, TooNested}
use Rattle.arz_json.specs.Tree.{depth, IsWellFormed}
use Rattle.arz_json.specs.Put.{put_depth}
use Rattle.arz_json.proofs.Trades.{none_named, some_named, trades_back}
use Rattle.arz_json.proofs.Puts.{has_form-traded}
use Rattle.arz_json.proofs.placing.put.Goals as goal

pub returns-then-not-trade-clause-no_place : goal.returns-then-not-trade-clause-no_place
returns-then-not-trade-clause-no_place c = (
  λ _. none_named c.args.new c.args.pointer.now c.args.root.now c.if-not-trade.ensures.0,
  λ _. ap (λ j. Err (NoPlace j)) c.if-not-trade.ensures.2,
)

pub returns-then-not-is_deeper-clause-no_place : goal.returns-then-not-is_deeper-clause-no_place
returns-then-not-is_deeper-clause-no_place c = (
  λ e. absurd (cc),
  λ n. absurd (some_named c.args.new c.args.pointer.now c.args.root.now _ _ c.if-not-trade.ensures n),
)

pub returns-then-not-is_deeper-clause-well_formed : goal.returns-then-not-is_deeper-clause-well_formed
returns-then-not-is_deeper-clause-well_formed c = record {
  form = has_form-traded c.args.new c.args.pointer.now c.args.root.now _ _ c.requires.value.form c.requires.tree.form c.if-not-trade.ensures;
  nests = grind arith;
}

pub returns-clause-no_place : goal.returns-clause-no_place
returns-clause-no_place c = (
  λ e. absurd (cc),
  λ n. absurd (some_named c.args.new c.args.pointer.now c.args.root.now _ _ c.if-not-trade.ensures n),
)

pub returns-clause-too_nested : goal.returns-clause-too_nested
returns-clause-too_nested c =
    let back = trades_back c.args.new c.args.pointer.now c.args.root.now _ _ c.if-not-trade.ensures c.trade-2.result _ _ c.trade-2.ensures in
    let deep : 127 < depth c.trade.new.root = grind arith in (
      λ _. subst (λ o. IsSomeAnd (option_map (λ r. r.0) o) (λ j. put_depth < depth j)) (sym c.if-not-trade.ensures) deep,
      λ _. ap (λ j. Err (TooNested j)) back.1,
    )

pub returns-clause-err : goal.returns-clause-err
returns-clause-err c = (trades_back c.args.new c.args.pointer.now c.args.root.now _ _ c.if-not-trade.ensures c.trade-2.result _ _ c.trade-2.ensures).0

pub returns-clause-well_formed : goal.returns-clause-well_formed
returns-clause-well_formed c =
    subst IsWellFormed (sym (trades_back c.args.new c.args.pointer.now c.args.root.now _ _ c.if-not-trade.ensures c.trade-2.result _ _ c.trade-2.ensures).0) c.requires.tree
