use Rattle.std.proofs.Common.{◌≤◌, max, sym, ap, ◌∙◌, subst, arith}
use Rattle.arz_json.specs.Tree.{has_form, depth}
use Rattle.arz_overlay.proofs.Depths.{without-depth}
use Rattle.arz_overlay.proofs.Kept.{without_form}
use Rattle.arz_overlay.proofs.working.removed.Goals as goal

pub returns-clause-keeps : goal.returns-clause-keeps
returns-clause-keeps c =
    let old = c.args.work.tree in
    let gives = c.in_ok-tree.ensures.gives in
    let balance = c.in_ok-tree.ensures.tallies.balance in
    record {
      form = ap has_form gives ∙ without_form old _ c.requires.keeps.form;
      weighs = omega (arith, balance, c.in_ok-weight.ensures, c.requires.keeps.weighs);
      nests = λ shallow. subst (λ j. depth j ≤ 127) (sym gives) (without-depth old _ 127 (c.requires.keeps.nests shallow));
    }

pub returns-clause-nests : goal.returns-clause-nests
returns-clause-nests c =
    let old = c.args.work.tree in
    let most = max 127 (depth old) in
    subst (λ j. depth j ≤ most) (sym c.in_ok-tree.ensures.gives) (without-depth old _ most (omega arith))
