use Rattle.std.proofs.Common.{[], ◌∷◌, ◌++◌, sym, ap, ◌∙◌, arith}
use Rattle.arz_json.specs.declared.place.Token.TheVariants.{Index}
use Rattle.arz_changes.specs.Removal.{below}
use Rattle.arz_changes.specs.Groups.{tokens_of}
use Rattle.arz_changes.proofs.Grouped.{below_ways}
use Rattle.arz_changes.proofs.groups.item_groups.Goals as goal

pub loop-way-preserved : goal.loop-way-preserved
loop-way-preserved c =
    let inv = c.loop-way.invariant in
    record {
      len = c.in_ok-add_item.ensures.len ∙ inv.len;
      groups = λ k less. c.in_ok-add_item.ensures.added k (omega (arith, inv.len)) ∙ ap (λ g. g ++ below (Index k) (tokens_of c.way-item.result ∷ [])) (inv.groups k less)
          ∙ sym (below_ways (Index k) c.args.ways.now c.loop-way.way-index c.way-item.result (omega arith) c.way-item.is);
    }
