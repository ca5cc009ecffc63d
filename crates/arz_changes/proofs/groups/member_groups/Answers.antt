use Rattle.std.proofs.Common.{[], ◌∷◌, ◌++◌, get_or, sym, ap, ◌∙◌, arith}
use Rattle.arz_json.specs.declared.place.Token.TheVariants.{Name}
use Rattle.arz_changes.specs.Removal.{below}
use Rattle.arz_changes.specs.Groups.{tokens_of}
use Rattle.arz_changes.proofs.Grouped.{below_ways}
use Rattle.arz_changes.proofs.groups.member_groups.Goals as goal

pub loop-way-preserved : goal.loop-way-preserved
loop-way-preserved c =
    let inv = c.loop-way.invariant in
    record {
      len = c.in_ok-add_member.ensures.len ∙ inv.len;
      groups = λ k d less. c.in_ok-add_member.ensures.added k d less ∙ ap (λ g. g ++ below (Name (get_or c.args.members.now k d).name) (tokens_of c.way-item.result ∷ [])) (inv.groups k d less)
          ∙ sym (below_ways (Name (get_or c.args.members.now k d).name) c.args.ways.now c.loop-way.way-index c.way-item.result (omega arith) c.way-item.is);
    }
