use Rattle.std.proofs.Common.{◌∙◌, ◌∷◌, arith, ap, [], get_or, length, length-append}
use Rattle.arz_changes.specs.Groups.{groups_seen}
use Rattle.arz_changes.proofs.Grouped.{one_empty}
use Rattle.arz_changes.proofs.groups.empty_groups.Goals as goal

pub loop-preserved : goal.loop-preserved
loop-preserved c =
    let pushed = c.in_ok-push.ensures.items in
    let longer = ap length pushed ∙ length-append c.loop.groups.items (c.new.result ∷ []) in
    record {
      len = omega (arith, longer, c.loop.invariant.len);
      empty = λ k. ap (λ l. get_or (groups_seen l) k []) pushed ∙ one_empty c.loop.groups.items c.new.result k c.new.ensures.items ∙ c.loop.invariant.empty k;
    }
