use Rattle.std.proofs.Common.{◌≡◌, suc, map, ap, ◌∙◌, arith}
use Rattle.arz_json.specs.Tree.{depth, largest}
use Rattle.arz_json.proofs.Places.{depth_object}
use Rattle.arz_json.proofs.placing.+deeper.Goals as goal

pub is_deeper-returns-else-limit-eq0-2 : goal.is_deeper-returns-else-limit-eq0-2
is_deeper-returns-else-limit-eq0-2 t c =
    let deep : depth c.args.value.now ≡ suc (largest (map (λ m. depth m.value) c.in-Object.members)) = ap depth c.in-Object.is ∙ depth_object c.in-Object.members in (
      λ yes. omega (arith, deep, c.members_deeper.ensures.0 yes),
      λ h. c.members_deeper.ensures.1 (omega (arith, deep, h)),
    )
