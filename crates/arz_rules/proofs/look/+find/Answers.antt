use Rattle.std.proofs.Common.{◌≡◌, ◌∷◌, length, ap, ◌∙◌, sym, arith, rules}
use Rattle.std.specs.Ordering.{nat_cmp}
use Rattle.std.specs.Cmp.Lexicographic.{slice_cmp}
use Rattle.arz_rules.specs.Look.{AreOrdered}
use Rattle.arz_rules.proofs.Halves.{halved, before-AreOrdered, after-AreOrdered, in_before, in_middle, in_after}
use Rattle.arz_rules.proofs.look.+find.Goals as goal

pub find-requires : goal.find-requires
find-requires t c =
    let ms = c.args.members.now in
    let rest : c.split_at.result.1.now ≡ c.in_ok-middle.middle.now ∷ c.in_ok-middle.after.now = search rules in
    let o : AreOrdered ms = search rules in
    let is = halved ms c.split_at.result.0.now c.split_at.result.1.now c.in_ok-middle.middle.now c.in_ok-middle.after.now _ c.split_at.ensures.front c.split_at.ensures.back rest in
    (omega (arith, c.split_at.ensures.front_len, c.split_at.ensures.back_len, ap length rest), before-AreOrdered ms c.split_at.result.0.now c.in_ok-middle.middle.now c.in_ok-middle.after.now c.args.name.now is o)

pub find-requires-in-Greater : goal.find-requires-in-Greater
find-requires-in-Greater t c =
    let ms = c.args.members.now in
    let rest : c.split_at.result.1.now ≡ c.in_ok-middle.middle.now ∷ c.in_ok-middle.after.now = search rules in
    let o : AreOrdered ms = search rules in
    let is = halved ms c.split_at.result.0.now c.split_at.result.1.now c.in_ok-middle.middle.now c.in_ok-middle.after.now _ c.split_at.ensures.front c.split_at.ensures.back rest in
    (omega (arith, c.split_at.ensures.front_len, c.split_at.ensures.back_len, ap length rest), after-AreOrdered ms c.split_at.result.0.now c.in_ok-middle.middle.now c.in_ok-middle.after.now c.args.name.now is o)

pub returns-in-Less : goal.returns-in-Less
returns-in-Less t c =
    let ms = c.args.members.now in
    let rest : c.split_at.result.1.now ≡ c.in_ok-middle.middle.now ∷ c.in_ok-middle.after.now = search rules in
    let o : AreOrdered ms = search rules in
    let is = halved ms c.split_at.result.0.now c.split_at.result.1.now c.in_ok-middle.middle.now c.in_ok-middle.after.now _ c.split_at.ensures.front c.split_at.ensures.back rest in
    c.find.ensures ∙ in_before ms c.split_at.result.0.now c.in_ok-middle.middle.now c.in_ok-middle.after.now c.args.name.now is o
    (ap (λ x. slice_cmp nat_cmp c.args.name.now x) (sym c.as_str.ensures) ∙ sym c.cmp.ensures ∙ c.in-Less.is)

pub returns-in-Equal : goal.returns-in-Equal
returns-in-Equal t c =
    let ms = c.args.members.now in
    let rest : c.split_at.result.1.now ≡ c.in_ok-middle.middle.now ∷ c.in_ok-middle.after.now = search rules in
    let o : AreOrdered ms = search rules in
    let is = halved ms c.split_at.result.0.now c.split_at.result.1.now c.in_ok-middle.middle.now c.in_ok-middle.after.now _ c.split_at.ensures.front c.split_at.ensures.back rest in
    in_middle ms c.split_at.result.0.now c.in_ok-middle.middle.now c.in_ok-middle.after.now c.args.name.now is o
    (ap (λ x. slice_cmp nat_cmp c.args.name.now x) (sym c.as_str.ensures) ∙ sym c.cmp.ensures ∙ c.in-Equal.is)

pub returns-in-Greater : goal.returns-in-Greater
returns-in-Greater t c =
    let ms = c.args.members.now in
    let rest : c.split_at.result.1.now ≡ c.in_ok-middle.middle.now ∷ c.in_ok-middle.after.now = search rules in
    let o : AreOrdered ms = search rules in
    let is = halved ms c.split_at.result.0.now c.split_at.result.1.now c.in_ok-middle.middle.now c.in_ok-middle.after.now _ c.split_at.ensures.front c.split_at.ensures.back rest in
    c.find-in-Greater.ensures ∙ in_after ms c.split_at.result.0.now c.in_ok-middle.middle.now c.in_ok-middle.after.now c.args.name.now is o
    (ap (λ x. slice_cmp nat_cmp c.args.name.now x) (sym c.as_str.ensures) ∙ sym c.cmp.ensures ∙ c.in-Greater.is)
