use Rattle.std.proofs.Common.{sym}
use Rattle.arz_json.specs.Tree.{IsWithin}
use Rattle.arz_json.proofs.Parts.{IsWellFormed-named, IsWithin-named}
use Rattle.arz_expr.proofs.Found.{steps-well_formed, steps-within, found-well_formed, found-nests}
use Rattle.arz_expr.proofs.values.value.Goals as goal

pub returns-in-Some-clause-well_formed : goal.returns-in-Some-clause-well_formed
returns-in-Some-clause-well_formed g c =
    let target = steps-well_formed c.args.expr.now.tail c.in_ok-base.base.now c.in_ok-target.target.now (sym c.in_ok-target.ensures) c.in_ok-base.ensures.well_formed in
    found-well_formed c.at.result _ c.at.ensures.value (λ k e. IsWellFormed-named c.as_str.result.now c.in_ok-target.target.now k e target)

pub returns-in-None-clause-well_formed : goal.returns-in-None-clause-well_formed
returns-in-None-clause-well_formed g c =
    steps-well_formed c.args.expr.now.tail c.in_ok-base.base.now c.in_ok-target.target.now (sym c.in_ok-target.ensures) c.in_ok-base.ensures.well_formed

pub returns-in-Some-clause-nests : goal.returns-in-Some-clause-nests
returns-in-Some-clause-nests g c =
    let base : IsWithin 127 c.in_ok-base.base.now = record { form = c.in_ok-base.ensures.well_formed.form; nests = c.in_ok-base.ensures.nests } in
    let target = steps-within 127 c.args.expr.now.tail c.in_ok-base.base.now c.in_ok-target.target.now (sym c.in_ok-target.ensures) base in
    found-nests 127 c.at.result _ c.at.ensures.value (λ k e. IsWithin-named 127 c.as_str.result.now c.in_ok-target.target.now k e target)

pub returns-in-None-clause-nests : goal.returns-in-None-clause-nests
returns-in-None-clause-nests g c =
    let base : IsWithin 127 c.in_ok-base.base.now = record { form = c.in_ok-base.ensures.well_formed.form; nests = c.in_ok-base.ensures.nests } in
    (steps-within 127 c.args.expr.now.tail c.in_ok-base.base.now c.in_ok-target.target.now (sym c.in_ok-target.ensures) base).nests
