use Rattle.std.proofs.Common.{◌≡◌, false, sym, ap, ◌∙◌}
use Rattle.arz_json.specs.Tree.{has_opaque}
use Rattle.arz_json.specs.declared.Json.TheVariants.{Object}
use Rattle.arz_runs.proofs.Resuming.{plain_members}
use Rattle.arz_runs.proofs.settling.end_of.Goals as goal

pub returns-then-completed-clause-plain : goal.returns-then-completed-clause-plain
returns-then-completed-clause-plain c =
    let none : has_opaque (Object c.args.ending.outputs) ≡ false = ap (λ ms. has_opaque (Object ms)) (sym c.as_slice.ensures) ∙ sym c.any_opaque.ensures ∙ c.if-any_opaque.false in
    plain_members c.args.ending.outputs c.requires.form c.requires.shallow none

pub returns-clause-plain : goal.returns-clause-plain
returns-clause-plain c =
    let none : has_opaque (Object c.args.ending.outputs) ≡ false = ap (λ ms. has_opaque (Object ms)) (sym c.as_slice.ensures) ∙ sym c.any_opaque.ensures ∙ c.if-any_opaque.false in
    plain_members c.args.ending.outputs c.requires.form c.requires.shallow none
