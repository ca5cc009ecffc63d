use Rattle.std.proofs.Common.{sym, ap, ◌∙◌}
use Rattle.std.specs.Prelude.{codes}
use Rattle.std.specs.Option.{option_copied}
use Rattle.arz_rules.proofs.InForm.{member_form}
use Rattle.arz_overlay.proofs.working.done_at.Goals as goal

pub merged_at_each-requires-clause-update : goal.merged_at_each-requires-clause-update
merged_at_each-requires-clause-update c =
    member_form (codes "update") c.args.action.now c.in-Some.update.now (sym c.get.ensures ∙ ap option_copied c.in-Some.is) c.requires.action
