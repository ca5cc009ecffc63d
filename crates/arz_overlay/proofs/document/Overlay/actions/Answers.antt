use Rattle.std.proofs.Common.{◌∙◌, ap, map}
use Rattle.std.specs.Prelude.{codes}
use Rattle.arz_json.specs.Tree.{has_form, all_true}
use Rattle.arz_overlay.proofs.FirstTargets.{items_form_at}
use Rattle.arz_overlay.proofs.document.Overlay.actions.Goals as goal

pub returns-clause-form : goal.returns-clause-form
returns-clause-form c = ap (λ js. all_true (map has_form js)) c.items_at.ensures ∙ items_form_at (codes "actions") c.self.inside.tree c.self.invariant.form
