use Rattle.std.proofs.Common.{sym, ap, ◌∙◌, ◌∷◌, [], refl}
use Rattle.arz_json.specs.Tree.{has_form}
use Rattle.arz_json.specs.declared.tree.Json.TheVariants.{List as ListOf}
use Rattle.arz_changes.proofs.Forms.{merged_form, list_form, items_form-append, both}
use Rattle.arz_changes.proofs.changing.updated.Goals as goal

pub returns-in-List-clause-form : goal.returns-in-List-clause-form
returns-in-List-clause-form c =
    ap (λ js. has_form (ListOf js)) c.in_ok-with_item-in-List.ensures.gives ∙ list_form _
    ∙ items_form-append c.in-List.items (c.args.update.now ∷ []) (sym (list_form c.in-List.items) ∙ sym (ap has_form c.in-List.is) ∙ c.requires.tree) (both _ _ c.requires.update refl)

pub returns-in-Object-clause-form : goal.returns-in-Object-clause-form
returns-in-Object-clause-form c =
    ap has_form c.in_ok-merged-in-Object.ensures.gives ∙ merged_form c.args.update.now _ c.requires.update (sym (ap has_form c.in-Object.is) ∙ c.requires.tree)
