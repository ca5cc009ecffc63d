use Rattle.std.proofs.Common.{[], ◌∷◌, ◌++◌, codes, pos, ap, ap₂, ◌∙◌}
use Rattle.std.proofs.lemmas.List.{append_assoc}
use Rattle.arz_json.specs.declared.Json.TheVariants.{Int}
use Rattle.arz_start.specs.StartTree.{named}
use Rattle.arz_start.proofs.start_tree.add_limits.Goals as goal

pub returns : goal.returns
returns c =
    c.in_ok-add-2.ensures
    ∙ ap₂ (λ before value. before ++ named (codes "maxAttempts") value ∷ []) (c.in_ok-add.ensures ∙ ap (λ value. c.args.members.now.items ++ named (codes "journalLimit") value ∷ []) c.number.ensures) (c.number-2.ensures ∙ ap (λ n. Int (pos n)) c.from.ensures)
    ∙ append_assoc c.args.members.now.items _ _
