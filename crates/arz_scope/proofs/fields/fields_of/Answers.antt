use Rattle.std.proofs.Common.{◌∙◌}
use Rattle.arz_scope.proofs.FieldLemmas.{fields-of-groups}
use Rattle.arz_scope.proofs.fields.fields_of.Goals as goal

pub returns : goal.returns
returns c =
    fields-of-groups c.args.reply.now c.as_slice.result.now c.in_ok-groups.groups c.from_std.result c.as_slice.ensures c.in_ok-groups.ensures (c.from_std.ensures ∙ c.in_ok-fields.ensures)
