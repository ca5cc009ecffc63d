use Rattle.std.proofs.Common.{◌∙◌}
use Rattle.arz_json.proofs.Printing.{text_of_tree}
use Rattle.arz_json.proofs.writer.compact.Goals as goal

pub returns-in-Ok-clause-text : goal.returns-in-Ok-clause-text
returns-in-Ok-clause-text c =
    let sent = c.in-Ok.ensures.events in
    c.from_std.ensures ∙ text_of_tree c.args.value.now sent.0 _ sent.1 sent.2
