use Rattle.arz_json.proofs.Printing.{text_of_tree}
use Rattle.arz_json.proofs.writer.compact_string.Goals as goal

pub returns-in-Ok-clause-text : goal.returns-in-Ok-clause-text
returns-in-Ok-clause-text c =
    let sent = c.in-Ok.ensures.events in
    text_of_tree c.args.value.now sent.0 _ sent.1 sent.2
