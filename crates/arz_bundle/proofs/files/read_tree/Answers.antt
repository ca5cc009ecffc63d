use Rattle.std.proofs.Common.{Err, ap}
use Rattle.arz_json.specs.declared.reader.JsonFault.{JsonFault}
use Rattle.arz_bundle.proofs.Stages.{no-reading, no-text}
use Rattle.arz_bundle.proofs.files.read_tree.Goals as goal

pub returns-in-Err-NotJson-clause-tree : goal.returns-in-Err-NotJson-clause-tree
returns-in-Err-NotJson-clause-tree g c =
    no-text (g.F.Files.files c.args.files.now) (g.F.Files.files c.read.new.self) c.args.path.now c.args.label.now c.in-Ok.bytes.items c.refuse_file-in-Err-NotJson.result
    c.in-Ok.ensures.bytes (no-reading c.as_slice.result.now c.in-Ok.bytes.items c.as_slice.ensures.value (c.in-Err-NotJson.ensures.not_json (ap (λ (f : JsonFault). Err f) c.in-Err-NotJson.field-0-is)))
    c.refuse_file-in-Err-NotJson.ensures
