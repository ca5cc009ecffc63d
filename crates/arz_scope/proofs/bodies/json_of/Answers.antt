use Rattle.std.proofs.Common.{rules}
use Rattle.arz_scope.proofs.TextLemmas.{json_of-read, json_of-not}
use Rattle.arz_scope.proofs.bodies.json_of.Goals as goal

pub returns-in-Ok : goal.returns-in-Ok
returns-in-Ok c = json_of-read c.args.bytes.now c.in-Ok.value c.in-Ok.ensures.ok.1

pub returns-in-Err-NotJson : goal.returns-in-Err-NotJson
returns-in-Err-NotJson c = json_of-not c.args.bytes.now (c.read.ensures.not_json (search rules)).1
