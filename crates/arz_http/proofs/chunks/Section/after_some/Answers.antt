use Rattle.std.proofs.Common.{arith}
use Rattle.arz_http.proofs.ChunkRuns.{data_taken}
use Rattle.arz_http.proofs.chunks.Section.after_some.Goals as goal

pub returns-in-Data-clause-section : goal.returns-in-Data-clause-section
returns-in-Data-clause-section c = (data_taken c.args.self c.in-Data.left c.min-n.result c.args.bytes.now c.in-Data.is (omega arith) (omega arith)).0

pub returns-in-Data-clause-body : goal.returns-in-Data-clause-body
returns-in-Data-clause-body c = (data_taken c.args.self c.in-Data.left c.min-n.result c.args.bytes.now c.in-Data.is (omega arith) (omega arith)).1
