use Rattle.std.proofs.Common.{arith}
use Rattle.std.specs.Option.{option_copied}
use Rattle.arz_cond.proofs.Contract.{is_context, no_context}
use Rattle.arz_cond.proofs.parsing.context_of.Goals as goal

pub returns-in-Some-read : goal.returns-in-Some-read
returns-in-Some-read c = is_context (option_copied c.args.context) c.in-Some.text.now c.in-Some-read.expr (grind arith) (grind arith)

pub returns-in-None : goal.returns-in-None
returns-in-None c = no_context (option_copied c.args.context) c.in-Some.text.now (grind arith) (grind arith)
