use Rattle.std.proofs.Common.{arith}
use Rattle.std.proofs.lemmas.Str.Pattern.{strip_prefix_char}
use Rattle.arz_openapi.proofs.Texts.{local_is}
use Rattle.arz_openapi.proofs.behind.local_text.Goals as goal

pub returns : goal.returns
returns c = local_is c.args.text.now _ (strip_prefix_char 35 c.args.text.now c.strip_prefix.result c.strip_prefix.ensures.cases (omega arith))
