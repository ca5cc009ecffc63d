use Rattle.std.proofs.Common.{arith}
use Rattle.std.proofs.lemmas.Str.Pattern.{strip_suffix_char}
use Rattle.arz_target.proofs.Slashes.{dropped, kept}
use Rattle.arz_target.proofs.urls.without_slash.Goals as goal

pub returns-in-Some : goal.returns-in-Some
returns-in-Some c = dropped c.args.path.now c.in-Some.front.now (rw c.in-Some.is at (strip_suffix_char 47 c.args.path.now c.strip_suffix.result c.strip_suffix.ensures.cases (omega arith)))

pub returns-in-None : goal.returns-in-None
returns-in-None c = kept c.args.path.now (rw c.in-None.is at (strip_suffix_char 47 c.args.path.now c.strip_suffix.result c.strip_suffix.ensures.cases (omega arith)))
