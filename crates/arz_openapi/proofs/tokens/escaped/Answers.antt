use Rattle.std.proofs.Common.{arith, sym}
use Rattle.std.proofs.lemmas.Str.Pattern.{strip_prefix_char}
use Rattle.arz_openapi.proofs.Decoding.{slash, tilde, decoded-none}
use Rattle.arz_openapi.proofs.tokens.escaped.Goals as goal

pub returns-in-Some-clause-value : goal.returns-in-Some-clause-value
returns-in-Some-clause-value c =
    slash c.args.text.now c.in-Some.rest.now (rw c.in-Some.is at (strip_prefix_char 49 c.args.text.now c.strip_prefix.result c.strip_prefix.ensures.cases (omega arith)))

pub returns-in-Some-strip_prefix-clause-value : goal.returns-in-Some-strip_prefix-clause-value
returns-in-Some-strip_prefix-clause-value c =
    tilde c.args.text.now c.in-Some-strip_prefix.rest.now (rw c.in-Some-strip_prefix.is at (strip_prefix_char 48 c.args.text.now c.strip_prefix-2.result c.strip_prefix-2.ensures.cases (omega arith)))

pub returns-in-None-clause-value : goal.returns-in-None-clause-value
returns-in-None-clause-value c =
    sym (decoded-none c.args.text.now
    (rw c.in_default.is at (strip_prefix_char 49 c.args.text.now c.strip_prefix.result c.strip_prefix.ensures.cases (omega arith)))
    (rw c.in-None.is at (strip_prefix_char 48 c.args.text.now c.strip_prefix-2.result c.strip_prefix-2.ensures.cases (omega arith))))
