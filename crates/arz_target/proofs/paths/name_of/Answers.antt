use Rattle.std.proofs.Common.{◌≡◌, ◌<◌, length, ap, sym, ◌∙◌, arith}
use Rattle.std.specs.List.{prefix_len}
use Rattle.std.proofs.lemmas.Bool.Decides.{nat_tests}
use Rattle.std.proofs.lemmas.Str.Pattern.{strip_prefix_char}
use Rattle.arz_target.specs.Templates.{is_inside}
use Rattle.arz_target.proofs.Braces.{boundary, empty, unended, ended}
use Rattle.arz_target.proofs.paths.name_of.Goals as goal

pub split_at-requires : goal.split_at-requires
split_at-requires c = rw (c.inside_len.ensures, c.as_bytes.ensures.value) (boundary c.args.tail.now)

pub returns-then-is_empty-clause-name : goal.returns-then-is_empty-clause-name
returns-then-is_empty-clause-name c =
    let at = c.inside_len.ensures ∙ ap (prefix_len is_inside) c.as_bytes.ensures.value in
    let none : length c.split_at.result.0.now ≡ 0 = grind (arith, nat_tests, sym c.is_empty.ensures ∙ c.if-is_empty.true) in
    empty c.args.tail.now c.split_at.result.0.now c.inside_len.result at c.split_at.ensures.front none

pub returns-in-Some-clause-name : goal.returns-in-Some-clause-name
returns-in-Some-clause-name c =
    let at = c.inside_len.ensures ∙ ap (prefix_len is_inside) c.as_bytes.ensures.value in
    let some : 0 < length c.split_at.result.0.now = grind (arith, nat_tests, sym c.is_empty.ensures ∙ c.if-is_empty.false) in
    let behind = c.split_at.result.1.now in
    let is = rw c.in-Some.is at (strip_prefix_char 125 behind c.strip_prefix.result c.strip_prefix.ensures.cases (omega arith)) in
    ended c.args.tail.now c.split_at.result.0.now behind c.in-Some.rest.now c.inside_len.result at c.split_at.ensures.front c.split_at.ensures.back some is

pub returns-in-None-clause-name : goal.returns-in-None-clause-name
returns-in-None-clause-name c =
    let at = c.inside_len.ensures ∙ ap (prefix_len is_inside) c.as_bytes.ensures.value in
    let behind = c.split_at.result.1.now in
    let is = rw c.in-None.is at (strip_prefix_char 125 behind c.strip_prefix.result c.strip_prefix.ensures.cases (omega arith)) in
    unended c.args.tail.now behind c.inside_len.result at c.split_at.ensures.back is
