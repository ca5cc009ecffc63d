use Rattle.std.proofs.Common.{string_bytes, arith, ◌∙◌}
use Rattle.std.proofs.lemmas.Str.Pattern.{split_parts}
use Rattle.arz_openapi.proofs.Decoding.{goes-on, ends, all-read}
use Rattle.arz_openapi.proofs.tokens.decode.Goals as goal

pub returns-in_default-escaped : goal.returns-in_default-escaped
returns-in_default-escaped c =
    let cut = rw c.in-Some.is at (split_parts 126 c.tildes.rest.now c.split_once.result c.split_once.ensures.cases (omega arith)) in
    ends _ (string_bytes c.tildes.out) c.tildes.rest.now c.in-Some.plain.now c.in-Some.behind.now c.tildes.invariant.0 cut.0 cut.1 c.in_default-escaped.ensures.value

pub tildes-preserved : goal.tildes-preserved
tildes-preserved c =
    let cut = rw c.in-Some.is at (split_parts 126 c.tildes.rest.now c.split_once.result c.split_once.ensures.cases (omega arith)) in
    let next = c.in-Some-escaped in (
      goes-on _ (string_bytes c.tildes.out) _ (string_bytes c.push_str-in-Some.new.self) c.tildes.rest.now c.in-Some.plain.now c.in-Some.behind.now next.letter.now next.more.now
          c.tildes.invariant.0 cut.0 cut.1 next.ensures.value c.in_ok-push_str.ensures.bytes c.in_ok-push_str-2.ensures.bytes,
      next.ensures.smaller.1,
    )

pub returns : goal.returns
returns c =
    let lacks = rw c.in_default.is at (split_parts 126 c.tildes.rest.now c.split_once.result c.split_once.ensures.cases (omega arith)) in
    all-read _ (string_bytes c.tildes.out) c.from_std.result c.tildes.rest.now c.tildes.invariant.0 lacks (c.from_std.ensures ∙ c.in_ok-push_str-3.ensures.bytes)
