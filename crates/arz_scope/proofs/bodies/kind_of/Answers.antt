use Rattle.std.proofs.Common.{sym, ◌∙◌, ap, Some, None}
use Rattle.arz_scope.specs.Bodies.{kind_of_type, media_type}
use Rattle.arz_scope.proofs.LineLemmas.{kind-plain, kind-coded}
use Rattle.arz_scope.proofs.bodies.kind_of.Goals as goal

pub returns-then-not-is_plain : goal.returns-then-not-is_plain
returns-then-not-is_plain c =
    kind-coded c.args.reply.now c.as_slice-headers.result.now c.as_slice-headers.ensures (sym c.is_plain.ensures ∙ c.if-not-is_plain.true)

pub returns-in-None : goal.returns-in-None
returns-in-None c =
    kind-plain c.args.reply.now c.as_slice-headers.result.now None c.as_slice-headers.ensures (sym c.is_plain.ensures ∙ c.if-not-is_plain.false) c.in-None.ensures

pub returns-in_ok-kind-in-Some : goal.returns-in_ok-kind-in-Some
returns-in_ok-kind-in-Some c =
    c.kind_of_type.ensures ∙ ap kind_of_type (c.as_slice-in-Some.ensures.value ∙ c.in_ok-kind-in-Some.ensures ∙ ap media_type c.as_slice.ensures)
    ∙ kind-plain c.args.reply.now c.as_slice-headers.result.now (Some c.in-Some.header.now) c.as_slice-headers.ensures (sym c.is_plain.ensures ∙ c.if-not-is_plain.false) c.in-Some.ensures
