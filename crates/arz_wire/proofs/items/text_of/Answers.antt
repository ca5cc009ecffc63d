use Rattle.std.proofs.Common.{take, Ok, Err, sym, ap, ap₂, subst, ◌∙◌, arith}
use Rattle.std.specs.Prelude.{IsUtf8}
use Rattle.arz_wire.specs.declared.fault.WireFault.TheVariants.{NotCanonical}
use Rattle.arz_wire.proofs.Bytes.{is_text, is_no_text, text_taken, text_refused}
use Rattle.arz_wire.proofs.items.text_of.Goals as goal

pub returns-in_ok-from_str-in-Ok : goal.returns-in_ok-from_str-in-Ok
returns-in_ok-from_str-in-Ok c =
    let rest = c.in_ok-len.rest.now in
    let len = c.in_ok-len.len in
    let front = c.split_at.ensures.front in
    let text = c.in_ok-from_str-in-Ok.ensures ∙ c.in-Ok.ensures.cases.0 ∙ front in
    text_taken c.args.total c.args.bytes.now len rest c.in_ok-len.ensures (omega arith) (is_text (take len rest) (subst IsUtf8 front c.in-Ok.ensures.cases.1))
    ∙ ap₂ (λ a b. Ok (a, b)) (sym text) (sym c.split_at.ensures.back)

pub returns-in-Err : goal.returns-in-Err
returns-in-Err c =
    let rest = c.in_ok-len.rest.now in
    let len = c.in_ok-len.len in
    text_refused c.args.total c.args.bytes.now len rest c.in_ok-len.ensures (omega arith) (is_no_text (take len rest) (λ u. c.in-Err.ensures.cases.0 (subst IsUtf8 (sym c.split_at.ensures.front) u)))
    ∙ ap (λ n. Err (NotCanonical n)) (sym c.place.ensures)
