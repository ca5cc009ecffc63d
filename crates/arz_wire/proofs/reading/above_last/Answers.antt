use Rattle.std.proofs.Common.{◌≡◌, nat_cmp, Some, sym, ap, ap₂, ◌∙◌}
use Rattle.std.specs.Cmp.Lexicographic.{slice_cmp}
use Rattle.std.specs.Ordering.{is_lt}
use Rattle.arz_wire.specs.Reading.{is_above}
use Rattle.arz_wire.specs.Names.{last_name}
use Rattle.arz_wire.proofs.Names.{last_name-get, is_lt-index}
use Rattle.arz_wire.proofs.reading.above_last.Goals as goal

pub returns-in-Some : goal.returns-in-Some
returns-in-Some c =
    let before = c.in-Some.before.now in
    let last : last_name c.args.members.now ≡ Some before.name = last_name-get c.args.members.now before (sym c.in-Some.ensures.value) in
    c.eq.ensures ∙ is_lt-index c.cmp.result ∙ ap is_lt (c.cmp.ensures ∙ ap₂ (slice_cmp nat_cmp) c.as_str.ensures c.as_str-in-Some.ensures)
    ∙ sym (ap (λ o. is_above o c.args.name.now) last)
