use Rattle.std.proofs.Common.{ℕ, ◌+◌, List, length, drop, ap, arith}
use Rattle.std.proofs.lemmas.List.{drop_all}
use Rattle.arz_wire.specs.Spelling.{spelling, counted}
use Rattle.arz_start.specs.Lengths.{member_bytes}
use Rattle.arz_start.proofs.Lengths.{measured, measures_same, member_bytes_at, object_bytes}
use Rattle.arz_start.proofs.length.members_length.Goals as goal

pub loop-member-preserved : goal.loop-member-preserved
loop-member-preserved c =
    let m = c.member-item.result in
    let i = c.loop-member.member-index in
    let a = c.loop-member.invariant.0 in
    let value = measured c.tree_length-value.result (length (spelling m.value)) c.tree_length-value.ensures.some c.tree_length-value.ensures.none in
    let sized = measures_same c.member_length.result _ (member_bytes m) (c.member_length.ensures (length (spelling m.value)) value) (ap (λ (n : List ℕ). length (counted n) + length (spelling m.value)) c.as_str.ensures) in (
      a + member_bytes m,
      c.sum-total.ensures a (member_bytes m) c.loop-member.invariant.1 sized,
      omega (arith, c.loop-member.invariant.2, member_bytes_at c.as_slice-member-items.result.now i m c.loop-member-test.true c.member-item.is),
    )

pub returns : goal.returns
returns c =
    let i = c.loop-member.member-index in
    let items = c.as_slice-member-items.result.now in
    measures_same c.loop-member.total c.loop-member.invariant.0 _ c.loop-member.invariant.1
    (object_bytes c.args.members.now (drop i items) c.loop-member.invariant.0 (drop_all i items c.loop-member-test.false) c.loop-member.invariant.2)
