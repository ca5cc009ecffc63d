use Rattle.std.proofs.Common.{ℕ, ◌+◌, List, length, map, ap, ◌∙◌, arith}
use Rattle.std.proofs.lemmas.List.{length-map}
use denote.Ref.{Bor}
use Rattle.arz_json.specs.declared.Json.{Json}
use Rattle.arz_wire.specs.Spelling.{spelling, number, member_spellings}
use Rattle.arz_start.specs.Lengths.{member_bytes}
use Rattle.arz_start.specs.StartTree.{seen_entry, seen_member}
use Rattle.arz_start.proofs.Lengths.{measured, measures_same, one_member, mapped_bytes}
use Rattle.arz_start.proofs.length.entries_length.Goals as goal

abbrev left : List (Bor (List ℕ) × Bor Json) → ℕ
left entries = length (member_spellings (map seen_member (map seen_entry entries)))

pub loop-name-preserved : goal.loop-name-preserved
loop-name-preserved c =
    let m = seen_member (c.in-Some.name.now, c.in-Some.root.now) in
    let a = c.loop-name.invariant.0 in
    let value = measured c.tree_length.result (length (spelling m.value)) c.tree_length.ensures.some c.tree_length.ensures.none in
    let sized = c.member_length.ensures (length (spelling m.value)) value in
    let steps = c.in-Some.ensures.steps in (
      a + member_bytes m,
      c.sum-total.ensures a (member_bytes m) c.loop-name.invariant.1 sized,
      omega (arith, c.loop-name.invariant.2, ap left steps ∙ one_member m (map seen_member (map seen_entry c.next.new.self))),
    )

pub returns : goal.returns
returns c =
    let entries = c.args.found.entries in
    let a = c.loop-name.invariant.0 in
    let none = c.in-None.ensures.steps.0 in
    let many = ap (λ n. length (number n)) (length-map entries seen_entry) in
    measures_same c.loop-name.total a _ c.loop-name.invariant.1
    (mapped_bytes seen_member (map seen_entry entries) (map seen_entry c.loop-name.name-iterator) a (ap (map seen_entry) none) (omega (arith, c.loop-name.invariant.2, many)))
