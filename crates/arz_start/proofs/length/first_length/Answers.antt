use Rattle.std.proofs.Common.{ℕ, List, length, sym, ap, codes}
use Rattle.arz_json.specs.declared.Json.TheVariants.{Text, Object}
use Rattle.arz_wire.specs.Spelling.{spelling}
use Rattle.arz_start.specs.StartTree.{named, delay_word}
use Rattle.arz_start.proofs.Lengths.{measured, measures_same, three_members}
use Rattle.arz_start.proofs.length.first_length.Goals as goal

pub returns : goal.returns
returns c =
    let b = c.args.bundle.now in
    let description = measured c.tree_length.result (length (spelling b.arazzo)) c.tree_length.ensures.some c.tree_length.ensures.none in
    let delay = measures_same c.text_length.result _ (length (spelling (Text (delay_word b.skip_delay)))) c.text_length.ensures (ap (λ (t : List ℕ). length (spelling (Text t))) c.delay_word.ensures) in
    measures_same c.sum-2.result _ _
    (c.sum-2.ensures _ _ (c.sum.ensures _ _ (c.member_length-description.ensures _ description) (c.member_length-delay.ensures _ delay)) (c.member_length-inputs.ensures _ c.members_length.ensures))
    (sym (three_members (named (codes "arazzo") b.arazzo) (named (codes "delay") (Text (delay_word b.skip_delay))) (named (codes "inputs") (Object b.inputs))))
