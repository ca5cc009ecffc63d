use Rattle.std.proofs.Common.{ℕ, Some, length, pos, sym, ap, codes}
use Rattle.arz_json.specs.declared.Json.TheVariants.{Int}
use Rattle.arz_wire.specs.Spelling.{spelling}
use Rattle.arz_start.specs.StartTree.{named}
use Rattle.arz_start.proofs.Lengths.{measures_same, two_members}
use Rattle.arz_start.proofs.length.limits_length.Goals as goal

pub returns : goal.returns
returns c =
    let b = c.args.bundle.now in
    let attempts = measures_same (Some c.integer_length-attempts.result) _ (length (spelling (Int (pos b.max_attempts)))) c.integer_length-attempts.ensures (ap (λ (n : ℕ). length (spelling (Int (pos n)))) c.from.ensures) in
    measures_same c.sum.result _ _ (c.sum.ensures _ _ (c.member_length-journal.ensures _ c.integer_length.ensures) (c.member_length.ensures _ attempts))
    (sym (two_members (named (codes "journalLimit") (Int (pos b.journal_limit))) (named (codes "maxAttempts") (Int (pos b.max_attempts)))))
