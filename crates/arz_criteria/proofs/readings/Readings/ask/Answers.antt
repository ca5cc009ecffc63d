use Rattle.std.proofs.Common.{Bool, Some, cond, ap, sym, ◌∙◌}
use Rattle.std.specs.Str.{bytes_eq}
use Rattle.arz_criteria.specs.Taken.{answer_in}
use Rattle.arz_criteria.proofs.Noted.{none_if_not_some, notes_again, notes_one}
use Rattle.arz_criteria.proofs.readings.Readings.ask.Goals as goal

pub returns-then-contains_key-clause-notes : goal.returns-then-contains_key-clause-notes
returns-then-contains_key-clause-notes g c =
    notes_again (g.P.Patterns.patterns c.args.rx.now).told c.args.self.now c.args.pattern.now (sym c.contains_key.ensures ∙ c.if-contains_key.true)

pub returns-clause-notes : goal.returns-clause-notes
returns-clause-notes g c =
    let p = c.args.pattern.now in
    let old = c.args.self.now in
    notes_one (g.P.Patterns.patterns c.args.rx.now).told old c.note.new.self p c.in_ok-answer.answer c.in_ok-answer.ensures.answer
    (λ q. c.in_ok-note.ensures q ∙ ap (λ (b : Bool). cond (bytes_eq p q) (Some b) (answer_in old q)) (none_if_not_some c.in_ok-answer.answer c.is_none.result c.is_none.ensures))
