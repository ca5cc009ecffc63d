use Rattle.std.proofs.Common.{ℕ, List, ◌∷◌, [], get_or, subst}
use denote.Ref.{Bor}
use Rattle.arz_path.proofs.Faults.{asked_then}
use Rattle.arz_cond.specs.Outcomes.{Patterned}
use Rattle.arz_criteria.specs.Taken.{Notes}
use Rattle.arz_criteria.proofs.Noted.{notes_more}
use Rattle.arz_criteria.proofs.readings.Readings.ask_each.Goals as goal

pub loop-pattern-preserved : goal.loop-pattern-preserved
loop-pattern-preserved g c =
    let patterns = g.P.Patterns.patterns in
    let none : Bor (List ℕ) = record { ref_ptr = (0, 0); now = [] } in
    let asked = c.loop-pattern.invariant.asked in
    record {
      notes = notes_more (patterns c.args.rx.now).told c.args.patterns.now c.loop-pattern.pattern-index none c.args.self.now c.loop-pattern.self c.ask.new.self c.loop-pattern-test.true c.loop-pattern.invariant.notes
          (subst (λ (told : Patterned). Notes told ((get_or c.args.patterns.now c.loop-pattern.pattern-index none).now ∷ []) c.loop-pattern.self c.ask.new.self) asked.told c.in_ok-ask.ensures.notes);
      asked = asked_then _ _ _ asked c.in_ok-ask.ensures.asked;
    }
