-- Over any replies an execution comes to an end.
use Rattle.std.proofs.Common.{◌≡◌, ◌⊎◌, inl, inr, ◌+◌, ◌<◌, ◌≤◌, List, [], ◌∷◌, ◌++◌, length, Bool, true, Option, None, Some, refl, sym, ap, ◌∙◌, subst, arith, append_assoc}
use Rattle.std.specs.Prelude.{slice_get}
use Rattle.std.proofs.lemmas.List.{length-map}
use Rattle.std.proofs.lemmas.Option.{same_Some, slice_get_within}
use Rattle.arz_json.specs.declared.Json.{Json}
use Rattle.arz_world.specs.declared.Request.{Request}
use Rattle.arz_world.specs.declared.Reply.{Reply}
use Rattle.arz_flow.specs.declared.answers.Ask.TheVariants.{Send}
use Rattle.arz_flow.specs.declared.answers.Answer.TheVariants.{Reply as Replied}
use Rattle.arz_flow.specs.declared.answers.End.TheVariants.{Out}
use Rattle.arz_flow.specs.declared.bundle.Bundle.{Bundle}
use Rattle.arz_path.specs.Outcome.{Outcome, given, wide, untold, Covers}
use Rattle.arz_flow.specs.Documents.{steps_of}
use Rattle.arz_flow.specs.Executions.{IsTold}
use Rattle.arz_flow.specs.Valid.{IsValid, steps_limit}
use Rattle.arz_flow.specs.Verdicts.{Patterned}
use Rattle.arz_machine.specs.At.{Standing, At}
use Rattle.arz_machine.specs.Rests.{IsSending}
use Rattle.arz_machine.specs.States.{Rest, Sends, Ended, entered, next_fact, verdict_in, widened, goes_to}
use Rattle.arz_machine.proofs.MachineAt.{at_fits, is_over, is_waiting, lacks_reply, taken, taken_wide, starts}
use Rattle.arz_session.specs.Laws.{HasEndOver, EndsOver}
use Rattle.arz_session.specs.Mock.{answers}
use Rattle.arz_session.proofs.Mocking.{at_more, told_front, lacks_none}

-- what may be answered of a verdict: what is told, or anything
pub verdict_covered : (meant : Outcome Bool) → ((ok : Bool) × Covers meant (given ok)) ⊎ Covers meant wide
verdict_covered (given ok) = inl (ok, refl)
verdict_covered wide = inr refl
verdict_covered untold = inl (true, tt)

module _ (told : Patterned) (b : Bundle) (valid : IsValid b) where
  few : (m : Standing) (used : List Reply) → At told m b (answers used) → length used ≤ steps_limit
  few m used at = omega (arith, length-map used Replied, at.count, at.within, valid.few)

  -- where a machine stands after one more reply, by whether the attempt succeeded
  abbrev after : (m : Standing) → Json → Request → Reply → Bool → Standing
  after m step q y ok =
      let facts = m.facts ++ next_fact b m.facts step q y ∷ [] in
      record { bundle = m.bundle; facts = facts; step = m.step + 1; rest = goes_to b facts ok (slice_get (steps_of b b.workflow) (m.step + 1)) }

  -- and where a selection is too wide
  abbrev stopped : (m : Standing) → Json → Standing
  stopped m step = record { bundle = m.bundle; facts = m.facts; step = m.step + 1; rest = widened b m.facts step }

  -- a machine that took one more reply
  takes : (used : List Reply) (m : Standing) → At told m b (answers used) → (q : Request) (y : Reply) → m.rest ≡ Sends q → (n : Standing) × At told n b (answers used ++ Replied y ∷ [])
  takes used m at q y is = by_verdict (verdict_covered (verdict_in told b m.facts sending.step q y))
    where
      sending : IsSending told b m.facts m.step q (answers used)
      sending = is_waiting told m b (answers used) at q is

      inside : m.step < length (steps_of b b.workflow)
      inside = slice_get_within (steps_of b b.workflow) m.step sending.step sending.there

      same : (step : Json) → slice_get (steps_of b b.workflow) m.step ≡ Some step → sending.step ≡ step
      same step there = same_Some sending.step step (sym sending.there ∙ there)

      by_verdict : ((ok : Bool) × Covers (verdict_in told b m.facts sending.step q y) (given ok)) ⊎ Covers (verdict_in told b m.facts sending.step q y) wide → (n : Standing) × At told n b (answers used ++ Replied y ∷ [])
      by_verdict (inl (ok, says)) = (
        after m sending.step q y ok,
        taken told m b (answers used) at (after m sending.step q y ok) q y (Replied y) (next_fact b m.facts sending.step q y) ok is
            (λ step there. subst (λ s. Covers (verdict_in told b m.facts s q y) (given ok)) (same step there) says)
            (λ step there. ap (λ s. next_fact b m.facts s q y) (same step there))
            refl refl refl refl inside refl,
      )
      by_verdict (inr says) = (
        stopped m sending.step,
        taken_wide told m b (answers used) at (stopped m sending.step) q y (Replied y) is
            (λ step there. subst (λ s. Covers (verdict_in told b m.facts s q y) wide) (same step there) says)
            refl refl (λ step there. ap (widened b m.facts) (same step there)) inside refl,
      )

  ends : (left used : List Reply) (m : Standing) → At told m b (answers used) → (rest : Rest) → m.rest ≡ rest → IsTold told b (answers (used ++ left)) → HasEndOver told b (used ++ left)
  ends left used m at (Ended e) is t =
      let over = is_over told m b (answers used) at e is in
      let u = told_front told b used left (used ++ left) refl t in
      record { used = used; left = left; front = refl; fitting = over.fitting u; came = e; over = over.end u; all = λ q out. absurd (lacks_none e q over.settled out); few = few m used at }
  ends [] used m at (Sends q) is t =
      let u = told_front told b used [] (used ++ []) refl t in
      record { used = used; left = []; front = refl; fitting = at_fits told m b (answers used) at u; came = Out (Send q); over = lacks_reply told m b (answers used) at q is u; all = λ a out. refl; few = few m used at }
  ends (y ∷ left) used m at (Sends q) is t =
      let n = takes used m at q y is in
      let same = append_assoc used (y ∷ []) left in
      subst (HasEndOver told b) same (ends left (used ++ y ∷ []) n.0 (at_more told n.0 b used y n.1) n.0.rest refl (subst (λ l. IsTold told b (answers l)) (sym same) t))

  begins : (o : Option Json) → slice_get (steps_of b b.workflow) 0 ≡ o → (m : Standing) × At told m b []
  begins None e = absurd (none_first (steps_of b b.workflow) valid.some e)
    where
      none_first : (xs : List Json) → 0 < length xs → slice_get xs 0 ≡ None → ⊥
      none_first [] lt f = omega (arith, lt)
      none_first (x ∷ xs) lt f = absurd (cc)
  begins (Some step) e =
      let m : Standing = record { bundle = b; facts = []; step = 0; rest = entered b [] step } in
      (m, starts told m b valid refl refl refl (λ s there. ap (entered b []) (same_Some step s (sym e ∙ there))))

pub ends_over : (told : Patterned) → EndsOver told
ends_over told b replies valid t =
    let m = begins told b valid (slice_get (steps_of b b.workflow) 0) refl in
    ends told b valid replies [] m.0 m.1 m.0.rest refl t
