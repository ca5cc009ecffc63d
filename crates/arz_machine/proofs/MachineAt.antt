-- What an execution comes to where the machine stands in it.
use Rattle.std.proofs.Common.{◌≡◌, ℕ, zero, suc, ◌+◌, ◌<◌, List, [], ◌∷◌, ◌++◌, length, length-append, Bool, true, false, nat_lt, Option, None, Some, refl, ap, sym, ◌∙◌, subst, arith}
use Rattle.std.specs.Prelude.{slice_get}
use Rattle.std.proofs.lemmas.Bool.{ltb-true}
use Rattle.arz_json.specs.declared.Json.{Json}
use Rattle.arz_world.specs.declared.Request.{Request}
use Rattle.arz_world.specs.declared.Reply.{Reply}
use Rattle.arz_flow.specs.declared.answers.Ask.TheVariants.{Send}
use Rattle.arz_flow.specs.declared.answers.Answer.{Answer}
use Rattle.arz_flow.specs.declared.answers.Answer.TheVariants.{Reply as Replied, Served}
use Rattle.arz_flow.specs.declared.answers.End.{End}
use Rattle.arz_flow.specs.declared.answers.End.TheVariants.{Out}
use Rattle.arz_flow.specs.declared.bundle.Bundle.{Bundle}
use Rattle.arz_scope.specs.declared.facts.Fact.{Fact}
use Rattle.arz_path.specs.Outcome.{given, wide, Covers}
use Rattle.arz_flow.specs.Documents.{steps_of}
use Rattle.arz_flow.specs.Executions.{end, Fitting, IsTold}
use Rattle.arz_flow.specs.Valid.{IsValid}
use Rattle.arz_flow.specs.Verdicts.{Patterned}
use Rattle.arz_machine.specs.States.{Rest, Sends, Ended, is_sending, has_step, entered, next_fact, verdict_in, widened, goes_to}
use Rattle.arz_machine.specs.Rests.{IsSending, IsOver, Rests, takes}
use Rattle.arz_machine.specs.At.{Standing, At}
use Rattle.arz_machine.proofs.Turning.{begins, goes_next, goes_wide, sending_out, rests_fitting, over_takes, sending_takes, no_served}

-- a step whose request is to be sent is there
pub step_inside : (rest : Rest) (q : Request) (k count : ℕ) → rest ≡ Sends q → has_step rest k count ≡ true → k < count
step_inside rest q k count e inside =
    let here : nat_lt k count ≡ true = ap (λ x. has_step x k count) (sym e) ∙ inside in
    ltb-true k count here

module _ (told : Patterned) (m : Standing) (b : Bundle) (r : List Answer) (at : At told m b r) where
  rests_as : (s : Rest) → m.rest ≡ s → Rests told b m.facts m.step s r
  rests_as s e = subst (λ x. Rests told b m.facts m.step x r) e at.rests

  pub is_waiting : (q : Request) → m.rest ≡ Sends q → IsSending told b m.facts m.step q r
  is_waiting q e = rests_as (Sends q) e

  pub is_over : (e : End) → m.rest ≡ Ended e → IsOver told b e r
  is_over e is = rests_as (Ended e) is

  -- a machine that rests at a send lacks its reply
  pub lacks_reply : (q : Request) → m.rest ≡ Sends q → IsTold told b r → end told b r ≡ Some (Out (Send q))
  lacks_reply q e t = (sending_out told b m.facts m.step q r (is_waiting q e) t).1

  -- all answers that the machine was told were taken
  pub at_fits : IsTold told b r → Fitting told b r
  at_fits t = rests_fitting told b m.facts m.step m.rest r at.rests t

  pub ended_takes : (e : End) (a : Answer) → m.rest ≡ Ended e → IsTold told b r → takes (end told b r) a ≡ false
  ended_takes e a is t = over_takes told b e r a (is_over e is) t

  pub takes_reply : (q : Request) (y : Reply) → m.rest ≡ Sends q → IsTold told b r → takes (end told b r) (Replied y) ≡ true
  takes_reply q y e t = sending_takes told b m.facts m.step q r y (is_waiting q e) t

  pub takes_no_served : IsTold told b r → takes (end told b r) Served ≡ false
  takes_no_served t = no_served told b m.facts m.step m.rest r at.rests t

  -- a reply is taken exactly where one is waited for
  takes_kind : (y : Reply) (s : Rest) → m.rest ≡ s → IsTold told b r → takes (end told b r) (Replied y) ≡ is_sending s
  takes_kind y (Sends q) e t = takes_reply q y e t
  takes_kind y (Ended x) e t = ended_takes x (Replied y) e t

  pub takes_as : (y : Reply) (a : Answer) → a ≡ Replied y → IsTold told b r → takes (end told b r) a ≡ is_sending m.rest
  takes_as y a is t = ap (takes (end told b r)) is ∙ takes_kind y m.rest refl t

  -- an answer that is no reply isn't taken
  pub takes_other : (a : Answer) → ((y : Reply) → a ≡ Replied y → ⊥) → IsTold told b r → takes (end told b r) a ≡ false
  takes_other (Replied y) n t = absurd (n y refl)
  takes_other Served n t = takes_no_served t

  -- a reply was taken: the fact is added, and the machine rests where the execution goes on
  pub taken : (n : Standing) (q : Request) (y : Reply) (a : Answer) (fact : Fact) (ok : Bool) → m.rest ≡ Sends q
      → ((step : Json) → slice_get (steps_of b b.workflow) m.step ≡ Some step → Covers (verdict_in told b m.facts step q y) (given ok))
      → ((step : Json) → slice_get (steps_of b b.workflow) m.step ≡ Some step → fact ≡ next_fact b m.facts step q y)
      → n.bundle ≡ m.bundle → n.facts ≡ m.facts ++ fact ∷ [] → n.step ≡ m.step + 1
      → n.rest ≡ goes_to b (m.facts ++ fact ∷ []) ok (slice_get (steps_of b b.workflow) (m.step + 1))
      → m.step < length (steps_of b b.workflow) → a ≡ Replied y → At told n b (r ++ a ∷ [])
  taken n q y a fact ok e says left same more next rest inside is =
      let sending = is_waiting q e in
      let steps = steps_of b b.workflow in
      let made = left sending.step sending.there in
      let there = goes_next told b m.facts m.step q y r ok sending (says sending.step sending.there) in
      let by_fact = subst (λ f. Rests told b (m.facts ++ f ∷ []) (m.step + 1) (goes_to b (m.facts ++ f ∷ []) ok (slice_get steps (m.step + 1))) (r ++ Replied y ∷ [])) (sym made) there in
      let by_facts = subst (λ fs. Rests told b fs (m.step + 1) (goes_to b (m.facts ++ fact ∷ []) ok (slice_get steps (m.step + 1))) (r ++ Replied y ∷ [])) (sym more) by_fact in
      let by_step = subst (λ k. Rests told b n.facts k (goes_to b (m.facts ++ fact ∷ []) ok (slice_get steps (m.step + 1))) (r ++ Replied y ∷ [])) (sym next) by_facts in
      let by_rest = subst (λ s. Rests told b n.facts n.step s (r ++ Replied y ∷ [])) (sym rest) by_step in
      record {
        bundle = same ∙ at.bundle;
        count = omega (arith, length-append r (a ∷ []), at.count, next);
        within = omega (arith, inside, next);
        rests = subst (λ x. Rests told b n.facts n.step n.rest (r ++ x ∷ [])) (sym is) by_rest;
      }

  -- a reply was taken, and a selection of a criterion is too wide
  pub taken_wide : (n : Standing) (q : Request) (y : Reply) (a : Answer) → m.rest ≡ Sends q
      → ((step : Json) → slice_get (steps_of b b.workflow) m.step ≡ Some step → Covers (verdict_in told b m.facts step q y) wide)
      → n.bundle ≡ m.bundle → n.step ≡ m.step + 1
      → ((step : Json) → slice_get (steps_of b b.workflow) m.step ≡ Some step → n.rest ≡ widened b m.facts step)
      → m.step < length (steps_of b b.workflow) → a ≡ Replied y → At told n b (r ++ a ∷ [])
  taken_wide n q y a e says same next rest inside is =
      let sending = is_waiting q e in
      let there : Rests told b n.facts n.step (widened b m.facts sending.step) (r ++ Replied y ∷ [])
      = goes_wide told b m.facts m.step q y r sending (says sending.step sending.there) in
      let by_rest = subst (λ s. Rests told b n.facts n.step s (r ++ Replied y ∷ [])) (sym (rest sending.step sending.there)) there in
      record {
        bundle = same ∙ at.bundle;
        count = omega (arith, length-append r (a ∷ []), at.count, next);
        within = omega (arith, inside, next);
        rests = subst (λ x. Rests told b n.facts n.step n.rest (r ++ x ∷ [])) (sym is) by_rest;
      }

  -- ---- the same by what a run holds

  module _ (steps : List Json) (listed : steps ≡ steps_of m.bundle m.bundle.workflow) (q : Request) (y : Reply) (a : Answer) (e : m.rest ≡ Sends q)
      (inside : has_step m.rest m.step (length steps) ≡ true) (is : a ≡ Replied y) where
    all : steps ≡ steps_of b b.workflow
    all = listed ∙ ap (λ x. steps_of x x.workflow) at.bundle

    held : (step : Json) → slice_get (steps_of b b.workflow) m.step ≡ Some step → slice_get steps m.step ≡ Some step
    held step there = ap (λ l. slice_get l m.step) all ∙ there

    within : m.step < length (steps_of b b.workflow)
    within = let lt = step_inside m.rest q m.step (length steps) e inside in omega (arith, lt, ap length all)

    pub taken_run : (n : Standing) (fact : Fact) (ok : Bool)
        → ((step : Json) → slice_get steps m.step ≡ Some step → Covers (verdict_in told m.bundle m.facts step q y) (given ok))
        → ((step : Json) → slice_get steps m.step ≡ Some step → fact ≡ next_fact m.bundle m.facts step q y)
        → n.bundle ≡ m.bundle → n.facts ≡ m.facts ++ fact ∷ [] → n.step ≡ m.step + 1
        → n.rest ≡ goes_to m.bundle (m.facts ++ fact ∷ []) ok (slice_get steps (m.step + 1)) → At told n b (r ++ a ∷ [])
    taken_run n fact ok says left same more next rest =
        taken n q y a fact ok e
        (λ step there. subst (λ x. Covers (verdict_in told x m.facts step q y) (given ok)) at.bundle (says step (held step there)))
        (λ step there. left step (held step there) ∙ ap (λ x. next_fact x m.facts step q y) at.bundle)
        same more next
        (rest ∙ ap (λ x. goes_to x (m.facts ++ fact ∷ []) ok (slice_get steps (m.step + 1))) at.bundle
        ∙ ap (λ l. goes_to b (m.facts ++ fact ∷ []) ok (slice_get l (m.step + 1))) all)
        within is

    pub wide_run : (n : Standing)
        → ((step : Json) → slice_get steps m.step ≡ Some step → Covers (verdict_in told m.bundle m.facts step q y) wide)
        → n.bundle ≡ m.bundle → n.step ≡ m.step + 1
        → ((step : Json) → slice_get steps m.step ≡ Some step → n.rest ≡ widened m.bundle m.facts step) → At told n b (r ++ a ∷ [])
    wide_run n says same next rest =
        taken_wide n q y a e
        (λ step there. subst (λ x. Covers (verdict_in told x m.facts step q y) wide) at.bundle (says step (held step there)))
        same next
        (λ step there. rest step (held step there) ∙ ap (λ x. widened x m.facts step) at.bundle)
        within is

none_past : (xs : List Json) (i : ℕ) → i < length xs → slice_get xs i ≡ None → ⊥
none_past [] i lt e = absurd (omega (arith, lt))
none_past (x ∷ xs) zero lt e = absurd (cc)
none_past (x ∷ xs) (suc i) lt e = none_past xs i (omega (arith, lt)) e

-- a machine that was told no answer rests at its first step
pub starts : (told : Patterned) (m : Standing) (b : Bundle) → IsValid b → m.bundle ≡ b → m.facts ≡ [] → m.step ≡ 0
    → ((step : Json) → slice_get (steps_of b b.workflow) 0 ≡ Some step → m.rest ≡ entered b [] step) → At told m b []
starts told m b valid same none first rest = go (slice_get (steps_of b b.workflow) 0) refl
  where
    go : (o : Option Json) → slice_get (steps_of b b.workflow) 0 ≡ o → At told m b []
    go None e = absurd (none_past (steps_of b b.workflow) 0 valid.some e)
    go (Some step) e = record {
      bundle = same;
      count = sym first;
      within = omega (arith, first);
      rests = rw (none, first, rest step e) (begins told b step e);
    }

-- the same by what a run holds
pub starts_run : (told : Patterned) (b held : Bundle) (facts : List Fact) (steps : List Json) (rest : Rest) → IsValid b → held ≡ b → facts ≡ [] → steps ≡ steps_of held held.workflow
    → ((step : Json) → slice_get steps 0 ≡ Some step → rest ≡ entered held facts step) → At told (record { bundle = held; facts = facts; step = 0; rest = rest }) b []
starts_run told b held facts steps rest valid same none listed first =
    starts told (record { bundle = held; facts = facts; step = 0; rest = rest }) b valid same none refl
    (λ step e. first step (ap (λ l. slice_get l 0) (listed ∙ ap (λ x. steps_of x x.workflow) same) ∙ e) ∙ ap (λ x. entered x facts step) same ∙ ap (λ fs. entered b fs step) none)
