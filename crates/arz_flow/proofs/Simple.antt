-- Where each criterion of a workflow is a simple one, its plays need no pattern.
use Rattle.std.proofs.Common.{◌≡◌, ℕ, zero, suc, ◌+◌, ◌||◌, not, if◌then◌else◌, Bool, true, false, List, [], ◌∷◌, length, codes, Option, Some, None, refl, sym, subst}
use Rattle.std.specs.Prelude.{slice_get}
use Rattle.std.specs.List.{list_any}
use Rattle.arz_json.specs.declared.Json.{Json}
use Rattle.arz_world.specs.declared.Reply.{Reply}
use Rattle.arz_world.specs.declared.Request.{Request}
use Rattle.arz_expr.specs.declared.syntax.Base.{Base}
use Rattle.arz_path.specs.Outcome.{given}
use Rattle.arz_cond.specs.Criteria.{criterion_at}
use Rattle.arz_cond.specs.Outcomes.{is_kind}
use Rattle.arz_cond.proofs.Functions.{simple_is_given}
use Rattle.arz_flow.specs.declared.bundle.Bundle.{Bundle}
use Rattle.arz_flow.specs.Documents.{steps_of, workflow_named, criteria_of}
use Rattle.arz_flow.specs.Requests.{request_of}
use Rattle.arz_flow.specs.Verdicts.{Patterned, is_success, all_hold, verdict, is_patterned, is_judged, asks_patterns}
use Rattle.arz_scope.specs.Scopes.{Nothing, Exchange, found}
use Rattle.arz_flow.specs.Play.{Halt, NoStep, Untold, Stuck, Budget, Seen, Play, Spent, Lost, Out, Ends, Gives, Script, Sends, Plays}
use Rattle.arz_flow.specs.Cases.{Run, Case, Runs, Enters, Goes_on, Closes, give, with_step, with_verdict, within_budget, spot, surroundings, fact_of, with_fact, after_reply, attempt, next_step, script}
use Rattle.arz_flow.specs.Executions.{whole, start, fuel, is_told}
use Rattle.arz_flow.specs.Laws.{NeedsNoPattern}
use Rattle.arz_flow.proofs.Steady.{Allowed, Steady, play_allowed, request_steady, budget_steady, ends_steady}

neither : (x y : Bool) → (x || y) ≡ false → (x ≡ false) × (y ≡ false)
neither false y e = (refl, e)
neither true y e = absurd cc

is_so : (x : Bool) → not x ≡ false → x ≡ true
is_so true e = refl
is_so false e = absurd cc

module _ (told : Patterned) (found : Base → Option Json) where
  -- simple criteria hold or not
  all_given : (cs : List Json) → list_any is_patterned cs ≡ false → (ok : Bool) × (all_hold told found cs ≡ given ok)
  all_given [] none = (true, refl)
  all_given (c ∷ cs) none =
      let parts = neither (is_patterned c) (list_any is_patterned cs) none in
      let first = simple_is_given told found (criterion_at c) (is_so (is_kind (codes "simple") (criterion_at c)) parts.0) in
      rw first.1 (by_first first.0 (all_given cs parts.1))
    where
      by_first : (holds : Bool) → (ok : Bool) × (all_hold told found cs ≡ given ok) → (ok : Bool) × ((if holds then all_hold told found cs else given false) ≡ given ok)
      by_first true rest = rest
      by_first false rest = (false, refl)

  -- so an attempt succeeded or failed
  verdict_given : (y : Reply) (cs : List Json) → list_any is_patterned cs ≡ false → (ok : Bool) × (verdict told found y cs ≡ given ok)
  verdict_given y [] none = (is_success y, refl)
  verdict_given y (c ∷ cs) none = all_given (c ∷ cs) none

unjudged : (steps : List Json) (i : ℕ) (step : Json) → list_any is_judged steps ≡ false → slice_get steps i ≡ Some step → is_judged step ≡ false
unjudged [] i step none at = absurd cc
unjudged (x ∷ xs) zero step none at = let same : x ≡ step = cc in subst (λ z. is_judged z ≡ false) same (neither (is_judged x) (list_any is_judged xs) none).0
unjudged (x ∷ xs) (suc i) step none at = unjudged xs i step (neither (is_judged x) (list_any is_judged xs) none).1 at

-- not for want of a pattern
abbrev Known : Halt → Type 0
Known NoStep = Unit {0}
Known Untold = ⊥
Known (Stuck cause at) = Unit {0}
Known (Budget limit) = Unit {0}

module _ (told : Patterned) (b : Bundle) (none : asks_patterns b ≡ false) where
  -- a case of the workflow that is run
  abbrev OfStart : Case → Type 0
  OfStart (Runs w inputs) = w ≡ b.workflow
  OfStart (Enters r i) = r.workflow ≡ b.workflow
  OfStart (Goes_on r i ok) = r.workflow ≡ b.workflow
  OfStart (Closes r ok) = Unit {0}

  abbrev Needless : Script Case → Type 0
  Needless c = Steady Known OfStart c

  reply_needless : (r : Run) (i : ℕ) (step : Json) (q : Request) (y : Reply) (u : Seen) → r.workflow ≡ b.workflow → is_judged step ≡ false → Needless (after_reply told b r i step q y u)
  reply_needless r i step q y u of simple =
      let is = verdict_given told (found (surroundings b r u.done) (Exchange q y)) y (criteria_of step) simple in
      subst (λ o. Needless (with_verdict o (spot r step) (λ ok. Plays (Goes_on (with_fact r (fact_of b r u.done step q y)) i ok) give))) (sym is.1) (of, λ o w. tt)

  step_needless : (r : Run) (i : ℕ) (v : Seen) (o : Option Json) → r.workflow ≡ b.workflow → slice_get (steps_of b r.workflow) i ≡ o → Needless (with_step o (attempt told b r i v))
  step_needless r i v None of at = tt
  step_needless r i v (Some step) of at =
      let simple = unjudged (steps_of b b.workflow) i step none (subst (λ w. slice_get (steps_of b w) i ≡ Some step) of at) in
      request_steady Known OfStart (λ cause at. tt) (request_of b (found (surroundings b r v.done) Nothing) (workflow_named r.workflow b.arazzo) step) (spot r step) (λ q. within_budget b v (Sends q (after_reply told b r i step q))) (λ q.
      budget_steady Known OfStart b v (Sends q (after_reply told b r i step q)) tt (λ y u. reply_needless r i step q y u of simple))

  next_needless : (r : Run) (i : ℕ) (o : Option Json) → r.workflow ≡ b.workflow → Needless (Plays (next_step r i o) give)
  next_needless r i None of = (tt, λ o v. tt)
  next_needless r i (Some step) of = (of, λ o v. tt)

  script_needless : (g : Case) (v : Seen) → OfStart g → Needless (script told b g v)
  unfolding script
  script_needless (Runs w inputs) v of = (of, λ o u. ends_steady Known OfStart w inputs o u)
  script_needless (Enters r i) v of = step_needless r i v (slice_get (steps_of b r.workflow) i) of refl
  script_needless (Goes_on r i true) v of = next_needless r (i + 1) (slice_get (steps_of b r.workflow) (i + 1)) of
  script_needless (Goes_on r i false) v of = (tt, λ o u. tt)
  script_needless (Closes r ok) v of = tt

known_told : (p : Play) → Allowed Known p → is_told p ≡ true
known_told Spent k = refl
known_told Lost k = refl
known_told (Out q s) k = refl
known_told (Ends NoStep s) k = refl
known_told (Ends Untold s) k = absurd k
known_told (Ends (Stuck cause at) s) k = refl
known_told (Ends (Budget limit) s) k = refl
known_told (Gives o s) k = refl

-- where each criterion is a simple one, no pattern is needed
pub needs_no_pattern : (told : Patterned) → NeedsNoPattern told
needs_no_pattern told b r none =
    known_told (whole told b r)
    (play_allowed Known (OfStart told b none) (script told b) (script_needless told b none) (fuel (length r)) (Runs b.workflow b.inputs) (start r) refl)
