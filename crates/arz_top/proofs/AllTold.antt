-- Where patterns tell all, no execution needs one of which nothing is told.
use Rattle.std.proofs.Common.{◌≡◌, ℕ, ◌+◌, if◌then◌else◌, Bool, true, false, List, [], ◌∷◌, length, codes, Option, Some, None, refl}
use Rattle.std.specs.Prelude.{slice_get, option_and_then}
use Rattle.std.specs.Option.{IsSome}
use Rattle.arz_json.specs.declared.Json.{Json}
use Rattle.arz_world.specs.declared.Reply.{Reply}
use Rattle.arz_world.specs.declared.Request.{Request}
use Rattle.arz_rx.specs.Patterns.{Told}
use Rattle.arz_expr.specs.declared.syntax.Base.{Base}
use Rattle.arz_query.specs.declared.query.Segment.{Segment}
use Rattle.arz_path.proofs.Told.{selected_is_told}
use Rattle.arz_path.specs.Outcome.{Outcome, given, wide, untold, and_then, outcome_map}
use Rattle.arz_path.specs.Selected.{IsTold, answered, is_any, is_some_node, selected}
use Rattle.arz_cond.specs.Criteria.{Criterion, criterion_at}
use Rattle.arz_cond.specs.Holding.{found_in, is_found}
use Rattle.arz_cond.specs.Outcomes.{is_kind, context_value, condition_in, query_in, is_met, is_chosen, outcome}
use Rattle.arz_cond.specs.Rendering.{searched_text}
use Rattle.arz_flow.specs.declared.bundle.Bundle.{Bundle}
use Rattle.arz_flow.specs.declared.answers.Answer.{Answer}
use Rattle.arz_flow.specs.declared.answers.Spot.{Spot}
use Rattle.arz_flow.specs.Documents.{steps_of, workflow_named, criteria_of}
use Rattle.arz_flow.specs.Requests.{request_of}
use Rattle.arz_flow.specs.Verdicts.{Patterned, all_hold, verdict}
use Rattle.arz_scope.specs.Scopes.{Nothing, Exchange, found}
use Rattle.arz_flow.specs.Play.{Halt, NoStep, Untold, Stuck, Budget, Seen, Play, Spent, Lost, Out, Ends, Gives, Script, Sends, Plays}
use Rattle.arz_flow.specs.Cases.{Run, Case, Runs, Enters, Goes_on, Closes, give, with_step, with_verdict, within_budget, spot, surroundings, fact_of, with_fact, verdict_of, after_reply, attempt, next_step, script}
use Rattle.arz_flow.specs.Executions.{whole, start, fuel, is_told, IsTold as IsToldOver}
use Rattle.arz_flow.proofs.Steady.{Allowed, Steady, play_allowed, request_steady, budget_steady, ends_steady}

map_told : {X Y : Type 0} (f : X → Y) (o : Outcome X) → IsTold o → IsTold (outcome_map f o)
map_told f (given x) h = tt
map_told f wide h = tt
map_told f untold h = absurd h

then_told : {X Y : Type 0} (f : X → Outcome Y) (o : Outcome X) → IsTold o → ((x : X) → IsTold (f x)) → IsTold (and_then f o)
then_told f (given x) h k = k x
then_told f wide h k = tt
then_told f untold h k = absurd h

answered_told : (t : Told) → IsSome t → IsTold (answered t)
answered_told None h = absurd (cc)
answered_told (Some None) h = tt
answered_told (Some (Some b)) h = tt

module _ (told : Patterned) (tells : (pattern text : List ℕ) → IsSome (told pattern text)) where
  found_told : (pattern : List ℕ) (text : Option (List ℕ)) → IsTold (found_in told pattern text)
  found_told pattern None = tt
  found_told pattern (Some text) = answered_told (told pattern text) (tells pattern text)

  chosen_told : (q : Option (List Segment)) (v : Option Json) → IsTold (is_chosen told q v)
  unfolding is_any
  chosen_told None v = tt
  chosen_told (Some vs) None = tt
  chosen_told (Some vs) (Some root) =
      map_told is_some_node (selected vs (record { told = told; root = root })) (selected_is_told vs (record { told = told; root = root }) tells)

  outcome_told : (known : Base → Option Json) (c : Criterion) → IsTold (outcome told known c)
  unfolding outcome
  outcome_told known c = by_kind (is_kind (codes "simple") c) (is_kind (codes "regex") c)
    where
      by_kind : (simple regex : Bool)
          → IsTold (if simple then given (is_met known (condition_in c.condition)) else if regex then is_found told c.condition (context_value known c) else is_chosen told (query_in c.condition) (context_value known c))
      by_kind true regex = tt
      by_kind false true = found_told c.condition (option_and_then searched_text (context_value known c))
      by_kind false false = chosen_told (query_in c.condition) (context_value known c)

  all_hold_told : (known : Base → Option Json) (cs : List Json) → IsTold (all_hold told known cs)
  all_hold_told known [] = tt
  all_hold_told known (c ∷ cs) = then_told (λ holds. if holds then all_hold told known cs else given false) (outcome told known (criterion_at c)) (outcome_told known (criterion_at c)) (by_first (all_hold_told known cs))
    where
      by_first : IsTold (all_hold told known cs) → (holds : Bool) → IsTold (if holds then all_hold told known cs else given false)
      by_first rest true = rest
      by_first rest false = tt

  verdict_told : (known : Base → Option Json) (y : Reply) (cs : List Json) → IsTold (verdict told known y cs)
  verdict_told known y [] = tt
  verdict_told known y (c ∷ cs) = all_hold_told known (c ∷ cs)

  -- not for want of a pattern
  abbrev Known : Halt → Type 0
  Known NoStep = Unit {0}
  Known Untold = ⊥
  Known (Stuck cause at) = Unit {0}
  Known (Budget limit) = Unit {0}

  abbrev Any : Case → Type 0
  Any g = Unit {0}

  abbrev Needless : Script Case → Type 0
  Needless c = Steady Known Any c

  module _ (b : Bundle) where
    verdict_needless : (o : Outcome Bool) (at : Spot) (k : Bool → Script Case) → IsTold o → ((ok : Bool) → Needless (k ok)) → Needless (with_verdict o at k)
    verdict_needless (given ok) at k t h = h ok
    verdict_needless wide at k t h = tt
    verdict_needless untold at k t h = absurd t

    reply_needless : (r : Run) (i : ℕ) (step : Json) (q : Request) (y : Reply) (u : Seen) → Needless (after_reply told b r i step q y u)
    reply_needless r i step q y u =
        verdict_needless (verdict_of told b r u.done step q y) (spot r step) (λ ok. Plays (Goes_on (with_fact r (fact_of b r u.done step q y)) i ok) give)
        (verdict_told (found (surroundings b r u.done) (Exchange q y)) y (criteria_of step)) (λ ok. (tt, λ o w. tt))

    step_needless : (r : Run) (i : ℕ) (v : Seen) (o : Option Json) → Needless (with_step o (attempt told b r i v))
    step_needless r i v None = tt
    step_needless r i v (Some step) =
        request_steady Known Any (λ cause at. tt) (request_of b (found (surroundings b r v.done) Nothing) (workflow_named r.workflow b.arazzo) step) (spot r step) (λ q. within_budget b v (Sends q (after_reply told b r i step q))) (λ q.
        budget_steady Known Any b v (Sends q (after_reply told b r i step q)) tt (λ y u. reply_needless r i step q y u))

    next_needless : (r : Run) (i : ℕ) (o : Option Json) → Needless (Plays (next_step r i o) give)
    next_needless r i None = (tt, λ o v. tt)
    next_needless r i (Some step) = (tt, λ o v. tt)

    script_needless : (g : Case) (v : Seen) → Any g → Needless (script told b g v)
    unfolding script
    script_needless (Runs w inputs) v of = (tt, λ o u. ends_steady Known Any w inputs o u)
    script_needless (Enters r i) v of = step_needless r i v (slice_get (steps_of b r.workflow) i)
    script_needless (Goes_on r i true) v of = next_needless r (i + 1) (slice_get (steps_of b r.workflow) (i + 1))
    script_needless (Goes_on r i false) v of = (tt, λ o u. tt)
    script_needless (Closes r ok) v of = tt

  known_told : (p : Play) → Allowed Known p → is_told p ≡ true
  known_told Spent k = refl
  known_told Lost k = refl
  known_told (Out q s) k = refl
  known_told (Ends NoStep s) k = refl
  known_told (Ends Untold s) k = absurd k
  known_told (Ends (Stuck cause at) s) k = refl
  known_told (Ends (Budget limit) s) k = refl
  known_told (Gives o s) k = refl

  pub all_told : (b : Bundle) (r : List Answer) → IsToldOver told b r
  all_told b r =
      known_told (whole told b r)
      (play_allowed Known Any (script told b) (script_needless b) (fuel (length r)) (Runs b.workflow b.inputs) (start r) tt)
