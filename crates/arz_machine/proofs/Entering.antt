-- What a run makes of a step.
use Rattle.std.proofs.Common.{◌≡◌, ℕ, ◌<◌, List, [], map, length, codes, get_or, Result, Ok, Err, Option, None, Some, IfOk, IfSome, Bool, true, false, refl, ap, sym, ◌∙◌, subst, arith}
use Rattle.std.specs.Prelude.{slice_get}
use Rattle.std.proofs.lemmas.List.{get_or-map}
use Rattle.std.proofs.lemmas.Option.{slice_get-get_or, get_or_from_slice_get}
use Rattle.arz_json.specs.Answer.{Fails}
use Rattle.arz_json.specs.Tree.{IsWithin, IsWellFormed}
use Rattle.arz_json.specs.declared.Json.{Json}
use Rattle.arz_json.specs.declared.Member.{Member}
use Rattle.arz_json.proofs.Parts.{IsWithin-more}
use Rattle.arz_world.specs.declared.Reply.{Reply}
use Rattle.arz_world.specs.declared.Request.{Request}
use Rattle.arz_expr.specs.declared.template.Body.{Body}
use Rattle.arz_expr.specs.declared.template.Given.{Given}
use Rattle.arz_components.specs.Described.{Components, component}
use Rattle.arz_components.specs.declared.components.Part.{Part}
use Rattle.arz_description.specs.Requests.{AreWellFormed, body_of}
use Rattle.arz_description.proofs.Sound.{found_sound}
use Rattle.arz_request.specs.Causes.{Made, told}
use Rattle.arz_request.specs.Requests.{request}
use Rattle.arz_request.specs.declared.cause.BuildFault.{BuildFault}
use Rattle.arz_request.specs.declared.cause.BuildFault.TheVariants.{Stuck as StuckFault}
use Rattle.arz_request.specs.declared.cause.Cause.{Cause}
use Rattle.arz_scope.specs.Outputs.{outputs_of}
use Rattle.arz_scope.specs.Scopes.{Nothing, Exchange, found}
use Rattle.arz_scope.specs.Speaking.{Speaking, run_of as spoken_run, attempt_of}
use Rattle.arz_scope.specs.declared.facts.Fact.{Fact}
use Rattle.arz_flow.specs.Cases.{surroundings, spot, run_outputs, outputs_at_end}
use Rattle.arz_flow.specs.Documents.{text_at, steps_of, workflow_named, criteria_of}
use Rattle.arz_flow.specs.Requests.{endpoint_of, given_to, request_of}
use Rattle.arz_flow.specs.declared.answers.End.TheVariants.{Stuck, Budget}
use Rattle.arz_flow.specs.declared.answers.Spot.{Spot}
use Rattle.arz_flow.specs.declared.bundle.Bundle.{Bundle}
use Rattle.arz_flow.specs.declared.endpoint.Endpoint.{Endpoint}
use Rattle.arz_flow.specs.Verdicts.{Patterned}
use Rattle.arz_flow.proofs.Within.{step-within, workflow-within}
use Rattle.arz_cond.specs.Criteria.{Criterion}
use Rattle.arz_request.specs.declared.cause.Cause.TheVariants.{TooWide}
use Rattle.arz_machine.specs.Joining.{joined_of}
use Rattle.arz_machine.specs.Spoken.{spoken}
use Rattle.arz_machine.specs.States.{Sends, Ended, run_of, is_spent, rest_by, request_in, next_fact, verdict_in, widened}
use Rattle.arz_machine.specs.Tests.{tests_of, judged}
use Rattle.arz_machine.proofs.Judging.{judged_same}

-- ---- what is read is well-formed

pub well_formed : (j : Json) → IsWithin 127 j → IsWellFormed j
well_formed j w = IsWithin-more 127 130 j (omega arith) w

-- a step nests no deeper than the description
pub step_sound : (b : Bundle) (steps : List Json) (i : ℕ) (d : Json) → IsWithin 127 b.arazzo → steps ≡ steps_of b b.workflow → i < length steps → IsWellFormed (get_or steps i d)
step_sound b steps i d w listed lt =
    well_formed (get_or steps i d) (step-within 127 b b.workflow _ i (ap (λ l. slice_get l i) (sym listed) ∙ slice_get-get_or steps i d lt) w)

pub workflow_sound : (b : Bundle) (read : Option Json) → IsWithin 127 b.arazzo → read ≡ workflow_named b.workflow b.arazzo → IfSome read IsWellFormed
workflow_sound b None w named = tt
workflow_sound b (Some k) w named = well_formed k (workflow-within 127 b.workflow b.arazzo k (sym named) w)

pub components_sound : (b : Bundle) (find : Components) → IsWithin 127 b.arazzo → ((part : Part) (q : List ℕ) → find part q ≡ component b.arazzo part q) → AreWellFormed find
components_sound b find w same = found_sound find b.arazzo same (well_formed b.arazzo w)

-- ---- what a step calls, and what is given to it

pub the_endpoint : (b : Bundle) (steps : List Json) (all : List Endpoint) (i : ℕ) (d : Json) (e : Endpoint) → all ≡ map (endpoint_of b) steps → i < length steps → get_or all i e ≡ endpoint_of b (get_or steps i d)
the_endpoint b steps all i d e called lt = ap (λ (l : List Endpoint). get_or l i e) called ∙ get_or-map (endpoint_of b) steps i d e lt

pub given_as : (b : Bundle) (find : Components) (read workflow : Option Json) (step : Json) → ((part : Part) (q : List ℕ) → find part q ≡ component b.arazzo part q) → read ≡ workflow
    → joined_of find read step ≡ given_to b workflow step
given_as b find read workflow step same named = (λ i. joined_of (λ part q. same part q i) read step) ∙ ap (λ o. joined_of (component b.arazzo) o step) named ∙ by_flow workflow
  where
    by_flow : (o : Option Json) → joined_of (component b.arazzo) o step ≡ given_to b o step
    by_flow None = refl
    by_flow (Some w) = refl

-- ---- what is made of a step

-- the step that was read is the one that is there
pub the_step : (steps : List Json) (i : ℕ) (d step : Json) → slice_get steps i ≡ Some step → get_or steps i d ≡ step
the_step steps i d step at = get_or_from_slice_get steps i step d at

module _ (b : Bundle) (facts : List Fact) (step : Json) where
  -- a request that is made, where the budget lasts and where it is spent
  pub sent_by : (spent : Bool) (q : Request) → spent ≡ is_spent b facts → spent ≡ false → Sends q ≡ rest_by b facts (Ok q) (spot (run_of b facts) step)
  sent_by spent q is lasts = rw (sym is ∙ lasts) refl

  pub spent_by : (spent : Bool) (q : Request) → spent ≡ is_spent b facts → spent ≡ true → Ended (Budget b.max_attempts) ≡ rest_by b facts (Ok q) (spot (run_of b facts) step)
  spent_by spent q is over = rw (sym is ∙ over) refl

abbrev made_fact : List ℕ → List Member → Fact
made_fact id outputs = record { step = id; outputs = outputs }

module _ (b : Bundle) (facts : List Fact) (read step : Json) (same : read ≡ step) where
  -- the request that is made of the step that was read
  pub requested_as : (s : Speaking) (e : Endpoint) (gs : List Given) (body : Option Body) → s ≡ spoken b facts None → e ≡ endpoint_of b read
      → gs ≡ given_to b (workflow_named b.workflow b.arazzo) read → body ≡ body_of read
      → request (found (spoken_run s) (attempt_of s.exchange s.inner)) e.operation e.server gs body ≡ request_in b facts step
  unfolding spoken
  requested_as s e gs body speaks calls gives has =
      let here = found (surroundings b (run_of b facts) []) Nothing in
      let workflow = workflow_named b.workflow b.arazzo in
      let end = endpoint_of b read in
      ap (λ (z : Speaking). request (found (spoken_run z) (attempt_of z.exchange z.inner)) e.operation e.server gs body) speaks
      ∙ ap (λ (z : Endpoint). request here z.operation z.server gs body) calls
      ∙ ap (λ (z : List Given). request here end.operation end.server z body) gives
      ∙ ap (λ (z : Option Body). request here end.operation end.server (given_to b workflow read) z) has
      ∙ ap (request_of b here workflow) same

  -- the end at the step that was read
  pub stuck_at : (at_read : Spot) (cause : Cause) → at_read ≡ spot (run_of b facts) read → Ended (Stuck cause at_read) ≡ rest_by b facts (Err cause) (spot (run_of b facts) step)
  stuck_at at_read cause e = ap (λ z. Ended (Stuck cause z)) (e ∙ ap (spot (run_of b facts)) same)

  -- the fact of the step that was read
  pub fact_as : (s : Speaking) (q : Request) (y : Reply) (id : List ℕ) (outputs : List Member) → s ≡ spoken b facts (Some (q, y)) → id ≡ text_at (codes "stepId") read
      → outputs ≡ outputs_of (found (spoken_run s) (attempt_of s.exchange s.inner)) read → made_fact id outputs ≡ next_fact b facts step q y
  unfolding spoken
  fact_as s q y id outputs speaks named given =
      let there = found (surroundings b (run_of b facts) []) (Exchange q y) in
      ap (λ z. made_fact z outputs) (named ∙ ap (text_at (codes "stepId")) same)
      ∙ ap (made_fact (text_at (codes "stepId") step))
      (given ∙ ap (λ z. outputs_of (found (spoken_run z) (attempt_of z.exchange z.inner)) read) speaks ∙ ap (outputs_of there) same)

  -- where a selection of a criterion of the step that was read is too wide
  pub wide_at : (at_read : Spot) → at_read ≡ spot (run_of b facts) read → Ended (Stuck TooWide at_read) ≡ widened b facts step
  wide_at at_read e = ap (λ z. Ended (Stuck TooWide z)) (e ∙ ap (spot (run_of b facts)) same)

  -- the verdict by the criteria that were read
  pub judged_as : (patterns : Patterned) (s : Speaking) (q : Request) (y : Reply) (tests : List Criterion) → s ≡ spoken b facts (Some (q, y)) → tests ≡ tests_of read
      → judged patterns (found (spoken_run s) (attempt_of s.exchange s.inner)) y tests ≡ verdict_in patterns b facts step q y
  unfolding spoken
  judged_as patterns s q y tests speaks listed =
      let there = found (surroundings b (run_of b facts) []) (Exchange q y) in
      ap (λ (z : Speaking). judged patterns (found (spoken_run z) (attempt_of z.exchange z.inner)) y tests) speaks
      ∙ ap (judged patterns there y) (listed ∙ ap tests_of same)
      ∙ judged_same patterns there y (criteria_of step)

-- the cause why there is no request
pub stuck_by : (fault : BuildFault) (cause : Cause) (made : Made Request) → Fails (told fault) made → fault ≡ StuckFault cause → made ≡ Err cause
stuck_by fault cause made fails is = subst (λ f. Fails (told f) made) is fails

-- what holds under a condition that is met
pub given_if : {X E A : Type 0} (P : X → Type 0) (r : Result X E) → IfOk r (λ x. A → P x) → A → IfOk r P
given_if P (Ok x) h a = h a
given_if P (Err e) h a = h

abbrev speaks_of : Bundle → List Member → List Fact → Option (Request × Reply) → Option (List Member) → Speaking
speaks_of b inputs facts exchange inner = record { description = b.arazzo; inputs = inputs; facts = facts; done = []; exchange = exchange; inner = inner }

-- the scope of the inputs and facts that were read, and of what an attempt has of its own
pub as_spoken : {E : Type 0} (r : Result Speaking E) (b : Bundle) (facts : List Fact) (x own : Option (Request × Reply)) (inner : Option (List Member)) (inputs : List Member) (read : List Fact) → inputs ≡ b.inputs → read ≡ facts → own ≡ x → inner ≡ None
    → IfOk r (λ s. s ≡ speaks_of b inputs read own inner) → IfOk r (λ s. s ≡ spoken b facts x)
unfolding spoken
as_spoken (Ok s) b facts x own inner inputs read i f e none h =
    h ∙ ap (λ l. speaks_of b l read own inner) i ∙ ap (λ l. speaks_of b b.inputs l own inner) f ∙ ap (λ z. speaks_of b b.inputs facts z inner) e ∙ ap (speaks_of b b.inputs facts x) none
as_spoken (Err z) b facts x own inner inputs read i f e none h = h

-- the outputs of the workflow that was found
pub outputs_as : {E : Type 0} (r : Result (List Member) E) (b : Bundle) (facts : List Fact) (s : Speaking) (w : Json) → s ≡ spoken b facts None → workflow_named b.workflow b.arazzo ≡ Some w
    → IfOk r (λ given. given ≡ outputs_of (found (spoken_run s) (attempt_of s.exchange s.inner)) w) → IfOk r (λ given. given ≡ outputs_at_end b (run_of b facts) [])
unfolding spoken
outputs_as (Ok given) b facts s w speaks there h =
    h ∙ ap (λ z. outputs_of (found (spoken_run z) (attempt_of z.exchange z.inner)) w) speaks ∙ sym (ap (run_outputs b (run_of b facts) []) there)
outputs_as (Err e) b facts s w speaks there h = h
