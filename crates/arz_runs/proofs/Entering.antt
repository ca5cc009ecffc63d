-- Steps that are attempted, and runs that are made, where `told` is what is told of patterns.
use Rattle.std.proofs.Common.{◌≡◌, ℕ, ◌+◌, ◌<◌, ◌≤◌, ◌==◌, Bool, true, false, List, [], ◌∷◌, ◌++◌, length, reverse, drop, Option, Some, None, refl, sym, ap, ◌∙◌, subst, arith}
use Rattle.std.specs.Prelude.{if◌then◌else◌, IfSome, IfNone, All}
use Rattle.std.specs.Option.{option_copied}
use Rattle.std.specs.List.{IsLastAndRest}
use Rattle.std.proofs.lemmas.List.{length-reverse}
use Rattle.std.proofs.Common.{length-append}
use Rattle.arz_scope.specs.Speaking.{facts_after}
use Rattle.std.proofs.lemmas.Bool.Decides.{nat_tests}
use Rattle.std.specs.declared.result.Result.TheVariants.{Ok, Err}
use Rattle.arz_json.specs.declared.Json.{Json}
use Rattle.arz_json.specs.declared.Member.{Member}
use Rattle.arz_world.specs.declared.Request.{Request}
use Rattle.arz_expr.specs.declared.template.Body.{Body}
use Rattle.arz_expr.specs.declared.template.Given.{Given}
use Rattle.arz_operation.specs.declared.types.Call.{Call}
use Rattle.arz_operation.specs.declared.types.Call.TheVariants as call
use Rattle.arz_description.specs.Calls.{call_of}
use Rattle.arz_description.specs.Requests.{body_of}
use Rattle.arz_request.specs.Causes.{Made, told as told_of}
use Rattle.arz_request.specs.declared.cause.BuildFault.{BuildFault}
use Rattle.arz_request.specs.declared.cause.BuildFault.TheVariants.{Stuck as Fault}
use Rattle.arz_json.specs.Answer.{Fails}
use Rattle.arz_request.specs.declared.cause.Cause.{Cause}
use Rattle.arz_request.specs.Requests.{request}
use Rattle.arz_scope.specs.declared.facts.Completion.{Completion}
use Rattle.arz_scope.specs.declared.facts.Fact.{Fact}
use Rattle.arz_scope.specs.Scopes.{Nothing, with_fact}
use Rattle.arz_flow.specs.Requests.{endpoint_of, given_to, parameters_of}
use Rattle.arz_flow.specs.declared.answers.Answer.{Answer}
use Rattle.arz_flow.specs.declared.answers.Spot.{Spot}
use Rattle.arz_flow.specs.declared.bundle.Bundle.{Bundle}
use Rattle.arz_flow.specs.declared.endpoint.Endpoint.{Endpoint}
use Rattle.arz_relation.specs.declared.ends.End.{End}
use Rattle.arz_relation.specs.declared.ends.End.TheVariants.{Stuck as EndStuck, TooDeep as EndTooDeep, Budget as EndBudget}
use Rattle.arz_relation.specs.Cases.{Run, Case, Runs, Tried, deepest, spot, spoken_of, with_step, with_made, after_reply, after_inner, after_run, attempt, attempt_by, attempt_operation, attempt_workflow, begun, depend, script}
use Rattle.arz_relation.specs.Documents.{workflow_named, depends_of}
use Rattle.arz_relation.specs.Play.{NoStep, Stuck, TooDeep, Budget, Seen, Script, Stops, Sends, Plays}
use Rattle.arz_relation.specs.Requests.{request_of, inputs_of}
use Rattle.arz_relation.specs.Stands.{seen_of, turned, Follow, Stands}
use Rattle.arz_relation.specs.Verdicts.{Patterned}
use Rattle.arz_relation.proofs.Standing.{call_stands, stops_stands}
use Rattle.arz_runs.specs.Fronts.{weight, depends_from, IsLookedAt, IsOnTop, IsAbsent}
use Rattle.arz_runs.specs.Readable.{IsSound}
use Rattle.arz_runs.specs.Scenes.{run_in, scene, speaks}
use Rattle.arz_runs.specs.ShallowRuns.{IsShallowFrame}
use Rattle.arz_scope.specs.Shallow.{AreShallow}
use Rattle.std.proofs.lemmas.List.Elements.{All-append, All-cons, All-nil}
use Rattle.arz_runs.specs.declared.goals.Opening.{Opening}
use Rattle.arz_runs.specs.declared.goals.Goal.{Goal as ToDo}
use Rattle.arz_runs.specs.declared.goals.Goal.TheVariants.{Attempt as GoAttempt, Open as GoOpen, Over as GoOver, Rest as GoRest}
use Rattle.arz_runs.specs.declared.look.Look.{Look}
use Rattle.arz_runs.specs.declared.plans.Planned.{Planned}
use Rattle.arz_runs.specs.Planned.{calls_by, inputs_by, IsStep}
use Rattle.arz_runs.specs.Rests.{Goes, IsOver, IsSending, lacks_answer}
use Rattle.arz_runs.specs.Runs.{Goal, run_at, step_at, then_of, after_made, resume, continues, attempting, opening}
use Rattle.arz_runs.specs.Turns.{attempt_in, with_top, Lands}
use Rattle.arz_runs.specs.declared.frames.Frame.{Frame}
use Rattle.arz_runs.specs.declared.frames.Purpose.{Purpose}
use Rattle.arz_runs.specs.declared.frames.Purpose.TheVariants.{Attempt}
use Rattle.arz_runs.specs.declared.frames.Then.{Then}
use Rattle.arz_runs.specs.declared.plans.Calls.{Calls}
use Rattle.arz_runs.specs.declared.plans.Calls.TheVariants.{Operation, Workflow}
use Rattle.arz_runs.proofs.Resuming.{stops_over, no_step, none_on_top, none_open, one_open, reverse_last}

differ : (n m : ℕ) → n < m → (n == m) ≡ false
differ n m lt = grind (arith, nat_tests)

same_number : (n m : ℕ) → n ≡ m → (n == m) ≡ true
same_number n m e = grind (arith, nat_tests)

other_number : (n m : ℕ) → (n ≡ m → ⊥) → (n == m) ≡ false
other_number n m h = grind (arith, nat_tests)

-- ---- a run that is made

module _ (told : Patterned) (b : Bundle) (fs : List Frame) (done : List Completion) (sends : ℕ) (r : List Answer) where
  -- as many are open as may be: the execution has ended
  pub too_deep : (w : List ℕ) (inputs : List Member) (at : Spot) (p : Purpose) → length fs ≡ deepest → Goes told b fs done sends r (opening told b fs w inputs at p) → IsOver told b (EndTooDeep at) r
  unfolding script
  too_deep w inputs at p full g =
      let k = resume told b p fs in
      let deep : (length fs + 1 == deepest + 1) ≡ true = same_number (length fs + 1) (deepest + 1) (omega (arith, full)) in
      let stands = subst (λ o. Stands told b (if o then Stops (TooDeep at) else Plays (depend (begun w inputs (length fs + 1)) (depends_of b w)) (after_run w inputs)) (k ∷ continues told b fs) (turned g.past) r) deep
      (call_stands told b (Runs w inputs (length fs + 1) at) k (continues told b fs) g.past r g.stands) in
      stops_over told b [] done sends r (TooDeep at) (EndTooDeep at) (λ s. refl) refl
      (record { past = turned g.past; completed = g.completed; counted = g.counted; stands = stops_stands told b (TooDeep at) (k ∷ continues told b fs) (turned g.past) r stands })

  -- the frame of a run before its first step
  abbrev made : List ℕ → List Member → List Fact → Purpose → Frame
  made w inputs facts p = record { workflow = w; inputs = inputs; facts = facts; purpose = p }

  -- otherwise one more is open, and its dependencies come next
  pub opens : (w : List ℕ) (inputs : List Member) (facts : List Fact) (at : Spot) (p : Purpose) → length fs < deepest → facts ≡ [] → Goes told b fs done sends r (opening told b fs w inputs at p)
      → Goes told b (made w inputs facts p ∷ fs) done sends r (depends_from told b (made w inputs facts p) fs 0)
  unfolding script
  opens w inputs facts at p room none g =
      let k = resume told b p fs in
      let shallow : (length fs + 1 == deepest + 1) ≡ false = differ (length fs + 1) (deepest + 1) (omega (arith, room)) in
      let stands = subst (λ o. Stands told b (if o then Stops (TooDeep at) else Plays (depend (begun w inputs (length fs + 1)) (depends_of b w)) (after_run w inputs)) (k ∷ continues told b fs) (turned g.past) r) shallow
      (call_stands told b (Runs w inputs (length fs + 1) at) k (continues told b fs) g.past r g.stands) in
      subst (λ l. Goes told b (made w inputs l p ∷ fs) done sends r (depends_from told b (made w inputs l p) fs 0)) (sym none)
      (record {
        past = turned (turned g.past);
        completed = g.completed;
        counted = g.counted;
        stands = call_stands told b (depend (begun w inputs (length fs + 1)) (depends_of b w)) (after_run w inputs) (k ∷ continues told b fs) (turned g.past) r stands;
      })

-- ---- a step that is attempted

module _ (told : Patterned) (b : Bundle) (f : Frame) (fs : List Frame) (done : List Completion) (sends : ℕ) (r : List Answer) (i : ℕ) (next : Then) (step : Json) (there : step_at b f.workflow i ≡ Some step) where
  abbrev after : Tried → Seen → Script Case
  after = then_of told b i step next

  stepped : Goes told b (f ∷ fs) done sends r (attempt_in told b (f ∷ fs) i next) → Goes told b (f ∷ fs) done sends r (attempting told b (run_at f fs) i step next)
  stepped g =
      record {
        past = g.past;
        completed = g.completed;
        counted = g.counted;
        stands = subst (λ o. Stands told b (with_step o (λ s. attempting told b (run_at f fs) i s next (seen_of g.past))) (continues told b (f ∷ fs)) g.past r) there g.stands;
      }

  abbrev sending : Made Request → Goal
  sending made seen = with_made made (spot (run_at f fs) step) (λ q. if sends == b.max_attempts then Stops (Budget b.max_attempts) else Sends q (after_reply told b (run_at f fs) step q after))

  abbrev making : (w : List ℕ) → Made (List Member) → Goal
  making w made seen = with_made made (spot (run_at f fs) step) (λ inputs. Plays (Runs w inputs (length fs + 1 + 1) (spot (run_at f fs) step)) (after_inner told b (run_at f fs) step after))

  abbrev request_at : Made Request
  request_at = request_of b (spoken_of b (run_at f fs) done Nothing) (workflow_named f.workflow b.arazzo) step

  abbrev inputs_at : Made (List Member)
  inputs_at = inputs_of b (spoken_of b (run_at f fs) done Nothing) step

  sends_one : Goes told b (f ∷ fs) done sends r (λ seen. attempt_operation told b (run_at f fs) step seen after) → Goes told b (f ∷ fs) done sends r (sending request_at)
  sends_one g =
      record {
        past = g.past;
        completed = g.completed;
        counted = g.counted;
        stands =
            subst (λ d. Stands told b (with_made (request_of b (spoken_of b (run_at f fs) d Nothing) (workflow_named f.workflow b.arazzo) step) (spot (run_at f fs) step) (λ q. if sends == b.max_attempts then Stops (Budget b.max_attempts) else Sends q (after_reply told b (run_at f fs) step q after))) (continues told b (f ∷ fs)) g.past r) g.completed
            (subst (λ n. Stands told b (with_made (request_of b (spoken_of b (run_at f fs) g.past.done Nothing) (workflow_named f.workflow b.arazzo) step) (spot (run_at f fs) step) (λ q. if n == b.max_attempts then Stops (Budget b.max_attempts) else Sends q (after_reply told b (run_at f fs) step q after))) (continues told b (f ∷ fs)) g.past r) g.counted g.stands);
      }

  makes_one : (w : List ℕ) → Goes told b (f ∷ fs) done sends r (λ seen. attempt_workflow told b (run_at f fs) step w seen after) → Goes told b (f ∷ fs) done sends r (making w inputs_at)
  makes_one w g =
      record {
        past = g.past;
        completed = g.completed;
        counted = g.counted;
        stands = subst (λ d. Stands told b (with_made (inputs_of b (spoken_of b (run_at f fs) d Nothing) step) (spot (run_at f fs) step) (λ inputs. Plays (Runs w inputs (length fs + 1 + 1) (spot (run_at f fs) step)) (after_inner told b (run_at f fs) step after))) (continues told b (f ∷ fs)) g.past r) g.completed g.stands;
      }

  module _ (w : Json) where
    -- a step that calls an operation
    calls_operation : (c : Call) (e : Endpoint) (given : List Given) (body : Option Body) → Operation e given body ≡ calls_by b w step c → Goes told b (f ∷ fs) done sends r (λ seen. attempt_by c told b (run_at f fs) step seen after)
        → Goes told b (f ∷ fs) done sends r (sending request_at)
    calls_operation (call.Id source id) e given body is g = sends_one g
    calls_operation (call.At source pointer) e given body is g = sends_one g
    calls_operation (call.Flow id) e given body is g = absurd (cc)

    operation_is : (c : Call) (e : Endpoint) (given : List Given) (body : Option Body) → Operation e given body ≡ calls_by b w step c → (e ≡ endpoint_of b step) × ((given ≡ given_to b (Some w) step) × (body ≡ body_of step))
    operation_is (call.Id source id) e given body is = (cc, (cc, cc))
    operation_is (call.At source pointer) e given body is = (cc, (cc, cc))
    operation_is (call.Flow id) e given body is = absurd (cc)

    -- a step that calls a workflow
    calls_workflow : (c : Call) (id : List ℕ) (given : List Given) → Workflow id given ≡ calls_by b w step c → Goes told b (f ∷ fs) done sends r (λ seen. attempt_by c told b (run_at f fs) step seen after)
        → Goes told b (f ∷ fs) done sends r (making id inputs_at)
    calls_workflow (call.Id source id') id given is g = absurd (cc)
    calls_workflow (call.At source pointer) id given is g = absurd (cc)
    calls_workflow (call.Flow id') id given is g = let same : id' ≡ id = cc in subst (λ x. Goes told b (f ∷ fs) done sends r (making x inputs_at)) same (makes_one id' g)

    workflow_is : (c : Call) (id : List ℕ) (given : List Given) → Workflow id given ≡ calls_by b w step c → given ≡ parameters_of b step
    workflow_is (call.Id source id') id given is = absurd (cc)
    workflow_is (call.At source pointer) id given is = absurd (cc)
    workflow_is (call.Flow id') id given is = cc

  -- the request is to be sent, or as many were sent as may be, or it can't be made
  pub sends_next : (made : Made Request) (q : Request) → made ≡ Ok q → (sends == b.max_attempts) ≡ false → Goes told b (f ∷ fs) done sends r (sending made) → IsSending told b (f ∷ fs) done sends q i next r
  sends_next made q e left g =
      record {
        frame = f;
        below = fs;
        runs = refl;
        step = step;
        there = there;
        goes = subst (λ k. Goes told b (f ∷ fs) done sends r (λ seen. if k then Stops (Budget b.max_attempts) else Sends q (after_reply told b (run_at f fs) step q after))) left (subst (λ m. Goes told b (f ∷ fs) done sends r (sending m)) e g);
      }

  pub sends_no_more : (made : Made Request) (q : Request) → made ≡ Ok q → (sends == b.max_attempts) ≡ true → Goes told b (f ∷ fs) done sends r (sending made) → IsOver told b (EndBudget b.max_attempts) r
  sends_no_more made q e spent g =
      stops_over told b (f ∷ fs) done sends r (Budget b.max_attempts) (EndBudget b.max_attempts) (λ s. refl) refl
      (subst (λ k. Goes told b (f ∷ fs) done sends r (λ seen. if k then Stops (Budget b.max_attempts) else Sends q (after_reply told b (run_at f fs) step q after))) spent (subst (λ m. Goes told b (f ∷ fs) done sends r (sending m)) e g))

  pub stuck_at : (made : Made Request) (cause : Cause) → made ≡ Err cause → Goes told b (f ∷ fs) done sends r (sending made) → IsOver told b (EndStuck cause (spot (run_at f fs) step)) r
  stuck_at made cause e g = stops_over told b (f ∷ fs) done sends r (Stuck cause (spot (run_at f fs) step)) (EndStuck cause (spot (run_at f fs) step)) (λ s. refl) refl (subst (λ m. Goes told b (f ∷ fs) done sends r (sending m)) e g)

  -- a run is made, or its inputs can't be
  pub makes_next : (w : List ℕ) (made : Made (List Member)) (inputs : List Member) → made ≡ Ok inputs → Goes told b (f ∷ fs) done sends r (making w made) → Goes told b (f ∷ fs) done sends r (opening told b (f ∷ fs) w inputs (spot (run_at f fs) step) (Attempt i next))
  makes_next w made inputs e g =
      let deep : length fs + 1 + 1 ≡ length (f ∷ fs) + 1 = omega arith in
      let here = subst (λ m. Goes told b (f ∷ fs) done sends r (making w m)) e g in
      let deeper = subst (λ d. Goes told b (f ∷ fs) done sends r (λ seen. Plays (Runs w inputs d (spot (run_at f fs) step)) (after_inner told b (run_at f fs) step after))) deep here in
      subst (λ o. Goes told b (f ∷ fs) done sends r (λ seen. Plays (Runs w inputs (length (f ∷ fs) + 1) (spot (run_at f fs) step)) (after_made told b (run_at f fs) i next o))) (sym there) deeper

  pub stuck_inputs : (w : List ℕ) (made : Made (List Member)) (cause : Cause) → made ≡ Err cause → Goes told b (f ∷ fs) done sends r (making w made) → IsOver told b (EndStuck cause (spot (run_at f fs) step)) r
  stuck_inputs w made cause e g = stops_over told b (f ∷ fs) done sends r (Stuck cause (spot (run_at f fs) step)) (EndStuck cause (spot (run_at f fs) step)) (λ s. refl) refl (subst (λ m. Goes told b (f ∷ fs) done sends r (making w m)) e g)

-- ---- the step that is looked at is attempted

module _ (told : Patterned) (b : Bundle) (fs : List Frame) (done : List Completion) (sends : ℕ) (r : List Answer) (i : ℕ) (next : Then) (l : Look) (p : Planned) (top : IsOnTop b fs done i l p) where
  abbrev run : Run
  run = run_at top.frame top.below

  found_at : step_at b top.frame.workflow i ≡ Some p.step.now
  found_at = sym (ap (λ x. step_at x l.frame.now.workflow i) top.bundle ∙ ap (λ x. step_at b x.workflow i) top.run) ∙ top.step.0

  read_at : IsStep b top.frame.workflow p
  read_at = subst (λ x. IsStep b x p) (ap (λ x. x.workflow) top.run) (subst (λ x. IsStep x l.frame.now.workflow p) top.bundle top.step.1)

  entered : Goes told b fs done sends r (attempt_in told b fs i next) → Goes told b (top.frame ∷ top.below) done sends r (attempting told b run i p.step.now next)
  entered g = stepped told b top.frame top.below done sends r i next p.step.now found_at (subst (λ x. Goes told b x done sends r (attempt_in told b x i next)) top.runs g)

  same_words : speaks (scene l) Nothing ≡ spoken_of b run done Nothing
  same_words =
      ap (λ x. spoken_of x (run_in l) (scene l).done Nothing) top.bundle
      ∙ ap (λ x. spoken_of b x (scene l).done Nothing) top.run
      ∙ ap (λ x. spoken_of b run x Nothing) top.done_are

  spot_same : spot (run_in l) p.step.now ≡ spot run p.step.now
  spot_same = ap (λ x. spot x p.step.now) top.run

  module _ (e : Endpoint) (params : List Given) (body shown : Option Body) (is : p.calls ≡ Operation e params body) (same : shown ≡ body) where
    by_operation : Operation e params body ≡ calls_by b read_at.workflow p.step.now (call_of p.step.now)
    by_operation = sym is ∙ read_at.planned.calls

    asks_same : request (speaks (scene l) Nothing) e.operation e.server params shown ≡ request_of b (spoken_of b run done Nothing) (workflow_named top.frame.workflow b.arazzo) p.step.now
    asks_same =
        let words = spoken_of b run done Nothing in
        let o = operation_is told b top.frame top.below done sends r i next p.step.now found_at read_at.workflow (call_of p.step.now) e params body by_operation in
        ap (λ x. request x e.operation e.server params shown) same_words
        ∙ ap (λ x. request words e.operation e.server params x) (same ∙ o.1.1)
        ∙ ap (λ x. request words e.operation e.server x (body_of p.step.now)) o.1.0
        ∙ ap (λ x. request words x.operation x.server (given_to b (Some read_at.workflow) p.step.now) (body_of p.step.now)) o.0
        ∙ ap (λ x. request_of b words x p.step.now) (sym read_at.named)

    to_send : Goes told b fs done sends r (attempt_in told b fs i next) → Goes told b (top.frame ∷ top.below) done sends r (sending told b top.frame top.below done sends r i next p.step.now found_at (request (speaks (scene l) Nothing) e.operation e.server params shown))
    to_send g =
        subst (λ m. Goes told b (top.frame ∷ top.below) done sends r (sending told b top.frame top.below done sends r i next p.step.now found_at m)) (sym asks_same)
        (calls_operation told b top.frame top.below done sends r i next p.step.now found_at read_at.workflow (call_of p.step.now) e params body by_operation (entered g))

    pub sends_it : (q : Request) → request (speaks (scene l) Nothing) e.operation e.server params shown ≡ Ok q → (sends ≡ b.max_attempts → ⊥) → Goes told b fs done sends r (attempt_in told b fs i next) → IsSending told b fs done sends q i next r
    sends_it q made left g =
        subst (λ x. IsSending told b x done sends q i next r) (sym top.runs)
        (sends_next told b top.frame top.below done sends r i next p.step.now found_at _ q made (other_number sends b.max_attempts left) (to_send g))

    pub spends_it : (q : Request) → request (speaks (scene l) Nothing) e.operation e.server params shown ≡ Ok q → sends ≡ b.max_attempts → Goes told b fs done sends r (attempt_in told b fs i next) → IsOver told b (EndBudget sends) r
    spends_it q made spent g =
        subst (λ n. IsOver told b (EndBudget n) r) (sym spent)
        (sends_no_more told b top.frame top.below done sends r i next p.step.now found_at _ q made (same_number sends b.max_attempts spent) (to_send g))

    pub stuck_request : (fault : BuildFault) (cause : Cause) → fault ≡ Fault cause → Fails (told_of fault) (request (speaks (scene l) Nothing) e.operation e.server params shown) → Goes told b fs done sends r (attempt_in told b fs i next)
        → IsOver told b (EndStuck cause (spot (run_in l) p.step.now)) r
    stuck_request fault cause f fails g =
        subst (λ x. IsOver told b (EndStuck cause x) r) (sym spot_same)
        (stuck_at told b top.frame top.below done sends r i next p.step.now found_at _ cause (subst (λ x. Fails (told_of x) (request (speaks (scene l) Nothing) e.operation e.server params shown)) f fails) (to_send g))

  module _ (id : List ℕ) (params : List Given) (is : p.calls ≡ Workflow id params) where
    by_workflow : Workflow id params ≡ calls_by b read_at.workflow p.step.now (call_of p.step.now)
    by_workflow = sym is ∙ read_at.planned.calls

    inputs_same : inputs_by (speaks (scene l) Nothing) params ≡ inputs_of b (spoken_of b run done Nothing) p.step.now
    inputs_same =
        ap (λ x. inputs_by x params) same_words
        ∙ ap (λ x. inputs_by (spoken_of b run done Nothing) x) (workflow_is told b top.frame top.below done sends r i next p.step.now found_at read_at.workflow (call_of p.step.now) id params by_workflow)

    to_make : Goes told b fs done sends r (attempt_in told b fs i next) → Goes told b (top.frame ∷ top.below) done sends r (making told b top.frame top.below done sends r i next p.step.now found_at id (inputs_by (speaks (scene l) Nothing) params))
    to_make g =
        subst (λ m. Goes told b (top.frame ∷ top.below) done sends r (making told b top.frame top.below done sends r i next p.step.now found_at id m)) (sym inputs_same)
        (calls_workflow told b top.frame top.below done sends r i next p.step.now found_at read_at.workflow (call_of p.step.now) id params by_workflow (entered g))

    pub makes_it : (w : List ℕ) (inputs : List Member) (from : Spot) → w ≡ id → inputs_by (speaks (scene l) Nothing) params ≡ Ok inputs → from ≡ spot (run_in l) p.step.now → Goes told b fs done sends r (attempt_in told b fs i next)
        → Goes told b fs done sends r (opening told b fs w inputs from (Attempt i next))
    makes_it w inputs from named made placed g =
        subst (λ x. Goes told b x done sends r (opening told b x w inputs from (Attempt i next))) (sym top.runs)
        (subst (λ x. Goes told b (top.frame ∷ top.below) done sends r (opening told b (top.frame ∷ top.below) w inputs x (Attempt i next))) (sym (placed ∙ spot_same))
        (subst (λ x. Goes told b (top.frame ∷ top.below) done sends r (opening told b (top.frame ∷ top.below) x inputs (spot run p.step.now) (Attempt i next))) (sym named)
        (makes_next told b top.frame top.below done sends r i next p.step.now found_at id _ inputs made (to_make g))))

    pub stuck_making : (fault : BuildFault) (cause : Cause) → fault ≡ Fault cause → Fails (told_of fault) (inputs_by (speaks (scene l) Nothing) params) → Goes told b fs done sends r (attempt_in told b fs i next)
        → IsOver told b (EndStuck cause (spot (run_in l) p.step.now)) r
    stuck_making fault cause f fails g =
        subst (λ x. IsOver told b (EndStuck cause x) r) (sym spot_same)
        (stuck_inputs told b top.frame top.below done sends r i next p.step.now found_at id _ cause (subst (λ x. Fails (told_of x) (inputs_by (speaks (scene l) Nothing) params)) f fails) (to_make g))

-- no step is there
pub absent_ends : (told : Patterned) (b : Bundle) (fs : List Frame) (done : List Completion) (sends : ℕ) (r : List Answer) (i : ℕ) (next : Then) (e : End) → IsSound b → IsAbsent b fs i → lacks_answer e ≡ false → Goes told b fs done sends r (attempt_in told b fs i next) → IsOver told b e r
absent_ends told b fs done sends r i next e sound absent settled g =
    no_step told b sound fs done sends r e settled
    (record { past = g.past; completed = g.completed; counted = g.counted; stands = subst (λ c. Stands told b c (continues told b fs) g.past r) (absent told next (seen_of g.past)) g.stands })

-- ---- the innermost run

abbrev pub with_own : Option Fact → Frame → Frame
with_own None f = f
with_own (Some fact) f = record f { facts = with_fact fact f.facts }

top_is : (fact : Option Fact) (f : Frame) (fs : List Frame) → with_top fact (f ∷ fs) ≡ with_own fact f ∷ fs
top_is None f fs = refl
top_is (Some x) f fs = refl

top_length : (fact : Option Fact) (fs : List Frame) → length (with_top fact fs) ≡ length fs
top_length None fs = refl
top_length (Some x) [] = refl
top_length (Some x) (f ∷ fs) = refl

abbrev shape : Frame → ℕ → Option Fact → Run
shape f d x = record { workflow = f.workflow; inputs = f.inputs; depth = d; facts = facts_after x f.facts }

shape_is : (fact : Option Fact) (f : Frame) (below : List Frame) → shape f (length below + 1) fact ≡ run_at (with_own fact f) below
shape_is None f below = refl
shape_is (Some x) f below = refl

own_workflow : (fact : Option Fact) (f : Frame) → (with_own fact f).workflow ≡ f.workflow
own_workflow None f = refl
own_workflow (Some x) f = refl

module _ (b : Bundle) (fs below : List Frame) (frame : Frame) (fact : Option Fact) (runs : fs ≡ with_own fact frame ∷ below) (i : ℕ) where
  pub on_top : (depth : ℕ) (done : List Completion) (l : Look) (p : Planned) → depth ≡ length below + 1 → IsLookedAt b frame depth fact done i l p → IsOnTop b fs done i l p
  on_top depth done l p deep at =
      record {
        frame = with_own fact frame;
        below = below;
        runs = runs;
        bundle = at.bundle;
        run =
            ap (λ x. shape x l.depth (option_copied l.fact)) at.frame_is
            ∙ ap (λ x. shape frame x (option_copied l.fact)) (at.depth_is ∙ deep)
            ∙ ap (λ x. shape frame (length below + 1) x) at.fact_is
            ∙ shape_is fact frame below;
        done_are = at.done_are;
        step = at.step;
      }

  pub not_there : step_at b frame.workflow i ≡ None → IsAbsent b fs i
  not_there absent = λ told next seen.
      subst (λ x. attempt_in told b x i next seen ≡ Stops NoStep) (sym runs)
      (ap (λ o. with_step o (λ step. attempting told b (run_at (with_own fact frame) below) i step next seen)) (ap (λ w. step_at b w i) (own_workflow fact frame) ∙ absent))

pub none_there : (b : Bundle) (fs : List Frame) (i : ℕ) → fs ≡ [] → IsAbsent b fs i
none_there b fs i none = λ told next seen. ap (λ x. attempt_in told b x i next seen) none

pub some_more : {A : Type 0} (P Q : A → Type 0) (o : Option A) → ((x : A) → P x → Q x) → IfSome o P → IfSome o Q
some_more P Q (Some x) f h = f x h
some_more P Q None f h = tt

pub none_more : {A : Type 0} (P Q : Type 0) (o : Option A) → (P → Q) → IfNone o P → IfNone o Q
none_more P Q (Some x) f h = tt
none_more P Q None f h = f h

-- the run that was made last
pub made_last : (made rest : List Frame) (f : Frame) (others : List Frame) → IsLastAndRest made f rest → reverse made ++ others ≡ f ∷ (reverse rest ++ others)
made_last made rest f others is = ap (λ x. x ++ others) (one_open made f rest is)

-- none was made: the run that was open before
pub open_last : (made frames rest : List Frame) (f : Frame) (fact : Option Fact) → length made ≡ 0 → IsLastAndRest frames f rest → reverse made ++ with_top fact (reverse frames) ≡ with_own fact f ∷ reverse rest
open_last made frames rest f fact none is =
    ap (λ x. x ++ with_top fact (reverse frames)) (none_open made none) ∙ ap (with_top fact) (one_open frames f rest is) ∙ top_is fact f (reverse rest)

pub none_last : (made frames : List Frame) (fact : Option Fact) → length made ≡ 0 → length frames ≡ 0 → reverse made ++ with_top fact (reverse frames) ≡ []
none_last made frames fact none closed = ap (λ x. x ++ with_top fact (reverse frames)) (none_open made none) ∙ none_on_top fact (reverse frames) (none_open frames closed)

pub made_depth : (made frames rest : List Frame) (f : Frame) (fact : Option Fact) → IsLastAndRest made f rest → length frames + length made ≡ length (reverse rest ++ with_top fact (reverse frames)) + 1
made_depth made frames rest f fact is = omega (arith, length-append (reverse rest) (with_top fact (reverse frames)), top_length fact (reverse frames), length-reverse frames, length-reverse rest, is.1)

pub open_depth : (made frames rest : List Frame) (f : Frame) → length made ≡ 0 → IsLastAndRest frames f rest → length frames + length made ≡ length (reverse rest) + 1
open_depth made frames rest f none is = omega (arith, length-reverse rest, is.1, none)

pub open_length : (made frames : List Frame) (fact : Option Fact) → length (reverse made ++ with_top fact (reverse frames)) ≡ length frames + length made
open_length made frames fact = omega (arith, length-append (reverse made) (with_top fact (reverse frames)), top_length fact (reverse frames), length-reverse frames, length-reverse made)

-- ---- one turn more

pub weight_most : (goal : ToDo) → weight goal ≤ 2
weight_most (GoAttempt i next) = omega arith
weight_most (GoOpen o) = omega arith
weight_most (GoOver e) = omega arith
weight_most (GoRest s) = omega arith

pub shallow_opened : (frame : Frame) (o : Opening) → frame ≡ record { workflow = o.workflow; inputs = o.inputs; facts = []; purpose = o.purpose } → AreShallow o.inputs → IsShallowFrame frame
shallow_opened frame o is all = subst IsShallowFrame (sym is) (all, All-nil (λ f. AreShallow f.outputs))

pub more_shallow : (made newer : List Frame) (frame : Frame) → newer ≡ made ++ frame ∷ [] → All IsShallowFrame made → IsShallowFrame frame → All IsShallowFrame newer
more_shallow made newer frame pushed all here = subst (All IsShallowFrame) (sym pushed) (All-append IsShallowFrame made (frame ∷ []) all (All-cons IsShallowFrame frame [] here (All-nil IsShallowFrame)))

module _ (told : Patterned) (b : Bundle) (made frames : List Frame) (fact : Option Fact) (done : List Completion) (sends : ℕ) (r : List Answer) (o : Opening) (goal : ToDo) (is : goal ≡ GoOpen o) where
  abbrev open_ones : List Frame
  open_ones = reverse made ++ with_top fact (reverse frames)

  opens_so : Lands told b open_ones done sends r goal → Goes told b open_ones done sends r (opening told b open_ones o.workflow o.inputs o.at o.purpose)
  opens_so lands = subst (λ x. Lands told b open_ones done sends r x) is lands

  pub ends_deep : length frames + length made ≡ deepest → Lands told b open_ones done sends r goal → IsOver told b (EndTooDeep o.at) r
  ends_deep full lands = too_deep told b open_ones done sends r o.workflow o.inputs o.at o.purpose (open_length made frames fact ∙ full) (opens_so lands)

  pub opens_next : (newer : List Frame) (frame : Frame) (next : ToDo) → newer ≡ made ++ frame ∷ [] → frame ≡ record { workflow = o.workflow; inputs = o.inputs; facts = []; purpose = o.purpose } → length frames + length made < deepest
      → ((told' : Patterned) (below : List Frame) (sends' : ℕ) (r' : List Answer) → Goes told' b (frame ∷ below) done sends' r' (depends_from told' b frame below 0) → Lands told' b (frame ∷ below) done sends' r' next)
      → Lands told b open_ones done sends r goal → Lands told b (reverse newer ++ with_top fact (reverse frames)) done sends r next
  opens_next newer frame next pushed same room depends lands =
      let room' : length open_ones < deepest = omega (arith, open_length made frames fact, room) in
      let opened = opens told b open_ones done sends r o.workflow o.inputs [] o.at o.purpose room' refl (opens_so lands) in
      let here = subst (λ x. Goes told b (x ∷ open_ones) done sends r (depends_from told b x open_ones 0)) (sym same) opened in
      let runs : frame ∷ open_ones ≡ reverse newer ++ with_top fact (reverse frames) = sym (ap (λ x. reverse x ++ with_top fact (reverse frames)) pushed ∙ ap (λ x. x ++ with_top fact (reverse frames)) (reverse_last made frame)) in
      subst (λ x. Lands told b x done sends r next) runs (depends told open_ones sends r here)
