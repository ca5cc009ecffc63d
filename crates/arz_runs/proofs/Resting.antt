-- What an execution comes to where it rests, and how it stands once it is answered.
use Rattle.std.proofs.Common.{◌≡◌, ℕ, ◌+◌, List, [], ◌∷◌, ◌++◌, Bool, true, false, Option, None, Some, refl, ap, sym, ◌∙◌, subst, arith}
use Rattle.arz_json.specs.declared.Json.{Json}
use Rattle.arz_world.specs.declared.Request.{Request}
use Rattle.arz_world.specs.declared.Reply.{Reply}
use Rattle.arz_description.specs.declared.parts.First.{First}
use Rattle.arz_scope.specs.declared.facts.Completion.{Completion}
use Rattle.arz_scope.specs.Scopes.{Exchange}
use Rattle.arz_flow.specs.declared.answers.Ask.{Ask}
use Rattle.arz_flow.specs.declared.answers.Ask.TheVariants.{Send, Wait}
use Rattle.arz_flow.specs.declared.answers.Answer.{Answer}
use Rattle.arz_flow.specs.declared.answers.Answer.TheVariants.{Reply as Replied, Served}
use Rattle.arz_flow.specs.declared.bundle.Bundle.{Bundle}
use Rattle.arz_relation.specs.declared.ends.End.{End}
use Rattle.arz_relation.specs.declared.ends.End.TheVariants as ends
use Rattle.arz_relation.specs.declared.retries.Count.{Count}
use Rattle.arz_relation.specs.Cases.{spot, judged, tries_again}
use Rattle.arz_relation.specs.Executions.{spot_of, end, end_of, TookAll, Fitting, IsTold}
use Rattle.arz_relation.specs.Play.{sends_in}
use Rattle.arz_relation.specs.Stands.{asked_more, nothing_yet}
use Rattle.arz_relation.specs.Verdicts.{Patterned, is_success}
use Rattle.arz_relation.proofs.Budget.{send_counts}
use Rattle.arz_relation.proofs.Standing.{reply_stands, served_stands, start_stands, sends_whole, waits_whole}
use Rattle.arz_runs.specs.declared.frames.Frame.{Frame}
use Rattle.arz_runs.specs.declared.frames.Purpose.TheVariants.{Execution}
use Rattle.arz_runs.specs.declared.frames.State.{State}
use Rattle.arz_runs.specs.declared.frames.State.TheVariants as state
use Rattle.arz_runs.specs.declared.frames.Then.{Then}
use Rattle.arz_runs.specs.Rests.{Goes, IsSending, IsWaiting, IsOver, Rests, rest_of, is_sending, is_waiting, lacks_answer, takes}
use Rattle.arz_runs.specs.Runs.{run_at, then_of, continues, opening}

-- an end that lacks no answer takes none
pub takes_none : (e : End) (a : Answer) → lacks_answer e ≡ false → takes (Some e) a ≡ false
takes_none (ends.Out q) a h = absurd cc
takes_none (ends.Completed outputs) a h = refl
takes_none (ends.Broke outputs) a h = refl
takes_none (ends.Stuck cause at) a h = refl
takes_none (ends.TooDeep at) a h = refl
takes_none (ends.Budget limit) a h = refl

-- a wait sends no request
wait_counts : (qs : List Ask) (n : ℕ) → sends_in (qs ++ Wait n ∷ []) ≡ sends_in qs
wait_counts [] n = refl
wait_counts (Send p ∷ qs) n = omega (arith, wait_counts qs n)
wait_counts (Wait m ∷ qs) n = wait_counts qs n

module _ (told : Patterned) (b : Bundle) where
  -- an execution that waits for a reply is out of answers there
  pub sending_out : (fs : List Frame) (done : List Completion) (sends : ℕ) (q : Request) (i : ℕ) (next : Then) (r : List Answer) → IsSending told b fs done sends q i next r → IsTold told b r
      → Fitting told b r × (end told b r ≡ Some (ends.Out (Send q)))
  sending_out fs done sends q i next r at t =
      let same = sends_whole told b q _ (continues told b fs) at.goes.past r at.goes.stands t in
      (subst TookAll (sym same) refl, ap (end_of b.workflow) same)

  -- likewise one that waits for seconds to pass
  pub waiting_out : (fs : List Frame) (done : List Completion) (sends : ℕ) (n i : ℕ) (counts : List Count) (before : First) (r : List Answer) → IsWaiting told b fs done sends n i counts before r → IsTold told b r
      → Fitting told b r × (end told b r ≡ Some (ends.Out (Wait n)))
  waiting_out fs done sends n i counts before r at t =
      let same = waits_whole told b n _ (continues told b fs) at.goes.past r at.goes.stands t in
      (subst TookAll (sym same) refl, ap (end_of b.workflow) same)

  -- all answers so far were taken
  pub rests_fitting : (fs : List Frame) (done : List Completion) (sends : ℕ) (s : State) (r : List Answer) → Rests told b fs done sends s r → IsTold told b r → Fitting told b r
  rests_fitting fs done sends (state.Sends q i next) r at t = (sending_out fs done sends q i next r at t).0
  rests_fitting fs done sends (state.Waits n i counts before) r at t = (waiting_out fs done sends n i counts before r at t).0
  rests_fitting fs done sends (state.Ended e) r over t = over.fitting t

  -- a reply is taken exactly where one is waited for
  pub takes_reply : (fs : List Frame) (done : List Completion) (sends : ℕ) (s : State) (r : List Answer) (y : Reply) → Rests told b fs done sends s r → IsTold told b r
      → takes (end told b r) (Replied y) ≡ is_sending (rest_of s)
  takes_reply fs done sends (state.Sends q i next) r y at t = ap (λ x. takes x (Replied y)) (sending_out fs done sends q i next r at t).1
  takes_reply fs done sends (state.Waits n i counts before) r y at t = ap (λ x. takes x (Replied y)) (waiting_out fs done sends n i counts before r at t).1
  takes_reply fs done sends (state.Ended e) r y over t = ap (λ x. takes x (Replied y)) (over.end t) ∙ takes_none e (Replied y) over.settled

  -- it is told that seconds have passed exactly where they are waited for
  pub takes_served : (fs : List Frame) (done : List Completion) (sends : ℕ) (s : State) (r : List Answer) → Rests told b fs done sends s r → IsTold told b r
      → takes (end told b r) Served ≡ is_waiting (rest_of s)
  takes_served fs done sends (state.Sends q i next) r at t = ap (λ x. takes x Served) (sending_out fs done sends q i next r at t).1
  takes_served fs done sends (state.Waits n i counts before) r at t = ap (λ x. takes x Served) (waiting_out fs done sends n i counts before r at t).1
  takes_served fs done sends (state.Ended e) r over t = ap (λ x. takes x Served) (over.end t) ∙ takes_none e Served over.settled

  -- ---- once it is answered

  -- the reply came: one request more was sent, and the attempt is judged
  pub replied : (fs : List Frame) (done : List Completion) (sends : ℕ) (q : Request) (i : ℕ) (next : Then) (r : List Answer) (y : Reply) (at : IsSending told b fs done sends q i next r)
      → Goes told b fs done (sends + 1) (r ++ Replied y ∷ []) (judged told b (run_at at.frame at.below) at.step (Exchange q y) (is_success y) (then_of told b i at.step next))
  replied fs done sends q i next r y at = record {
    past = asked_more at.goes.past (Send q);
    completed = at.goes.completed;
    counted = omega (arith, send_counts at.goes.past.asked q, at.goes.counted);
    stands = reply_stands told b q y _ (continues told b fs) at.goes.past r at.goes.stands;
  }

  -- the seconds have passed: the step is tried again
  pub served : (fs : List Frame) (done : List Completion) (sends : ℕ) (n i : ℕ) (counts : List Count) (before : First) (r : List Answer) (at : IsWaiting told b fs done sends n i counts before r)
      → Goes told b fs done sends (r ++ Served ∷ []) (tries_again told b (run_at at.frame at.below) i (spot (run_at at.frame at.below) at.step) counts before)
  served fs done sends n i counts before r at = record {
    past = asked_more at.goes.past (Wait n);
    completed = at.goes.completed;
    counted = wait_counts at.goes.past.asked n ∙ at.goes.counted;
    stands = served_stands told b n _ (continues told b fs) at.goes.past r at.goes.stands;
  }

  -- before any answer the starting workflow is run
  pub started : Goes told b [] [] 0 [] (opening told b [] b.workflow b.inputs (spot_of b.workflow) Execution)
  started = record { past = nothing_yet; completed = refl; counted = refl; stands = start_stands told b }
