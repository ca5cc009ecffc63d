-- How a play goes on at a step, for worked plays.
use Rattle.std.proofs.Common.{◌≡◌, ℕ, suc, ◌+◌, ◌<◌, ◌==◌, List, [], ◌∷◌, refl, sym, subst, ap, Bool, true, false, Option, Some, None, codes, arith}
use Rattle.std.specs.Prelude.{slice_get}
use Rattle.std.proofs.lemmas.Bool.{ne_eqb}
use Rattle.arz_json.specs.declared.Json.{Json}
use Rattle.arz_json.specs.declared.Json.TheVariants.{Object}
use Rattle.arz_json.specs.Tree.{has_opaque, opaque_step}
use Rattle.arz_json.proofs.Layers.{folded-Object}
use Rattle.std.specs.declared.result.Result.TheVariants.{Ok}
use Rattle.arz_world.specs.declared.Reply.{Reply}
use Rattle.arz_world.specs.declared.Request.{Request}
use Rattle.arz_expr.specs.declared.syntax.Base.{Base}
use Rattle.arz_operation.specs.declared.types.Call.TheVariants as call
use Rattle.arz_description.specs.Calls.{call_of}
use Rattle.arz_description.specs.Parts.{act_of}
use Rattle.arz_path.specs.Outcome.{Outcome, given}
use Rattle.arz_flow.specs.declared.answers.Ask.TheVariants.{Send}
use Rattle.arz_flow.specs.declared.answers.Answer.TheVariants.{Reply as Replied}
use Rattle.arz_relation.specs.declared.ends.End.{End}
use Rattle.arz_relation.specs.declared.ends.End.TheVariants.{Completed, Broke}
use Rattle.arz_flow.specs.declared.bundle.Bundle.{Bundle}
use Rattle.arz_relation.specs.Documents.{members_at, steps_of, workflow_named, depends_of, criteria_of, actions_at, criteria_in, action_name}
use Rattle.arz_relation.specs.Play.{State, sends_in, Play, Out as Lacks, Gives, seen, then_play, after, turn, follow, play}
use Rattle.arz_relation.specs.Requests.{request_of}
use Rattle.arz_relation.specs.Retries.{is_used_up}
use Rattle.arz_scope.specs.Scopes.{Nothing, Exchange}
use Rattle.arz_relation.specs.Verdicts.{Patterned, is_success, verdict}
use Rattle.arz_scope.specs.declared.facts.Completion.{Completion}
use Rattle.arz_scope.specs.declared.facts.Fact.{Fact}
use Rattle.arz_relation.specs.declared.retries.Count.{Count}
use Rattle.arz_flow.specs.declared.answers.Answer.{Answer}
use Rattle.arz_relation.specs.Cases.{Run, Enters, Goes_on, spot, spoken_of, Tried, tried, result, acts, act_case, after_run, with_outcome, script}
use Rattle.arz_relation.proofs.Standing.{give_same}
use Rattle.arz_relation.specs.Executions.{start, end_of, end}
use Rattle.arz_relation.proofs.Executions.{end_whole}

-- where more requests may be sent than these, these aren't all
pub unspent : (sent n : ℕ) → sent < n → (sent == n) ≡ false
unspent sent n lt = ne_eqb sent n (λ e. omega (arith, lt, e))

-- no outputs hold no Opaque
empty_is_plain : has_opaque (Object []) ≡ false
empty_is_plain = folded-Object Bool opaque_step []

-- the end of a run without outputs
abbrev pub over : Bool → End
over true = Completed []
over false = Broke []

-- a step that calls an operation, and makes this request wherever it stands
pub record Sends_one (b : Bundle) (step : Json) (q : Request) : Type 0 where
  pub source : Option (List ℕ)
  pub id : List ℕ
  pub calls : call_of step ≡ call.Id source id
  pub made : (found : Base → Option Json) → request_of b found (workflow_named b.workflow b.arazzo) step ≡ Ok q

-- the workflow has these steps, depends on no other, and lists no outputs
pub record Has_steps (b : Bundle) (steps : List Json) : Type 0 where
  pub listed : steps_of b b.workflow ≡ steps
  pub alone : depends_of b b.workflow ≡ []
  pub workflow : Json
  pub named : workflow_named b.workflow b.arazzo ≡ Some workflow
  pub plain : members_at (codes "outputs") workflow ≡ []

module _ (told : Patterned) (b : Bundle) where
  -- the run of the workflow, with these facts
  abbrev pub run_with : List Fact → Run
  run_with facts = record { workflow = b.workflow; inputs = b.inputs; depth = 1; facts = facts }

  -- whether an attempt succeeded
  abbrev pub judges : (step : Json) → List Fact → List Completion → Request → Reply → Outcome Bool
  judges step facts done q y = verdict told (spoken_of b (run_with facts) done (Exchange q y)) (is_success y) (criteria_of step)

  module _ (steps : List Json) (has : Has_steps b steps) where
    -- the first step is entered
    pub ends_as : (r : List Answer) (n : ℕ) (p : Play) (e : End) → play (script told b) n (Enters (run_with []) 0 []) (turn (start r)) ≡ p → end_of b.workflow (then_play p (λ o t. follow (play (script told b) n) (after_run b.workflow b.inputs o (seen t)) t)) ≡ Some e → end told b r ≡ Some e
    unfolding script
    ends_as r n p e is h = end_whole told b r (suc n) e (rw has.alone (subst (λ x. end_of b.workflow (then_play x (λ o t. follow (play (script told b) n) (after_run b.workflow b.inputs o (seen t)) t)) ≡ Some e) (sym is) h))

    module _ (step : Json) (q : Request) (sends : Sends_one b step q) (i n : ℕ) (counts : List Count) (facts : List Fact) (s : State) (is : slice_get steps i ≡ Some step) (more : (sends_in s.asked == b.max_attempts) ≡ false) where
      -- the request of a step lacks a reply
      pub lacks : s.left ≡ [] → play (script told b) (suc n) (Enters (run_with facts) i counts) s ≡ Lacks (Send q) (turn s)
      unfolding script
      lacks none = rw (has.listed, is, sends.calls, sends.made (spoken_of b (run_with facts) s.done Nothing), more, none) refl

      -- it is replied to
      pub replies : (y : Reply) (ok : Bool) (left : List Answer) → s.left ≡ Replied y ∷ left → judges step facts s.done q y ≡ given ok →
          play (script told b) (suc n) (Enters (run_with facts) i counts) s ≡ follow (play (script told b) n) (acts told b i step counts (tried b (run_with facts) s.done step (Exchange q y) ok) (seen (after (Send q) left (turn s)))) (after (Send q) left (turn s))
      unfolding script
      replies y ok left are judged =
          rw (has.listed, is, sends.calls, sends.made (spoken_of b (run_with facts) s.done Nothing), more, are) (
          ap (λ o. let t = after (Send q) left (turn s) in follow (play (script told b) n) (with_outcome o (spot (run_with facts) step) (λ k. acts told b i step counts (tried b (run_with facts) s.done step (Exchange q y) k) (seen t))) t) judged)

    -- after the last step, or a failure, the run is over
    pub closes : (i n : ℕ) (ok : Bool) (facts : List Fact) (s : State) → slice_get steps (i + 1) ≡ None → play (script told b) (suc (suc n)) (Goes_on (run_with facts) i ok) s ≡ Gives (result ok []) (turn (turn s))
    unfolding script
    closes i n true facts s last = rw (has.listed, last, has.named, has.plain) refl
    closes i n false facts s last = rw (has.named, has.plain) refl

  -- and so is the execution
  pub ends : (n : ℕ) (ok : Bool) (t : State) → end_of b.workflow (then_play (Gives (result ok []) t) (λ o u. follow (play (script told b) n) (after_run b.workflow b.inputs o (seen u)) u)) ≡ Some (over ok)
  ends n true t = rw empty_is_plain refl
  ends n false t = rw empty_is_plain refl

  -- what follows an attempt: without actions no action is taken
  module _ (step : Json) (i n : ℕ) (counts : List Count) (t : Tried) (s : State) where
    pub acts_not : actions_at b t.run.workflow step t.ok ≡ [] → follow (play (script told b) n) (acts told b i step counts t (seen s)) s ≡ play (script told b) n (Goes_on t.run i t.ok) s
    acts_not none = rw none (give_same (play (script told b) n) _)

    -- the only one is taken
    pub takes : (a : Json) → actions_at b t.run.workflow step t.ok ≡ a ∷ [] → is_used_up counts a ≡ false → criteria_in a ≡ [] →
        follow (play (script told b) n) (acts told b i step counts t (seen s)) s ≡ play (script told b) n (act_case b i (spot t.run step) counts t (action_name a) (act_of a)) s
    takes a are left always = rw (are, left, always) (give_same (play (script told b) n) _)

    -- or it is a retry that is used up, and passed over
    pub passes : (a : Json) → actions_at b t.run.workflow step t.ok ≡ a ∷ [] → is_used_up counts a ≡ true → follow (play (script told b) n) (acts told b i step counts t (seen s)) s ≡ play (script told b) n (Goes_on t.run i t.ok) s
    passes a are used = rw (are, used) (give_same (play (script told b) n) _)
