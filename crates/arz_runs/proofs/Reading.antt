-- Workflows and their steps, as they are read.
use Rattle.std.proofs.Common.{◌≡◌, ℕ, ◌+◌, ◌-◌, ◌<◌, ◌≤◌, ◌||◌, ◌++◌, List, [], ◌∷◌, All, map, length, get_or, take, drop, codes, Bool, true, false, cond, Option, Some, None, unwrap_or, refl, sym, ap, ap₂, subst, ◌∙◌, arith}
use Rattle.std.specs.Prelude.{suc, find}
use Rattle.std.specs.Option.{is_some}
use Rattle.std.specs.Str.{bytes_eq}
use Rattle.std.specs.Borrow.{Bor}
use Rattle.std.specs.BTreeMap.{BTreeMap, get_by}
use Rattle.std.specs.Cmp.Lexicographic.{slice_cmp}
use Rattle.std.specs.Ordering.{nat_cmp}
use Rattle.std.proofs.lemmas.List.{map_push, take_more, length-map}
use Rattle.std.proofs.lemmas.List.Elements.{All-get_or, All-push}
use Rattle.arz_json.specs.declared.Json.{Json}
use Rattle.arz_components.specs.Described.{Components}
use Rattle.arz_components.specs.Texts.{text_named}
use Rattle.arz_components.proofs.Lists.{rest_of}
use Rattle.arz_openapi.specs.Targets.{Targets}
use Rattle.arz_operation.specs.declared.types.Call.{Call}
use Rattle.arz_description.specs.Calls.{call_of, call_by, named_in, placed_in, source_and_id, source_and_pointer}
use Rattle.arz_description.specs.Requests.{givens_of}
use Rattle.arz_relation.specs.Documents.{text_at, is_workflow, step_id, steps_under, index_of}
use Rattle.arz_runs.specs.Planned.{index_in, steps_in_plan}
use Rattle.arz_runs.specs.Reading.{is_operation, operation_as, calls_as, IsReadStep, IsReadFlow, IsReadIf, AreRead}
use Rattle.arz_runs.specs.declared.plans.Calls.{Calls}
use Rattle.arz_runs.specs.declared.plans.Calls.TheVariants.{Workflow}
use Rattle.arz_runs.specs.declared.plans.Planned.{Planned}
use Rattle.arz_runs.specs.declared.plans.Plan.{Plan}

-- ---- what a step calls

module _ (component : Components) (targets : Targets) (w step : Json) where
  abbrev meaning : Call → Calls
  meaning c = calls_as component targets w step c

  named : (text : List ℕ) (o : Option (List ℕ × List ℕ)) → meaning (named_in text o) ≡ operation_as component targets w step
  named text None = refl
  named text (Some p) = refl

  placed : (text : List ℕ) (o : Option (List ℕ × List ℕ)) → meaning (placed_in text o) ≡ operation_as component targets w step
  placed text None = refl
  placed text (Some p) = refl

  by_names : (id path : Option (List ℕ)) (flow : List ℕ) → (is_some id || is_some path) ≡ true → meaning (call_by id path flow) ≡ operation_as component targets w step
  by_names (Some id) path flow h = named id (source_and_id id)
  by_names None (Some path) flow h = placed path (source_and_pointer path)
  by_names None None flow h = absurd cc

  by_none : (id path : Option (List ℕ)) (flow : List ℕ) → (is_some id || is_some path) ≡ false → meaning (call_by id path flow) ≡ Workflow flow (givens_of component step)
  by_none (Some id) path flow h = absurd cc
  by_none None (Some path) flow h = absurd cc
  by_none None None flow h = refl

  pub operation_called : is_operation step ≡ true → operation_as component targets w step ≡ calls_as component targets w step (call_of step)
  operation_called h = sym (by_names (text_named (codes "operationId") step) (text_named (codes "operationPath") step) (text_at (codes "workflowId") step) h)

  pub workflow_called : is_operation step ≡ false → Workflow (text_at (codes "workflowId") step) (givens_of component step) ≡ calls_as component targets w step (call_of step)
  workflow_called h = sym (by_none (text_named (codes "operationId") step) (text_named (codes "operationPath") step) (text_at (codes "workflowId") step) h)

-- ---- the index of a stepId

index_one : (b : Bool) (k n : ℕ) (o : Option ℕ) (rest : ℕ) → 0 < k → unwrap_or o n ≡ k + rest → unwrap_or (cond b (Some (k - 1)) o) n ≡ (k - 1) + cond b 0 (suc rest)
index_one true k n o rest some h = omega arith
index_one false k n o rest some h = omega (arith, h)

pub index_step : (old new : BTreeMap (Bor (List ℕ)) ℕ) (steps : List Json) (k : ℕ) (step : Json) (name : List ℕ) (v : ℕ)
    → ((q : List ℕ) → get_by (λ k. slice_cmp nat_cmp q k.now) new ≡ cond (bytes_eq name q) (Some v) (get_by (λ k. slice_cmp nat_cmp q k.now) old))
    → name ≡ step_id step → v ≡ k - 1
    → 0 < k → k ≤ length steps → step ≡ get_or steps (k - 1) step
    → ((q : List ℕ) → index_in old (length steps) q ≡ k + index_of q (drop k steps))
    → (q : List ℕ) → index_in new (length steps) q ≡ (k - 1) + index_of q (drop (k - 1) steps)
index_step old new steps k step name v after same value some fits is before q =
    let h : k - 1 < length steps = omega arith in
    let e : k - 1 + 1 ≡ k = omega arith in
    let seen = get_by (λ k. slice_cmp nat_cmp q k.now) old in
    let rest = index_of q (drop k steps) in
    ap (λ o. unwrap_or o (length steps)) (after q)
    ∙ ap (λ (s : List ℕ). unwrap_or (cond (bytes_eq s q) (Some v) seen) (length steps)) same
    ∙ ap (λ (x : ℕ). unwrap_or (cond (bytes_eq (step_id step) q) (Some x) seen) (length steps)) value
    ∙ index_one (bytes_eq (step_id step) q) k (length steps) seen rest some (before q)
    ∙ ap (λ (i : ℕ). (k - 1) + cond (bytes_eq (step_id step) q) 0 (suc (index_of q (drop i steps)))) (sym e)
    ∙ sym (ap (λ (more : List Json). (k - 1) + index_of q more) (rest_of steps (k - 1) step h is))

-- ---- the workflows by their workflowIds

module _ (component : Components) (targets : Targets) where
  put : (b : Bool) (w : Json) (v : Plan) (o : Option Json) (p : Option Plan) → IsReadFlow component targets w v → IsReadIf component targets o p
      → IsReadIf component targets (cond b (Some w) o) (cond b (Some v) p)
  put true w v o p read before = read
  put false w v o p read before = before

  pub plan_step : (old new : BTreeMap (Bor (List ℕ)) Plan) (ws : List Json) (k : ℕ) (w : Json) (name : List ℕ) (v : Plan)
      → ((q : List ℕ) → get_by (λ k. slice_cmp nat_cmp q k.now) new ≡ cond (bytes_eq name q) (Some v) (get_by (λ k. slice_cmp nat_cmp q k.now) old))
      → name ≡ text_at (codes "workflowId") w → IsReadFlow component targets w v
      → 0 < k → k ≤ length ws → w ≡ get_or ws (k - 1) w
      → AreRead component targets (drop k ws) old
      → AreRead component targets (drop (k - 1) ws) new
  plan_step old new ws k w name v after same read some fits is before q =
      let h : k - 1 < length ws = omega arith in
      let e : k - 1 + 1 ≡ k = omega arith in
      let parts : find (is_workflow q) (drop (k - 1) ws) ≡ cond (is_workflow q w) (Some w) (find (is_workflow q) (drop k ws)) =
      ap (find (is_workflow q)) (rest_of ws (k - 1) w h is) ∙ ap (λ (i : ℕ). cond (is_workflow q w) (Some w) (find (is_workflow q) (drop i ws))) e in
      let held : get_by (λ k. slice_cmp nat_cmp q k.now) new ≡ cond (is_workflow q w) (Some v) (get_by (λ k. slice_cmp nat_cmp q k.now) old) =
      after q ∙ ap (λ (s : List ℕ). cond (bytes_eq s q) (Some v) (get_by (λ k. slice_cmp nat_cmp q k.now) old)) same in
      subst (λ (o : Option Json). IsReadIf component targets o (get_by (λ k. slice_cmp nat_cmp q k.now) new)) (sym parts)
      (subst (λ (o : Option Plan). IsReadIf component targets (cond (is_workflow q w) (Some w) (find (is_workflow q) (drop k ws))) o) (sym held)
      (put (is_workflow q w) w v _ _ read (before q)))

-- ---- the steps of a workflow

pub taken : {X : Type 0} (P : X → Type 0) (xs : List X) (i : ℕ) (x : X) → All P xs → i < length xs → x ≡ get_or xs i x → P x
taken P xs i x all lt is = subst P (sym is) (All-get_or P xs i x lt all)

module _ (component : Components) (targets : Targets) where
  -- one step more
  pub step_taken : (old new : List Planned) (p : Planned) (steps : List Json) (i : ℕ) (step : Json) → new ≡ old ++ p ∷ [] → p.step.now ≡ step → i < length steps → step ≡ get_or steps i step
      → map (λ p. p.step.now) old ≡ take i steps → map (λ p. p.step.now) new ≡ take (i + 1) steps
  step_taken old new p steps i step pushed named lt is before =
      ap (map (λ p. p.step.now)) pushed
      ∙ map_push (λ p. p.step.now) old p
      ∙ ap₂ (λ (xs : List Json) (x : Json). xs ++ x ∷ []) before (named ∙ is)
      ∙ sym (take_more steps i step lt)

  pub step_read : (w : Json) (old new : List Planned) (p : Planned) → new ≡ old ++ p ∷ [] → IsReadStep component targets w p
      → All (IsReadStep component targets w) old → All (IsReadStep component targets w) new
  step_read w old new p pushed read before = subst (All (IsReadStep component targets w)) (sym pushed) (All-push (IsReadStep component targets w) old p before read)

  pub flow_read : (w : Bor Json) (of : Json) (ps : List Planned) (listed : List Json) (p : Plan) → p.workflow ≡ w → p.steps.items ≡ ps → of ≡ w.now
      → listed ≡ steps_under w.now
      → map (λ p. p.step.now) ps ≡ listed
      → All (IsReadStep component targets of) ps
      → ((q : List ℕ) → index_in p.indexes (length listed) q ≡ index_of q listed)
      → IsReadFlow component targets w.now p
  flow_read w of ps listed p held kept is under steps each indexes =
      let same : steps_in_plan p ≡ listed = ap (map (λ p. p.step.now)) kept ∙ steps in
      let long : length p.steps.items ≡ length listed = sym (length-map p.steps.items (λ p. p.step.now)) ∙ ap length same in
      record {
        workflow = ap (λ b. b.now) held;
        steps = same ∙ under;
        each = subst (λ (l : List Planned). All (IsReadStep component targets w.now) l) (sym kept) (subst (λ (j : Json). All (IsReadStep component targets j) ps) is each);
        indexes = λ q. ap (λ (n : ℕ). index_in p.indexes n q) long ∙ indexes q ∙ ap (index_of q) under;
      }
