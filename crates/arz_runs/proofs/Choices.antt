-- The first action that may be taken.
use Rattle.std.proofs.Common.{◌≡◌, ℕ, ◌+◌, ◌<◌, ◌≤◌, List, ◌∷◌, All, map, length, get_or, drop, drop-cons, add-one, cond, Option, Some, None, option_map, Result, Ok, Err, Bool, true, false, refl, sym, ap, subst, ◌∙◌, arith}
use Rattle.std.specs.Prelude.{slice_get}
use Rattle.std.specs.Result.{IsErrAnd, IsErrOf}
use Rattle.std.specs.declared.alloc.Global.{Global}
use Rattle.std.specs.declared.rc.Rc.{Rc}
use Rattle.std.proofs.lemmas.List.{drop_all, length-map}
use Rattle.std.proofs.lemmas.List.Elements.{All-get_or}
use Rattle.std.proofs.lemmas.List.Folds.{list_any_at}
use Rattle.std.proofs.lemmas.Option.{slice_get-map, slice_get-get_or, slice_get_within, get_or_from_slice_get}
use Rattle.arz_json.specs.declared.Json.{Json}
use Rattle.arz_rx.specs.Patterns.{PatternsView}
use Rattle.arz_expr.specs.declared.syntax.Base.{Base}
use Rattle.arz_path.specs.Outcome.{Outcome, given, wide, and_then, Covers}
use Rattle.arz_path.specs.Results.{Asked}
use Rattle.arz_path.proofs.Outcomes.{covers_trans, through, stops}
use Rattle.arz_cond.specs.Criteria.{IsRead}
use Rattle.arz_cond.specs.Holding.{Answers}
use Rattle.arz_cond.specs.Outcomes.{Patterned}
use Rattle.arz_cond.specs.declared.cause.CondFault.{CondFault}
use Rattle.arz_cond.specs.declared.cause.CondFault.TheVariants as fault
use Rattle.arz_actions.specs.Ready.{ready_of, readies}
use Rattle.arz_actions.specs.Tests.{all_met, any_matched}
use Rattle.arz_actions.specs.declared.ready.Ready.{Ready}
use Rattle.arz_flow.specs.declared.bundle.Bundle.{Bundle}
use Rattle.arz_relation.specs.Cases.{choice}
use Rattle.arz_relation.specs.Documents.{workflow_named, step_actions, actions_in, actions_at, joined_actions, criteria_in}
use Rattle.arz_relation.specs.Retries.{is_used_up}
use Rattle.arz_relation.specs.Verdicts.{all_hold}
use Rattle.arz_relation.specs.declared.retries.Count.{Count}
use Rattle.arz_runs.specs.Choosing.{taken, any_tried}
use Rattle.arz_runs.specs.Planned.{IsPlanned, raw_actions}
use Rattle.arz_runs.specs.Readable.{is_tryable, are_tryable}
use Rattle.arz_runs.specs.Scenes.{Chooses}
use Rattle.arz_runs.specs.declared.plans.Planned.{Planned}
use Rattle.arz_runs.proofs.Asking.{all_read, all_same, all_true}

-- ---- an action by its index

-- what is read of an action is read of the raw one at its place
record Reads (o : Option Json) (a : Ready) : Type 0 where
  raw : Json
  at : o ≡ Some raw
  reads : ready_of raw ≡ a

read_of : (o : Option Json) (a : Ready) → option_map ready_of o ≡ Some a → Reads o a
read_of None a h = absurd (cc)
read_of (Some x) a h = record { raw = x; at = refl; reads = cc }

module _ (actions : List (Rc Ready Global)) (i : ℕ) (a : Rc Ready Global) (lt : i < length actions) (is : a ≡ get_or actions i a) where
  ready_at : slice_get (readies actions) i ≡ Some a.value
  ready_at = slice_get-map (λ rc. rc.value) actions i ∙ ap (option_map (λ rc. rc.value)) (slice_get-get_or actions i a lt ∙ ap Some (sym is))

  raw_at : (raw : List Json) → readies actions ≡ map ready_of raw → Reads (slice_get raw i) a.value
  raw_at raw e = read_of (slice_get raw i) a.value (sym (slice_get-map ready_of raw i) ∙ ap (λ l. slice_get l i) (sym e) ∙ ready_at)

  here : get_or (readies actions) i a.value ≡ a.value
  here = get_or_from_slice_get (readies actions) i a.value a.value ready_at

  within : i < length (readies actions)
  within = slice_get_within (readies actions) i a.value ready_at

  -- its criteria can be read
  pub read_there : are_tryable (readies actions) ≡ true → All IsRead a.value.criteria
  read_there h =
      all_read a.value.criteria (subst (λ r. is_tryable r ≡ true) here (All-get_or (λ r. is_tryable r ≡ true) (readies actions) i a.value within (all_true is_tryable (readies actions) h)))

  -- where one of them is of another type than `simple`
  pub tried_there : any_matched a.value.criteria ≡ true → any_tried (readies actions) ≡ true
  tried_there h = list_any_at (λ r. any_matched r.criteria) (readies actions) i a.value within (ap (λ r. any_matched r.criteria) here ∙ h)

-- ---- one action after the other

-- what follows an action, by whether it may be taken
abbrev after : Patterned → (Base → Option Json) → List Count → Json → List Json → Bool → Outcome (Option Json)
after told found counts x rest holds = cond holds (given (Some x)) (choice told found counts rest)

step_of : (told : Patterned) (found : Base → Option Json) (counts : List Count) (x : Json) (rest : List Json) → choice told found counts (x ∷ rest) ≡ and_then (after told found counts x rest) (taken told found counts (ready_of x))
step_of told found counts x rest = by_test (is_used_up counts x)
  where
    by_test : (b : Bool) → cond b (choice told found counts rest) (and_then (after told found counts x rest) (all_hold told found (criteria_in x)))
        ≡ and_then (after told found counts x rest) (cond b (given false) (all_met told found (ready_of x).criteria))
    by_test true = refl
    by_test false = ap (and_then (after told found counts x rest)) (sym (all_same told found (criteria_in x)))

-- what the actions from here on come to, all come to
abbrev pub Reaches : Patterned → (Base → Option Json) → List Count → List (Rc Ready Global) → ℕ → Type 0
Reaches told found counts actions i = (raw : List Json) → readies actions ≡ map ready_of raw → Covers (choice told found counts raw) (choice told found counts (drop i raw))

module _ (found : Base → Option Json) (counts : List Count) (actions : List (Rc Ready Global)) (first old new : PatternsView) (asked : Asked first old) (i : ℕ) (a : Rc Ready Global) (lt : i < length actions) (is : a ≡ get_or actions i a) where
  leads : (raw : List Json) (got : Reads (slice_get raw i) a.value) (o : Outcome (Option Json)) → Covers (choice first.told found counts raw) (choice first.told found counts (drop i raw))
      → Covers (and_then (after first.told found counts got.raw (drop (i + 1) raw)) (taken first.told found counts a.value)) o → Covers (choice first.told found counts raw) o
  leads raw got o so_far h =
      let x = got.raw in
      let rest = drop (i + 1) raw in
      let cut : drop i raw ≡ get_or raw i x ∷ rest = rw add-one (drop-cons raw i x (slice_get_within raw i x got.at)) in
      let parts : drop i raw ≡ x ∷ rest = cut ∙ ap (λ z. z ∷ rest) (get_or_from_slice_get raw i x x got.at) in
      covers_trans (choice first.told found counts raw) (choice first.told found counts (drop i raw)) o so_far
      (subst (λ z. Covers z o)
      (sym (ap (choice first.told found counts) parts ∙ step_of first.told found counts x rest ∙ ap (λ r. and_then (after first.told found counts x rest) (taken first.told found counts r)) got.reads)) h)

  answered : (r : Result Bool CondFault) → Answers r (taken old.told found counts a.value) old new → Answers r (taken first.told found counts a.value) old new
  answered r says = subst (λ t. Answers r (taken t found counts a.value) old new) asked.told says

  -- it may be taken
  pub takes_it : Reaches first.told found counts actions i → (let r : Result Bool CondFault = Ok true in Answers r (taken old.told found counts a.value) old new) → (raw : List Json) → readies actions ≡ map ready_of raw
      → (let r : Result (Option ℕ) CondFault = Ok (Some i) in Chooses raw (choice first.told found counts raw) first new r)
  takes_it so_far says = λ raw e.
      let got = raw_at actions i a lt is raw e in
      let x = got.raw in (
        slice_get_within raw i x got.at,
        subst (λ o. Covers (choice first.told found counts raw) (given o)) (sym got.at)
            (leads raw got (given (Some x)) (so_far raw e) (through (after first.told found counts x (drop (i + 1) raw)) (taken first.told found counts a.value) true (answered (Ok true) says))),
      )

  -- it may not: the next one is tried
  pub passes_it : Reaches first.told found counts actions i → (let r : Result Bool CondFault = Ok false in Answers r (taken old.told found counts a.value) old new) → Reaches first.told found counts actions (i + 1)
  passes_it so_far says = λ raw e.
      let got = raw_at actions i a lt is raw e in
      leads raw got (choice first.told found counts (drop (i + 1) raw)) (so_far raw e) (through (after first.told found counts got.raw (drop (i + 1) raw)) (taken first.told found counts a.value) false (answered (Ok false) says))

  -- nothing is answered
  fails_it : (f : CondFault) → Reaches first.told found counts actions i → (let r : Result Bool CondFault = Err f in Answers r (taken old.told found counts a.value) old new) → (raw : List Json) → readies actions ≡ map ready_of raw
      → (let r : Result (Option ℕ) CondFault = Err f in Chooses raw (choice first.told found counts raw) first new r)
  fails_it fault.TooWide so_far says = λ raw e.
      let got = raw_at actions i a lt is raw e in
      leads raw got wide (so_far raw e) (stops (after first.told found counts got.raw (drop (i + 1) raw)) (taken first.told found counts a.value) (answered (Err fault.TooWide) says))
  fails_it fault.Pattern so_far says = λ raw e. let k = asked.count in omega (arith, says, k)
  fails_it fault.Memory so_far says = λ raw e. tt

  -- so the exit of a `?` answers
  pub exits : (r : Result (Option ℕ) CondFault) (f : CondFault) → IsErrAnd r (λ y. y ≡ f) → Reaches first.told found counts actions i → (let r : Result Bool CondFault = Err f in Answers r (taken old.told found counts a.value) old new)
      → (raw : List Json) → readies actions ≡ map ready_of raw → Chooses raw (choice first.told found counts raw) first new r
  exits (Ok o) f h so_far says = absurd h
  exits (Err y) f h so_far says = λ raw e. subst (λ z. (let r : Result (Option ℕ) CondFault = Err z in Chooses raw (choice first.told found counts raw) first new r)) (sym h) (fails_it f so_far says raw e)

-- the fault of the exit is that of the call
pub same_fault : {X : Type 0} (r : Result X CondFault) (f x : CondFault) → IsErrAnd r (λ y. y ≡ f) → IsErrOf r x → (let q : Result Bool CondFault = Err f in IsErrOf q x)
same_fault (Ok o) f x h k = absurd h
same_fault (Err y) f x h k = let same : y ≡ x = cc in ap (λ z. let q : Result Bool CondFault = Err z in q) (sym h ∙ same)

-- none may be taken
pub takes_none : (found : Base → Option Json) (counts : List Count) (actions : List (Rc Ready Global)) (first new : PatternsView) (i : ℕ) → length actions ≤ i → Reaches first.told found counts actions i → (raw : List Json) → readies actions ≡ map ready_of raw
    → (let r : Result (Option ℕ) CondFault = Ok None in Chooses raw (choice first.told found counts raw) first new r)
takes_none found counts actions first new i past so_far = λ raw e.
    let same : length raw ≡ length actions = sym (length-map raw ready_of) ∙ ap length (sym e) ∙ length-map actions (λ rc. rc.value) in
    let over : length raw ≤ i = omega (arith, same, past) in
    subst (λ l. Covers (choice first.told found counts raw) (choice first.told found counts l)) (drop_all i raw over) (so_far raw e)

-- ---- the actions of a step

module _ (b : Bundle) (id : List ℕ) (w : Json) (named : workflow_named id b.arazzo ≡ Some w) (p : Planned) (planned : IsPlanned b w p) where
  abbrev pub ready_actions : Bool → List (Rc Ready Global)
  ready_actions ok = cond ok p.success p.failure

  pub are_tried : (ok : Bool) → are_tryable (readies (ready_actions ok)) ≡ true
  are_tried true = planned.success_read
  are_tried false = planned.failure_read

  pub read_raw : (ok : Bool) → readies (ready_actions ok) ≡ map ready_of (raw_actions b w p.step.now ok)
  read_raw true = planned.success
  read_raw false = planned.failure

  pub raw_same : (ok : Bool) → raw_actions b w p.step.now ok ≡ actions_at b id p.step.now ok
  raw_same ok = ap (λ o. joined_actions (step_actions b ok p.step.now) (actions_in b ok o)) (sym named)
