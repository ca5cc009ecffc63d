-- Criteria, tried in order.
use Rattle.std.proofs.Common.{◌≡◌, ℕ, ◌+◌, ◌<◌, List, ◌∷◌, All, length, get_or, drop, drop-cons, add-one, Result, Ok, Err, Bool, true, false, if◌then◌else◌, sym, ap, subst, ◌∙◌, arith}
use Rattle.std.specs.Prelude.{Option}
use Rattle.std.specs.Result.{IsErrAnd}
use Rattle.std.proofs.lemmas.List.Elements.{All-get_or}
use Rattle.arz_json.specs.declared.tree.Json.{Json}
use Rattle.arz_rx.specs.Patterns.{PatternsView}
use Rattle.arz_expr.specs.declared.syntax.Base.{Base}
use Rattle.arz_path.specs.Outcome.{Outcome, given, wide, and_then, Covers}
use Rattle.arz_path.specs.Results.{Asked}
use Rattle.arz_path.proofs.Outcomes.{covers_trans, through, stops}
use Rattle.arz_cond.specs.Criteria.{Criterion, IsRead}
use Rattle.arz_cond.specs.Holding.{Answers, Fails, Says}
use Rattle.arz_cond.specs.Outcomes.{Patterned, outcome}
use Rattle.arz_cond.specs.declared.cause.CondFault.{CondFault}
use Rattle.arz_cond.specs.declared.cause.CondFault.TheVariants as fault
use Rattle.arz_cond.proofs.Functions.{answers_outcome}
use Rattle.arz_actions.specs.Tests.{all_met}

-- ---- the criteria in order

-- what the criteria from here on come to
abbrev pub from_here : Patterned → (Base → Option Json) → List Criterion → ℕ → Outcome Bool
from_here told found cs i = all_met told found (drop i cs)

-- what follows a criterion, by whether it holds
abbrev after : Patterned → (Base → Option Json) → List Criterion → Bool → Outcome Bool
after told found cs holds = if holds then all_met told found cs else given false

answered : (c : Criterion) (found : Base → Option Json) (r : Result Bool CondFault) (first old new : PatternsView) → Asked first old → IsRead c → Says c found r old new → Answers r (outcome first.told found c) old new
answered c found r first old new a read says = subst (λ t. Answers r (outcome t found c) old new) a.told (answers_outcome c found r old new read says)

-- why nothing is answered of a part
fails_as : (e : CondFault) (part whole : Outcome Bool) (first old new : PatternsView) → Asked first old → (Covers part wide → Covers whole wide) → Fails e part old new → Fails e whole first new
fails_as fault.TooWide part whole first old new a f h = f h
fails_as fault.Pattern part whole first old new a f h = let k = a.count in omega (arith, h, k)
fails_as fault.Memory part whole first old new a f h = tt

module _ (found : Base → Option Json) (cs : List Criterion) (first old new : PatternsView) (asked : Asked first old) (i : ℕ) (c : Criterion) (lt : i < length cs) (is : c ≡ get_or cs i c) (read : IsRead c)
    (whole : Outcome Bool) (so_far : Covers whole (from_here first.told found cs i)) where
  here : from_here first.told found cs i ≡ and_then (after first.told found (drop (i + 1) cs)) (outcome first.told found c)
  here =
      let parts : drop i cs ≡ get_or cs i c ∷ drop (i + 1) cs = rw add-one (drop-cons cs i c lt) in
      ap (all_met first.told found) parts
      ∙ ap (λ x. all_met first.told found (x ∷ drop (i + 1) cs)) (sym is)

  leads : (o : Outcome Bool) → Covers (and_then (after first.told found (drop (i + 1) cs)) (outcome first.told found c)) o → Covers whole o
  leads o h = covers_trans whole _ o so_far (subst (λ z. Covers z o) (sym here) h)

  -- it holds: the next one is tried
  pub goes_past : (let r : Result Bool CondFault = Ok true in Says c found r old new) → Covers whole (from_here first.told found cs (i + 1))
  goes_past says = leads _ (through (after first.told found (drop (i + 1) cs)) (outcome first.told found c) true (answered c found (Ok true) first old new asked read says))

  -- it doesn't hold
  pub breaks : (let r : Result Bool CondFault = Ok false in Says c found r old new) → Covers whole (given false)
  breaks says = leads _ (through (after first.told found (drop (i + 1) cs)) (outcome first.told found c) false (answered c found (Ok false) first old new asked read says))

  -- nothing is answered
  pub fails_here : (e : CondFault) → (let r : Result Bool CondFault = Err e in Says c found r old new) → Fails e whole first new
  fails_here e says =
      fails_as e (outcome first.told found c) whole first old new asked
      (λ w. leads wide (stops (after first.told found (drop (i + 1) cs)) (outcome first.told found c) w))
      (answered c found (Err e) first old new asked read says)

pub read_at : (cs : List Criterion) (i : ℕ) (c : Criterion) → All IsRead cs → i < length cs → c ≡ get_or cs i c → IsRead c
read_at cs i c all lt is = subst IsRead (sym is) (All-get_or IsRead cs i c lt all)

-- what the exit of a `?` answers
pub exit : (r : Result Bool CondFault) (e : CondFault) (meant : Outcome Bool) (p q : PatternsView) → IsErrAnd r (λ y. y ≡ e) → Fails e meant p q → Answers r meant p q
exit (Ok x) e meant p q h k = absurd h
exit (Err y) e meant p q h k = subst (λ z. Fails z meant p q) (sym h) k
