-- Marks that change one by one, as a component leaves the path.
use Rattle.std.proofs.Common.{◌≡◌, ◌≢◌, ◌<◌, ◌≤◌, ◌+◌, ℕ, Bool, false, List, length, get_or, refl, sym, ap, ◌∙◌, ⊎_elim, arith}
use Rattle.std.proofs.Math.ListN.{set}
use Rattle.std.proofs.lemmas.Bool.{cases_eq}
use Rattle.std.proofs.lemmas.List.{get_or_past, get_or-set_same, get_or-set_other}
use Rattle.arz_graph.specs.declared.search.Mark.{Mark}
use Rattle.arz_graph.specs.declared.search.Mark.TheVariants.{Unseen, OnPath, Done}
use Rattle.arz_graph.specs.Search.{Stand, IsPlaced, LeavesMarks}
use Rattle.arz_graph.proofs.Walks.{order}

abbrev pub mark_at : List Mark → ℕ → Mark
mark_at ms x = get_or ms x (Done false)

pub marked_within : (ms : List Mark) (v k : ℕ) → mark_at ms v ≡ OnPath k → v < length ms
marked_within ms v k h = ⊎_elim (λ l. l)
    (λ past. let w : ◌≡◌ {A = Mark} (Done false) (OnPath k) = sym (get_or_past ms v (Done false) past) ∙ h in absurd cc) (order v (length ms))

pub unseen_within : (ms : List Mark) (v : ℕ) → mark_at ms v ≡ Unseen → v < length ms
unseen_within ms v h = ⊎_elim (λ l. l)
    (λ past. let w : ◌≡◌ {A = Mark} (Done false) Unseen = sym (get_or_past ms v (Done false) past) ∙ h in absurd cc) (order v (length ms))

pub mark_set : (ms : List Mark) (v : ℕ) (m : Mark) → v < length ms → mark_at (set ms v m) v ≡ m
mark_set ms v m l = get_or-set_same ms v m (Done false) l

pub mark_other : (ms : List Mark) (v x : ℕ) (m : Mark) → x ≢ v → mark_at (set ms v m) x ≡ mark_at ms x
mark_other ms v x m n = get_or-set_other ms v x m (Done false) n

pub leaves_none : (start : ℕ) (cyclic : Bool) (mark : ℕ → Mark) → LeavesMarks start start cyclic mark mark
leaves_none start cyclic mark = record { gone = λ x k h l m. absurd (omega arith); kept = λ x h. refl }

module _ (s : Stand) (P : IsPlaced s) (ms : List Mark) (start k : ℕ) (c : Bool) (v : ℕ) (lt : k < s.depth) (le : start ≤ k) (is : v ≡ s.node k) (in' : v < length ms) (L : LeavesMarks start k c s.mark (mark_at ms)) where
  here : s.mark v ≡ OnPath k
  here = ap s.mark is ∙ P.placed k lt

  gone : (x j : ℕ) → s.mark x ≡ OnPath j → start ≤ j → j < k + 1 → mark_at (set ms v (Done c)) x ≡ Done c
  gone x j h l m = ⊎_elim
      (λ (q : x ≡ v). ap (mark_at (set ms v (Done c))) q ∙ mark_set ms v (Done c) in')
      (λ n. mark_other ms v x (Done c) n ∙ L.gone x j h l (⊎_elim (λ low. low)
      (λ high. absurd (n (sym (P.found x j h).1 ∙ ap s.node (omega arith) ∙ sym is))) (order j k)))
      (cases_eq x v)

  kept : (x : ℕ) → ((j : ℕ) → s.mark x ≡ OnPath j → start ≤ j → j < k + 1 → ⊥) → mark_at (set ms v (Done c)) x ≡ s.mark x
  kept x out = mark_other ms v x (Done c) (λ q. out k (ap s.mark q ∙ here) le (omega arith)) ∙ L.kept x (λ j h l m. out j h l (omega arith))

  pub leaves_more : LeavesMarks start (k + 1) c s.mark (mark_at (set ms v (Done c)))
  leaves_more = record { gone = gone; kept = kept }
