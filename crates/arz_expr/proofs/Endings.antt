-- The steps of a tail and the pointer, and the whole reading.
use Rattle.std.proofs.Common.{◌≡◌, inl, inr, ℕ, zero, suc, ◌<◌, ◌≤◌, true, false, List, [], ◌∷◌, ◌++◌, length, codes, Option, Some, None, option_map, option_and_then, IfSome, refl, ap, sym, ◌∙◌, subst, arith, append_assoc, length-append}
use Rattle.std.specs.List.{list_all}
use Rattle.std.proofs.lemmas.Bool.{and_parts, and_from, cases_Bool, true≢false}
use Rattle.std.proofs.lemmas.Option.{cond_some}
use Rattle.arz_expr.specs.Grammar.{is_tail, is_pointer, has_pointer, takes_tail, print_base, print_tail, print_tails, print_pointer, printed, IsExpr, Reads}
use Rattle.arz_expr.specs.Reading.{after, chosen, tail_at, pointed, end_at, Ending, ended, with_step, ending_within, ending_at, with_ending, alone_of, ending_of, base_at, reading}
use Rattle.arz_expr.specs.declared.syntax.Base.{Base}
use Rattle.arz_expr.specs.declared.syntax.Tail.{Tail}
use Rattle.arz_expr.specs.declared.syntax.Tail.TheVariants.{Member, Index}
use Rattle.arz_expr.specs.declared.syntax.Expr.{Expr}
use Rattle.arz_expr.proofs.Options.{if_some, from_some, map_if, bind_if, chosen_if, chosen-same}
use Rattle.arz_expr.proofs.Keys.{after-parts}
use Rattle.arz_expr.proofs.Runs.{begins_name}
use Rattle.arz_expr.proofs.Sound.{IsBaseOf, IsTailOf, IsRest, base-sound, tail-sound}
use Rattle.arz_expr.proofs.Complete.{base-front, tail-front}

print-filled : (t : Tail) → 0 < length (print_tail t)
print-filled (Member n) = omega arith
print-filled (Index i) = omega arith

-- each step takes a byte or more
pub shorter : (text : List ℕ) (t : Tail × List ℕ) → tail_at text ≡ Some t → length t.1 < length text
shorter text t e =
    let is = from_some (tail_at text) (IsTailOf text) t (tail-sound text) e in
    omega (arith, print-filled t.0, ap length is.1, length-append (print_tail t.0) t.1)

no-step : tail_at [] ≡ None
unfolding tail_at
no-step = refl

within-same : (n m : ℕ) (text : List ℕ) → length text ≤ n → length text ≤ m → ending_within n text ≡ ending_within m text
unfolding ending_within
within-same zero zero text h k = refl
within-same zero (suc m) [] h k = rw no-step refl
within-same zero (suc m) (b ∷ text) h k = absurd (omega (arith, h))
within-same (suc n) zero [] h k = rw no-step refl
within-same (suc n) zero (b ∷ text) h k = absurd (omega (arith, k))
within-same (suc n) (suc m) text h k =
    chosen-same (tail_at text) (λ (t : Tail × List ℕ). option_map (with_step t.0) (ending_within n t.1)) (λ (t : Tail × List ℕ). option_map (with_step t.0) (ending_within m t.1)) (option_map ended (end_at text))
    (λ t e. let less = shorter text t e in ap (option_map (with_step t.0)) (within-same n m t.1 (omega (arith, less, h)) (omega (arith, less, k))))

within-at : (n : ℕ) (text : List ℕ) → length text ≤ n → ending_within n text ≡ ending_at text
unfolding ending_at
within-at n text h = within-same n (length text) text h (omega arith)

-- the same with one turn more
ending-turn : (text : List ℕ) → ending_at text ≡ chosen (tail_at text) (λ t. option_map (with_step t.0) (ending_within (length text) t.1)) (option_map ended (end_at text))
unfolding ending_within
ending-turn text = sym (within-at (suc (length text)) text (omega arith))

pub ending-step : (text : List ℕ) (t : Tail × List ℕ) → tail_at text ≡ Some t → ending_at text ≡ option_map (with_step t.0) (ending_at t.1)
ending-step text t e =
    let less = shorter text t e in
    ending-turn text ∙ rw e (ap (option_map (with_step t.0)) (within-at (length text) t.1 (omega (arith, less))))

pub ending-stop : (text : List ℕ) → tail_at text ≡ None → ending_at text ≡ option_map ended (end_at text)
ending-stop text e = ending-turn text ∙ rw e refl

-- ---- sound

abbrev pub IsEndingOf : List ℕ → Ending → Type 0
IsEndingOf text e = (list_all is_tail e.0 ≡ true) × (has_pointer e.1 ≡ true) × (text ≡ print_tails e.0 ++ print_pointer e.1)

abbrev pub IsEndOf : List ℕ → Option (List ℕ) → Type 0
IsEndOf text p = (has_pointer p ≡ true) × (text ≡ print_pointer p)

pointed-sound : (pointer text : List ℕ) → IsRest (codes "#") text pointer → IfSome (pointed pointer) (IsEndOf text)
pointed-sound pointer text e = if_some (pointed pointer) (IsEndOf text)
    (λ p s. let q = cond_some (is_pointer pointer) (Some pointer) p s in
    subst (λ (p : Option (List ℕ)). (has_pointer p ≡ true) × (text ≡ print_pointer p)) q.1 (q.0, e))

end-sound : (text : List ℕ) → IfSome (end_at text) (IsEndOf text)
end-sound [] = (refl, refl)
end-sound (b ∷ rest) =
    bind_if (after (codes "#") (b ∷ rest)) pointed (IsRest (codes "#") (b ∷ rest)) (IsEndOf (b ∷ rest)) (after-parts (codes "#") (b ∷ rest)) (λ pointer e. pointed-sound pointer (b ∷ rest) e)

ended-sound : (text : List ℕ) → IfSome (option_map ended (end_at text)) (IsEndingOf text)
ended-sound text = map_if (end_at text) ended (IsEndOf text) (IsEndingOf text) (end-sound text) (λ p h. (refl, h.0, h.1))

within-sound : (n : ℕ) (text : List ℕ) → IfSome (ending_within n text) (IsEndingOf text)
unfolding ending_within
within-sound zero text = ended-sound text
within-sound (suc n) text =
    chosen_if (tail_at text) (λ t. option_map (with_step t.0) (ending_within n t.1)) (option_map ended (end_at text)) (IsTailOf text) (IsEndingOf text) (tail-sound text)
    (λ t is. map_if (ending_within n t.1) (with_step t.0) (IsEndingOf t.1) (IsEndingOf text) (within-sound n t.1)
    (λ e h. (
      and_from (is_tail t.0) (list_all is_tail e.0) is.0 h.0,
      h.1,
      is.1 ∙ ap (λ r. print_tail t.0 ++ r) h.2 ∙ sym (append_assoc (print_tail t.0) (print_tails e.0) (print_pointer e.1)),
    )))
    (ended-sound text)

alone-sound : (b : Base) (rest text : List ℕ) → IsBaseOf text (b, rest) → takes_tail b ≡ false → IfSome (alone_of b rest) (Reads text)
unfolding printed
alone-sound b [] text is none = (record { names = is.0; tail = refl; pointer = refl; alone = λ _. (refl, refl) }, is.1)
alone-sound b (x ∷ rest) text is none = tt

ending-sound : (b : Base × List ℕ) (text : List ℕ) → IsBaseOf text b → IfSome (ending_of b) (Reads text)
unfolding printed ending_at
ending-sound b text is =
    elim (cases_Bool (takes_tail b.0)) [
      | inl holds ↦ rw holds (map_if (ending_at b.1) (with_ending b.0) (IsEndingOf b.1) (Reads text) (within-sound (length b.1) b.1)
          (λ e h. (record { names = is.0; tail = h.0; pointer = h.1; alone = λ no. absurd (true≢false (sym holds ∙ no)) }, is.1 ∙ ap (λ r. print_base b.0 ++ r) h.2)))
      | inr fails ↦ rw fails (alone-sound b.0 b.1 text is fails)
    ]

pub reading-sound : (text : List ℕ) → IfSome (reading text) (Reads text)
unfolding reading
reading-sound text = bind_if (base_at text) ending_of (IsBaseOf text) (Reads text) (base-sound text) (λ b is. ending-sound b text is)

-- ---- complete

end-stops : (p : Option (List ℕ)) → begins_name (print_pointer p) ≡ false
end-stops None = refl
end-stops (Some p) = refl

tails-stop : (ts : List Tail) (p : Option (List ℕ)) → begins_name (print_tails ts ++ print_pointer p) ≡ false
tails-stop [] p = end-stops p
tails-stop (Member n ∷ ts) p = refl
tails-stop (Index i ∷ ts) p = refl

end-front : (p : Option (List ℕ)) → has_pointer p ≡ true → end_at (print_pointer p) ≡ Some p
end-front None is = refl
end-front (Some p) is = rw is refl

end-no-step : (p : Option (List ℕ)) → tail_at (print_pointer p) ≡ None
unfolding tail_at
end-no-step None = refl
end-no-step (Some p) = refl

ending-front : (ts : List Tail) (p : Option (List ℕ)) → list_all is_tail ts ≡ true → has_pointer p ≡ true → ending_at (print_tails ts ++ print_pointer p) ≡ Some (ts, p)
ending-front [] p are is = ending-stop (print_pointer p) (end-no-step p) ∙ ap (option_map ended) (end-front p is)
ending-front (t ∷ ts) p are is =
    let parts = and_parts (is_tail t) (list_all is_tail ts) are in
    let rest = print_tails ts ++ print_pointer p in
    ap ending_at (append_assoc (print_tail t) (print_tails ts) (print_pointer p))
    ∙ ending-step (print_tail t ++ rest) (t, rest) (tail-front t rest parts.0 (tails-stop ts p))
    ∙ ap (option_map (with_step t)) (ending-front ts p parts.1 is)

alone-front : (e : Expr) → (e.tail ≡ []) × (e.pointer ≡ None) → alone_of e.base (print_tails e.tail ++ print_pointer e.pointer) ≡ Some e
alone-front e h = rw (h.0, h.1) (ap (λ (x : Ending). Some (with_ending e.base x)) refl)

rest-front : (e : Expr) → IsExpr e → ending_of (e.base, print_tails e.tail ++ print_pointer e.pointer) ≡ Some e
rest-front e is =
    elim (cases_Bool (takes_tail e.base)) [
      | inl holds ↦ rw holds (ap (option_map (with_ending e.base)) (ending-front e.tail e.pointer is.tail is.pointer))
      | inr fails ↦ rw fails (alone-front e (is.alone fails))
    ]

pub reading-complete : (text : List ℕ) (e : Expr) → Reads text e → reading text ≡ Some e
unfolding reading printed
reading-complete text e h =
    ap reading h.1
    ∙ ap (option_and_then ending_of) (base-front e.base (print_tails e.tail ++ print_pointer e.pointer) h.0.names (tails-stop e.tail e.pointer))
    ∙ rest-front e h.0
