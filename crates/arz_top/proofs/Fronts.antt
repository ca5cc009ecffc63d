-- An execution takes one front of given replies.
use Rattle.std.proofs.Common.{◌≡◌, ◌⊎◌, inl, inr, List, [], ◌∷◌, ◌++◌, length, map, Some, refl, sym, ◌∙◌, ap, subst, arith, length-append}
use Rattle.std.proofs.lemmas.List.{map-append}
use Rattle.arz_world.specs.declared.Reply.{Reply}
use Rattle.arz_flow.specs.declared.answers.Ask.{Ask}
use Rattle.arz_flow.specs.declared.answers.Answer.TheVariants.{Reply as Replied}
use Rattle.arz_flow.specs.declared.answers.End.{End}
use Rattle.arz_flow.specs.declared.answers.End.TheVariants.{Out}
use Rattle.arz_flow.specs.declared.bundle.Bundle.{Bundle}
use Rattle.arz_flow.specs.Executions.{end, Fitting}
use Rattle.arz_flow.specs.Verdicts.{Patterned}
use Rattle.arz_flow.proofs.Executions.{prefix_fits}

abbrev GoesOn : List Reply → List Reply → Type 0
GoesOn a c = (x : Reply) × (rest : List Reply) × (c ≡ a ++ x ∷ rest)

-- of two fronts of one list, one goes on from the other, or they are one
abbrev Split : List Reply → List Reply → Type 0
Split a c = (a ≡ c) ⊎ GoesOn a c ⊎ GoesOn c a

behind : (x y : Reply) (a c : List Reply) → x ≡ y → Split a c → Split (x ∷ a) (y ∷ c)
behind x y a c same (inl is) = inl (cc)
behind x y a c same (inr (inl (z, rest, is))) = inr (inl (z, rest, ap (λ l. y ∷ l) is ∙ ap (λ k. k ∷ (a ++ z ∷ rest)) (sym same)))
behind x y a c same (inr (inr (z, rest, is))) = inr (inr (z, rest, ap (λ l. x ∷ l) is ∙ ap (λ k. k ∷ (c ++ z ∷ rest)) same))

split : (a b c d : List Reply) → a ++ b ≡ c ++ d → Split a c
split [] b [] d e = inl refl
split [] b (y ∷ c) d e = inr (inl (y, c, refl))
split (x ∷ a) b [] d e = inr (inr (x, a, refl))
split (x ∷ a) b (y ∷ c) d e =
    let first : x ≡ y = cc in
    let rest : a ++ b ≡ c ++ d = cc in
    behind x y a c first (split a b c d rest)

some_same : (d e : End) → Some d ≡ Some e → d ≡ e
some_same d e h = cc

too_long : (p rest left left' : List Reply) (x : Reply) → p ++ left ≡ (p ++ x ∷ rest) ++ left' → left ≡ [] → ⊥
too_long p rest left left' x e none =
    let whole : length (p ++ left) ≡ length ((p ++ x ∷ rest) ++ left') = ap length e in
    let nothing : length left ≡ 0 = ap length none in
    omega (arith, length-append p left, length-append (p ++ x ∷ rest) left', length-append p (x ∷ rest))

-- behind a front that was taken whole and is more, there is no end
no_end_before : (told : Patterned) (b : Bundle) (p c left left' : List Reply) (e : End) → GoesOn p c → p ++ left ≡ c ++ left' → Fitting told b (map Replied c)
    → end told b (map Replied p) ≡ Some e → ((q : Ask) → e ≡ Out q → left ≡ []) → ⊥
no_end_before told b p c left left' e (x, rest, is) front fit over all =
    let fit' : Fitting told b (map Replied p ++ Replied x ∷ map Replied rest) = subst (Fitting told b) (ap (map Replied) is ∙ map-append Replied p (x ∷ rest)) fit in
    let h = prefix_fits told b (map Replied p) (Replied x) (map Replied rest) fit' in
    too_long p rest left left' x (front ∙ ap (λ l. l ++ left') is) (all h.1.0 (some_same e (Out h.1.0) (sym over ∙ h.1.1)))

module _ (told : Patterned) (b : Bundle) (used left used' left' : List Reply) (e e' : End) (same : used ++ left ≡ used' ++ left')
    (fit : Fitting told b (map Replied used)) (fit' : Fitting told b (map Replied used')) (over : end told b (map Replied used) ≡ Some e) (over' : end told b (map Replied used') ≡ Some e')
    (all : (q : Ask) → e ≡ Out q → left ≡ []) (all' : (q : Ask) → e' ≡ Out q → left' ≡ []) where
  picked : Split used used' → used ≡ used'
  picked (inl is) = is
  picked (inr (inl more)) = absurd (no_end_before told b used used' left left' e more same fit' over all)
  picked (inr (inr more)) = absurd (no_end_before told b used' used left' left e' more (sym same) fit over' all')

  pub one_front : used ≡ used'
  one_front = picked (split used left used' left' same)

  pub one_end : e ≡ e'
  one_end = some_same e e' (sym over ∙ ap (λ u. end told b (map Replied u)) one_front ∙ over')
