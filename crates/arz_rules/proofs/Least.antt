-- What the least place is.
use Rattle.std.proofs.Common.{◌≡◌, List, [], ◌∷◌, Option, Some, None, Bool, true, false, cond, inl, inr, refl, ap, ◌∙◌}
use Rattle.std.specs.Ordering.{is_gt}
use Rattle.arz_json.specs.declared.place.Token.{Token}
use Rattle.arz_rules.specs.Place.{tokens_cmp, lesser, least}
use Rattle.arz_rules.specs.Laws.{IsLeast}
use Rattle.arz_rules.proofs.Places.{tokens_total, turned}
use Rattle.std.proofs.lemmas.Cmp.{tied_itself, upto}

at_choice : (p q : List Token) (ps : List (List Token)) (b : Bool) → is_gt (tokens_cmp p q) ≡ b → IsLeast ps (Some q) → IsLeast (p ∷ ps) (cond b (Some q) (Some p))
at_choice p q ps true e h = (inr h.0, λ r i. elim i as (λ _. is_gt (tokens_cmp q r) ≡ false) [ inl s ↦ ap (λ x. is_gt (tokens_cmp q x)) s ∙ turned p q e | inr m ↦ h.1 r m ])
at_choice p q ps false e h = (
  inl refl,
  λ r i. elim i as (λ _. is_gt (tokens_cmp p r) ≡ false) [
    | inl s ↦ ap (λ x. is_gt (tokens_cmp p x)) s ∙ ap is_gt (tied_itself tokens_total p)
    | inr m ↦ upto tokens_total p q r e (h.1 r m)
  ],
)

at_rest : (p : List Token) (ps : List (List Token)) (o : Option (List Token)) → IsLeast ps o → IsLeast (p ∷ ps) (lesser (Some p) o)
at_rest p ps None h = (
  inl refl,
  λ r i. elim i as (λ _. is_gt (tokens_cmp p r) ≡ false) [
    | inl s ↦ ap (λ x. is_gt (tokens_cmp p x)) s ∙ ap is_gt (tied_itself tokens_total p)
    | inr m ↦ absurd (h r m)
  ],
)
at_rest p ps (Some q) h = at_choice p q ps (is_gt (tokens_cmp p q)) refl h

pub least-IsLeast : (ps : List (List Token)) → IsLeast ps (least ps)
least-IsLeast [] = λ r i. i
least-IsLeast (p ∷ ps) = at_rest p ps (least ps) (least-IsLeast ps)
