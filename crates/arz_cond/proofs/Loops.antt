-- One more round of a loop over terms.
use Rattle.std.proofs.Common.{◌≡◌, List, [], ◌∷◌, map, Bool, true, false, ◌&&◌, ◌||◌, Option, sym, ap, subst, ◌∙◌}
use Rattle.std.specs.List.{list_any, list_all}
use Rattle.arz_json.specs.declared.tree.Json.{Json}
use Rattle.arz_expr.specs.declared.syntax.Base.{Base}
use Rattle.arz_cond.specs.declared.term.Term.{Term}
use Rattle.arz_cond.specs.declared.values.Worth.{Worth}
use Rattle.arz_cond.specs.Meaning.{is_true, value_of, some_true, each_true}
use Rattle.arz_cond.specs.Seen.{worth_seen}

module _ (found : Base → Option Json) where
  some_none : (rest : List Term) → rest ≡ [] → some_true found rest ≡ false
  unfolding some_true
  some_none rest e = ap (λ ts. list_any is_true (map (value_of found) ts)) e

  each_none : (rest : List Term) → rest ≡ [] → each_true found rest ≡ true
  unfolding each_true
  each_none rest e = ap (λ ts. list_all is_true (map (value_of found) ts)) e

  some_first : (rest more : List Term) (t : Term) → rest ≡ t ∷ more → some_true found rest ≡ (is_true (value_of found t) || some_true found more)
  unfolding some_true
  some_first rest more t e = ap (λ ts. list_any is_true (map (value_of found) ts)) e

  each_first : (rest more : List Term) (t : Term) → rest ≡ t ∷ more → each_true found rest ≡ (is_true (value_of found t) && each_true found more)
  unfolding each_true
  each_first rest more t e = ap (λ ts. list_all is_true (map (value_of found) ts)) e

  pub some_end : (terms all rest : List Term) → all ≡ terms → some_true found all ≡ some_true found rest → rest ≡ [] → false ≡ some_true found terms
  some_end terms all rest same h e = subst (λ ts. false ≡ some_true found ts) same (sym (h ∙ some_none rest e))

  pub each_end : (terms all rest : List Term) → all ≡ terms → each_true found all ≡ each_true found rest → rest ≡ [] → true ≡ each_true found terms
  each_end terms all rest same h e = subst (λ ts. true ≡ each_true found ts) same (sym (h ∙ each_none rest e))

  module _ (all rest more : List Term) (t : Term) (cut : rest ≡ t ∷ more) (w : Worth) (seen : worth_seen w ≡ value_of found t) (b : Bool) (is : b ≡ is_true (worth_seen w)) where
    bit : is_true (value_of found t) ≡ b
    bit = ap is_true (sym seen) ∙ sym is

    some_round : some_true found rest ≡ (b || some_true found more)
    some_round = some_first rest more t cut ∙ ap (λ x. x || some_true found more) bit

    each_round : each_true found rest ≡ (b && each_true found more)
    each_round = each_first rest more t cut ∙ ap (λ x. x && each_true found more) bit

    pub some_found : (terms : List Term) → all ≡ terms → some_true found all ≡ some_true found rest → b ≡ true → true ≡ some_true found terms
    some_found terms same h e = subst (λ ts. true ≡ some_true found ts) same (sym (h ∙ some_round ∙ ap (λ x. x || some_true found more) e))

    pub some_left : some_true found all ≡ some_true found rest → b ≡ false → some_true found all ≡ some_true found more
    some_left h e = h ∙ some_round ∙ ap (λ x. x || some_true found more) e

    pub each_failed : (terms : List Term) → all ≡ terms → each_true found all ≡ each_true found rest → b ≡ false → false ≡ each_true found terms
    each_failed terms same h e = subst (λ ts. false ≡ each_true found ts) same (sym (h ∙ each_round ∙ ap (λ x. x && each_true found more) e))

    pub each_left : each_true found all ≡ each_true found rest → b ≡ true → each_true found all ≡ each_true found more
    each_left h e = h ∙ each_round ∙ ap (λ x. x && each_true found more) e
