-- The parameters that are written, one after the other.
use Rattle.std.proofs.Common.{◌≡◌, ℕ, ◌+◌, ◌<◌, List, [], ◌∷◌, ◌++◌, length, drop, get_or, Option, Ok, Err, refl, ap, sym, ◌∙◌, append_assoc, drop-cons, add-one}
use Rattle.arz_json.specs.Answer.{◌>>=◌, Fails}
use Rattle.arz_json.specs.declared.Json.{Json}
use Rattle.arz_expr.specs.declared.syntax.Base.{Base}
use Rattle.arz_expr.specs.declared.template.Given.{Given}
use Rattle.arz_operation.specs.declared.types.Described.{Described}
use Rattle.arz_request.specs.Causes.{Made, made_of, told}
use Rattle.arz_request.specs.Parameters.{Written, written, all_written}
use Rattle.arz_request.specs.declared.cause.BuildFault.{BuildFault}
use Rattle.arz_request.specs.declared.cause.BuildFault.TheVariants.{Stuck, Memory}
use Rattle.arz_request.specs.declared.cause.Cause.{Cause}

-- these, and behind them those
abbrev pub behind : List Written → Made (List Written) → Made (List Written)
behind ws made = made_of (λ others. ws ++ others) made

abbrev with_first : Made Written → Made (List Written) → Made (List Written)
with_first w ws = w >>= λ x. made_of (λ xs. x ∷ xs) ws

module _ (found : Base → Option Json) (ds : List Described) where
  from : (gs : List Given) (i : ℕ) (g : Given) → i < length gs → g ≡ get_or gs i g → all_written found ds (drop i gs) ≡ with_first (written found ds g) (all_written found ds (drop (i + 1) gs))
  from gs i g lt is = rw (add-one, drop-cons gs i g lt, ← is) refl

  first-behind : (ws : List Written) (w : Written) (rest : Made (List Written)) → behind ws (made_of (λ xs. w ∷ xs) rest) ≡ behind (ws ++ w ∷ []) rest
  first-behind ws w (Ok xs) = ap Ok (sym (append_assoc ws (w ∷ []) xs))
  first-behind ws w (Err c) = refl

  pub one-more : (gs : List Given) (i : ℕ) (g : Given) (ws vs : List Written) (w : Written) → i < length gs → g ≡ get_or gs i g
      → all_written found ds gs ≡ behind ws (all_written found ds (drop i gs)) → written found ds g ≡ Ok w → vs ≡ ws ++ w ∷ []
      → all_written found ds gs ≡ behind vs (all_written found ds (drop (i + 1) gs))
  one-more gs i g ws vs w lt is before made here =
      before ∙ ap (behind ws) (from gs i g lt is ∙ ap (λ m. with_first m (all_written found ds (drop (i + 1) gs))) made)
      ∙ first-behind ws w (all_written found ds (drop (i + 1) gs)) ∙ ap (λ xs. behind xs (all_written found ds (drop (i + 1) gs))) (sym here)

  stopped : (gs : List Given) (i : ℕ) (g : Given) (ws : List Written) (c : Cause) → i < length gs → g ≡ get_or gs i g
      → all_written found ds gs ≡ behind ws (all_written found ds (drop i gs)) → written found ds g ≡ Err c → all_written found ds gs ≡ Err c
  stopped gs i g ws c lt is before made =
      before ∙ ap (behind ws) (from gs i g lt is ∙ ap (λ m. with_first m (all_written found ds (drop (i + 1) gs))) made)

  pub fails : (gs : List Given) (i : ℕ) (g : Given) (ws : List Written) (f : BuildFault) → i < length gs → g ≡ get_or gs i g
      → all_written found ds gs ≡ behind ws (all_written found ds (drop i gs)) → Fails (told f) (written found ds g) → Fails (told f) (all_written found ds gs)
  fails gs i g ws (Stuck c) lt is before made = stopped gs i g ws c lt is before made
  fails gs i g ws Memory lt is before made = tt
