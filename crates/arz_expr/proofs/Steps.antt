-- A tail, step by step.
use Rattle.std.proofs.Common.{◌≡◌, ℕ, List, [], ◌∷◌, ◌++◌, Option, Some, None, option_map, Result, Ok, Err, IfOk, IfSome, refl, ap, sym, ◌∙◌, subst, append_assoc, append-nil}
use Rattle.std.specs.declared.alloc.AllocError.{AllocError}
use Rattle.std.proofs.lemmas.Option.{same_Some}
use Rattle.arz_expr.specs.Grammar.{Reads}
use Rattle.arz_expr.specs.Reading.{tail_at, end_at, Ending, ended, with_step, ending_at, reading}
use Rattle.arz_expr.specs.declared.syntax.Tail.{Tail}
use Rattle.arz_expr.specs.declared.syntax.Expr.{Expr}
use Rattle.arz_expr.proofs.Endings.{ending-step, ending-stop, reading-sound, reading-complete}

-- the ending with these steps before it
abbrev pub with_steps : List Tail → Ending → Ending
with_steps front e = (front ++ e.0, e.1)

-- the text's ending is what stands in front, and the rest's
unfoldable pub Goes : List ℕ → List Tail → List ℕ → Type 0
Goes text front rest = ending_at text ≡ option_map (with_steps front) (ending_at rest)

begun : (o : Option Ending) → o ≡ option_map (with_steps []) o
begun None = refl
begun (Some e) = refl

pub goes-begun : (text : List ℕ) → Goes text [] text
unfolding Goes
goes-begun text = begun (ending_at text)

joined : (front : List Tail) (t : Tail) (o : Option Ending) → option_map (with_steps front) (option_map (with_step t) o) ≡ option_map (with_steps (front ++ t ∷ [])) o
joined front t None = refl
joined front t (Some e) = ap (λ ts. Some (ts, e.1)) (sym (append_assoc front (t ∷ []) e.0))

pub goes-on : (text : List ℕ) (front : List Tail) (rest : List ℕ) (t : Tail × List ℕ) → Goes text front rest → tail_at rest ≡ Some t → Goes text (front ++ t.0 ∷ []) t.1
unfolding Goes
goes-on text front rest t h e = h ∙ ap (option_map (with_steps front)) (ending-step rest t e) ∙ joined front t.0 (ending_at t.1)

closed : (front : List Tail) (o : Option (Option (List ℕ))) → option_map (with_steps front) (option_map ended o) ≡ option_map (λ p. (front, p)) o
closed front None = refl
closed front (Some p) = ap (λ ts. Some (ts, p)) (append-nil front)

pub goes-end : (text : List ℕ) (front : List Tail) (rest : List ℕ) → Goes text front rest → tail_at rest ≡ None → ending_at text ≡ option_map (λ p. (front, p)) (end_at rest)
unfolding Goes
goes-end text front rest h e = h ∙ ap (option_map (with_steps front)) (ending-stop rest e) ∙ closed front (end_at rest)

-- ---- what the reading says of the grammar

pub reads-if : (text : List ℕ) (r : Result (Option Expr) AllocError) → IfOk r (λ o. o ≡ reading text) → IfOk r (λ o. IfSome o (λ e. Reads text e))
reads-if text (Ok o) h = let F : Option Expr → Type 0 = λ o. IfSome o (λ e. Reads text e) in subst F (sym h) (reading-sound text)
reads-if text (Err e) h = tt

pub complete-if : (text : List ℕ) (r : Result (Option Expr) AllocError) → IfOk r (λ o. o ≡ reading text) → (e : Expr) → Reads text e → IfOk r (λ o. o ≡ Some e)
complete-if text (Ok o) h e reads = h ∙ reading-complete text e reads
complete-if text (Err x) h e reads = tt

pub once : (text : List ℕ) (d e : Expr) → Reads text d → Reads text e → d ≡ e
once text d e h k = same_Some d e (sym (reading-complete text d h) ∙ reading-complete text e k)
