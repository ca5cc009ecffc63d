-- A quoted text, a character at a time.
use Rattle.std.proofs.Common.{◌≡◌, ℕ, suc, ◌<◌, ◌+◌, ◌-◌, List, [], ◌∷◌, ◌++◌, Option, Some, None, option_map, option_and_then, length, refl, ap, ◌∙◌, append_assoc, sym, arith}
use Rattle.arz_query.specs.Words.{chosen}
use Rattle.arz_query.specs.Lexical.{texted}
use Rattle.arz_cond.specs.Reading.{character_at, with_byte, ended, quoted_within, quoted_at}

abbrev pub behind : List ℕ → List ℕ × List ℕ → List ℕ × List ℕ
behind front p = (front ++ p.0, p.1)

abbrev pub next : ℕ → List ℕ → Option (ℕ × List ℕ) → Option (List ℕ × List ℕ)
next n s o = chosen o (λ c. option_map (with_byte c.0) (quoted_within n c.1)) (ended s)

pub turn : (m n : ℕ) (s : List ℕ) → m ≡ suc n → quoted_within m s ≡ next n s (character_at s)
unfolding quoted_within
turn m n s e = ap (λ k. quoted_within k s) e

fronts : (front : List ℕ) (b : ℕ) (o : Option (List ℕ × List ℕ)) → option_map (behind front) (option_map (with_byte b) o) ≡ option_map (behind (front ++ b ∷ [])) o
fronts front b None = refl
fronts front b (Some p) = ap (λ (f : List ℕ). Some (f, p.1)) (sym (append_assoc front (b ∷ []) p.0))

pub quoted_ends : (n k : ℕ) (front s : List ℕ) → k < n → character_at s ≡ None → option_map (behind front) (quoted_within (n - k) s) ≡ option_map (behind front) (ended s)
quoted_ends n k front s h e = ap (option_map (behind front)) (turn (n - k) (n - (k + 1)) s (omega arith) ∙ ap (next (n - (k + 1)) s) e)

pub quoted_takes : (n k : ℕ) (front s r : List ℕ) (b : ℕ) → k < n → character_at s ≡ Some (b, r) →
    option_map (behind front) (quoted_within (n - k) s) ≡ option_map (behind (front ++ b ∷ [])) (quoted_within (n - (k + 1)) r)
quoted_takes n k front s r b h e =
    ap (option_map (behind front)) (turn (n - k) (n - (k + 1)) s (omega arith) ∙ ap (next (n - (k + 1)) s) e) ∙ fronts front b (quoted_within (n - (k + 1)) r)

pub quoted_none : (n : ℕ) (front s : List ℕ) → n ≡ 0 → option_map (behind front) (quoted_within n s) ≡ None
unfolding quoted_within
quoted_none n front s e = ap (λ k. option_map (behind front) (quoted_within k s)) e

-- the text where its last quote comes next
pub quoted_end : (text front rest : List ℕ) (k : ℕ) → quoted_within (length text) text ≡ option_map (behind front) (quoted_within (length text - k) rest) → k < length text → character_at rest ≡ None →
    quoted_at text ≡ option_and_then texted (option_map (behind front) (ended rest))
unfolding quoted_at
quoted_end text front rest k e h none = ap (option_and_then texted) (e ∙ quoted_ends (length text) k front rest h none)
