-- Bytes that are a text, and quoted texts.
use Rattle.std.proofs.Common.{◌≡◌, ℕ, suc, ◌<◌, ◌+◌, ◌-◌, List, [], ◌++◌, Option, Some, None, option_map, option_and_then, inl, inr, refl, sym, ap, ◌∙◌, append_assoc, append-nil, arith, IsUtf8}
use Rattle.std.specs.Str.{is_utf8}
use Rattle.std.proofs.lemmas.Bool.{cases_Bool}
use Rattle.std.proofs.lemmas.Str.{IsUtf8-from_is_utf8, is_utf8-from_IsUtf8}
use Rattle.arz_query.specs.Words.{chosen}
use Rattle.arz_query.specs.Lexical.{text_in, behind, after_byte, piece_at, quoted_within}

pub text_is : (b : List ℕ) → IsUtf8 b → text_in b ≡ Some b
unfolding text_in
text_is b u = rw (is_utf8-from_IsUtf8 b u) refl

pub text_none : (b : List ℕ) → ¬ (IsUtf8 b) → text_in b ≡ None
unfolding text_in
text_none b u = elim (cases_Bool (is_utf8 b)) [
  | inl h ↦ absurd (u (IsUtf8-from_is_utf8 b h))
  | inr h ↦ rw h refl
]

-- ---- a piece at a time

abbrev pub next : ℕ → ℕ → Option (List ℕ) → Option (List ℕ × List ℕ) → Option (List ℕ × List ℕ)
next n q end piece = chosen end (λ rest. Some ([], rest)) (option_and_then (λ p. option_map (behind p.0) (quoted_within n q p.1)) piece)

pub turn : (m n q : ℕ) (s : List ℕ) → m ≡ suc n → quoted_within m q s ≡ next n q (after_byte q s) (piece_at q s)
unfolding quoted_within
turn m n q s e = ap (λ k. quoted_within k q s) e

nothing_more : (front : List ℕ) (r : List ℕ) → behind front ([], r) ≡ (front, r)
nothing_more front r = ap (λ (f : List ℕ). (f, r)) (append-nil front)

fronts : (front piece : List ℕ) (o : Option (List ℕ × List ℕ)) → option_map (behind front) (option_map (behind piece) o) ≡ option_map (behind (front ++ piece)) o
fronts front piece None = refl
fronts front piece (Some p) = ap (λ (f : List ℕ). Some (f, p.1)) (sym (append_assoc front piece p.0))

pub quoted_ends : (n k q : ℕ) (front s r : List ℕ) → k < n → after_byte q s ≡ Some r → option_map (behind front) (quoted_within (n - k) q s) ≡ Some (front, r)
quoted_ends n k q front s r h e =
    ap (option_map (behind front)) (turn (n - k) (n - (k + 1)) q s (omega arith) ∙ ap (λ o. next (n - (k + 1)) q o (piece_at q s)) e) ∙ ap (λ (p : List ℕ × List ℕ). Some p) (nothing_more front r)

pub quoted_fails : (n k q : ℕ) (front s : List ℕ) → k < n → after_byte q s ≡ None → option_map (behind front) (piece_at q s) ≡ None → option_map (behind front) (quoted_within (n - k) q s) ≡ None
quoted_fails n k q front s h e f =
    ap (option_map (behind front)) (turn (n - k) (n - (k + 1)) q s (omega arith) ∙ ap (λ o. next (n - (k + 1)) q o (piece_at q s)) e ∙ ap (next (n - (k + 1)) q None) (lacks (piece_at q s) f))
  where
    lacks : (o : Option (List ℕ × List ℕ)) → option_map (behind front) o ≡ None → o ≡ None
    lacks None e = refl
    lacks (Some p) e = cc

pub quoted_takes : (n k q : ℕ) (front s more r : List ℕ) → k < n → after_byte q s ≡ None → option_map (behind front) (piece_at q s) ≡ Some (more, r) →
    option_map (behind front) (quoted_within (n - k) q s) ≡ option_map (behind more) (quoted_within (n - (k + 1)) q r)
quoted_takes n k q front s more r h e f =
    ap (option_map (behind front)) (turn (n - k) (n - (k + 1)) q s (omega arith) ∙ ap (λ o. next (n - (k + 1)) q o (piece_at q s)) e) ∙ one (piece_at q s) f
  where
    one : (o : Option (List ℕ × List ℕ)) → option_map (behind front) o ≡ Some (more, r) →
        option_map (behind front) (option_and_then (λ p. option_map (behind p.0) (quoted_within (n - (k + 1)) q p.1)) o) ≡ option_map (behind more) (quoted_within (n - (k + 1)) q r)
    one None e = cc
    one (Some p) e = fronts front p.0 (quoted_within (n - (k + 1)) q p.1) ∙ grind (arith, e)

pub quoted_none : (n q : ℕ) (front s : List ℕ) → n ≡ 0 → option_map (behind front) (quoted_within n q s) ≡ None
unfolding quoted_within
quoted_none n q front s e = ap (λ k. option_map (behind front) (quoted_within k q s)) e
