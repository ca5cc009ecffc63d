-- Names at the front of a text.
use Rattle.std.proofs.Common.{◌≡◌, inl, inr, ℕ, zero, suc, ◌<◌, ◌≤◌, Bool, true, false, nat_lt, List, [], ◌∷◌, ◌++◌, length, get_or, take, drop, Some, IfSome, IsUtf8, refl, ap, ◌∙◌, arith, add-one}
use Rattle.std.specs.List.{list_all}
use Rattle.std.specs.Str.{IsCharBoundary}
use Rattle.std.proofs.lemmas.Bool.{cases_Bool, and_parts}
use Rattle.std.proofs.lemmas.Str.{IsCharBoundary-start, IsCharBoundary-after_ascii}
use Rattle.arz_expr.specs.Grammar.{is_name_byte, is_name}
use Rattle.arz_expr.specs.Reading.{cut, name_of, name_at}
use Rattle.arz_expr.proofs.Options.{if_some}

-- a byte of a name comes first
abbrev pub begins_name : List ℕ → Bool
begins_name [] = false
begins_name (b ∷ text) = is_name_byte b

pub cut-whole : (text : List ℕ) → text ≡ (cut text).0 ++ (cut text).1
cut-whole [] = refl
cut-whole (b ∷ text) =
    elim (cases_Bool (is_name_byte b)) [
      | inl h ↦ rw h (ap (λ t. b ∷ t) (cut-whole text))
      | inr h ↦ rw h refl
    ]

pub cut-passes : (text : List ℕ) → list_all is_name_byte (cut text).0 ≡ true
cut-passes [] = refl
cut-passes (b ∷ text) =
    elim (cases_Bool (is_name_byte b)) [
      | inl h ↦ simp h (cut-passes text)
      | inr h ↦ rw h refl
    ]

pub cut-front : (name rest : List ℕ) → list_all is_name_byte name ≡ true → begins_name rest ≡ false → cut (name ++ rest) ≡ (name, rest)
cut-front [] [] all stop = refl
cut-front [] (b ∷ rest) all stop = rw stop refl
cut-front (b ∷ name) rest all stop =
    let parts = and_parts (is_name_byte b) (list_all is_name_byte name) all in
    rw parts.0 (ap (λ c. (b ∷ c.0, c.1)) (cut-front name rest parts.1 stop))

pub begins-drop : (text : List ℕ) (i : ℕ) → (i < length text → is_name_byte (get_or text i 0) ≡ false) → begins_name (drop i text) ≡ false
begins-drop [] zero h = refl
begins-drop [] (suc i) h = refl
begins-drop (b ∷ text) zero h = h (omega arith)
begins-drop (b ∷ text) (suc i) h = begins-drop text i (λ lt. h (omega arith))

pub take-drop : (text : List ℕ) (i : ℕ) → text ≡ take i text ++ drop i text
take-drop [] zero = refl
take-drop [] (suc i) = refl
take-drop (b ∷ text) zero = refl
take-drop (b ∷ text) (suc i) = ap (λ t. b ∷ t) (take-drop text i)

-- the run of bytes of a name ends where the loop stops
pub cut-at : (text : List ℕ) (i : ℕ) → list_all is_name_byte (take i text) ≡ true → (i < length text → is_name_byte (get_or text i 0) ≡ false) → cut text ≡ (take i text, drop i text)
cut-at text i all stop = ap cut (take-drop text i) ∙ cut-front (take i text) (drop i text) all (begins-drop text i stop)

pub boundary : (text : List ℕ) (i : ℕ) → IsUtf8 text → i ≤ length text → ((k : ℕ) → k < i → get_or text k 0 < 128) → IsCharBoundary text i
boundary text zero u le h = IsCharBoundary-start text u
boundary text (suc i) u le h = rw (← add-one i) (IsCharBoundary-after_ascii text i u (omega arith) (h i (omega arith)))

name_of-parts : (c n : List ℕ × List ℕ) → name_of c ≡ Some n → list_all is_name_byte c.0 ≡ true → (is_name n.0 ≡ true) × (c ≡ n)
name_of-parts c n e all = grind arith

pub name_at-parts : (text : List ℕ) → IfSome (name_at text) (λ n. (is_name n.0 ≡ true) × (text ≡ n.0 ++ n.1))
unfolding name_at
name_at-parts text =
    if_some (name_at text) (λ n. (is_name n.0 ≡ true) × (text ≡ n.0 ++ n.1)) (λ n e. let p = name_of-parts (cut text) n e (cut-passes text) in (p.0, cut-whole text ∙ ap (λ (c : List ℕ × List ℕ). c.0 ++ c.1) p.1))

pub name_at-front : (name rest : List ℕ) → is_name name ≡ true → begins_name rest ≡ false → name_at (name ++ rest) ≡ Some (name, rest)
unfolding name_at
name_at-front name rest is stop =
    let parts = and_parts (nat_lt 0 (length name)) (list_all is_name_byte name) is in
    ap name_of (cut-front name rest parts.1 stop) ∙ rw parts.0 refl
