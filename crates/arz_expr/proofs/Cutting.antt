-- The pieces of a text, cut by cut.
use Rattle.std.proofs.Common.{◌≡◌, inl, inr, ℕ, ◌+◌, ◌<◌, ◌≤◌, List, [], ◌∷◌, ◌++◌, map, length, take, drop, Option, Some, None, option_map, option_and_then, MatchOption, Bor, refl, ap, sym, ◌∙◌, subst, arith, lit<, append_assoc, append-nil, length-append}
use Rattle.std.specs.Str.Pattern.{RFindsChar}
use Rattle.std.proofs.lemmas.Bool.{ne_eqb, eq-eqb, cases_eq}
use Rattle.std.proofs.lemmas.Str.Pattern.{NoCharPasses-char, drop_at_char}
use Rattle.serde_json.proofs.Paths.{Lacks}
use Rattle.arz_json.proofs.Lacks.{lacks-rest, lacks-first}
use Rattle.arz_expr.specs.Grammar.{printed}
use Rattle.arz_expr.specs.Reading.{reading}
use Rattle.arz_expr.specs.Filling.{Embedded, Byte, before_brace, braced, piece_of, others_of, pieces_after, pieces}
use Rattle.arz_expr.specs.Cuts.{OpensNone}
use Rattle.arz_expr.specs.declared.syntax.Expr.{Expr}
use Rattle.arz_expr.proofs.Runs.{take-drop}
use Rattle.arz_expr.proofs.Plain.{reading-printed, reading-open}

lacks-behind : (c : ℕ) (xs ys : List ℕ) → Lacks c (xs ++ ys) → Lacks c ys
lacks-behind c [] ys lacks = lacks
lacks-behind c (x ∷ xs) ys lacks = lacks-behind c xs ys (lacks-rest c x (xs ++ ys) lacks)

-- ---- what stands before a `}`

before-some : (xs rest : List ℕ) → Lacks 125 xs → before_brace (xs ++ 125 ∷ rest) ≡ Some xs
before-some [] rest lacks = refl
before-some (x ∷ xs) rest lacks =
    rw (ne_eqb x 125 (lacks-first 125 x xs lacks)) (ap (option_map (λ text. x ∷ text)) (before-some xs rest (lacks-rest 125 x xs lacks)))

before-none : (xs : List ℕ) → Lacks 125 xs → before_brace xs ≡ None
before-none [] lacks = refl
before-none (x ∷ xs) lacks =
    rw (ne_eqb x 125 (lacks-first 125 x xs lacks)) (ap (option_map (λ text. x ∷ text)) (before-none xs (lacks-rest 125 x xs lacks)))

-- ---- bytes that stand for themselves

-- no `{` in front begins an expression where tail follows
abbrev PlainBefore : List ℕ → List ℕ → Type 0
PlainBefore plain tail = (front inside : List ℕ) → plain ≡ front ++ 123 ∷ inside → option_and_then reading (before_brace (inside ++ tail)) ≡ None

braced-none : (b : ℕ) (plain tail : List ℕ) → PlainBefore (b ∷ plain) tail → braced (b ∷ (plain ++ tail)) ≡ None
braced-none b plain tail none =
    elim (cases_eq b 123) [
      | inl e ↦ rw (eq-eqb b 123 e) (none [] plain (ap (λ x. x ∷ plain) e))
      | inr ne ↦ rw (ne_eqb b 123 ne) refl
    ]

pieces-byte : (b : ℕ) (rest : List ℕ) → braced (b ∷ rest) ≡ None → pieces (b ∷ rest) ≡ Byte b ∷ pieces rest
pieces-byte b rest none = ap (λ (o : Option Expr). piece_of o b ∷ pieces_after (others_of o) rest) none

pieces-plain : (plain tail : List ℕ) → PlainBefore plain tail → pieces (plain ++ tail) ≡ map Byte plain ++ pieces tail
pieces-plain [] tail none = refl
pieces-plain (b ∷ plain) tail none =
    pieces-byte b (plain ++ tail) (braced-none b plain tail none)
    ∙ ap (λ ps. Byte b ∷ ps) (pieces-plain plain tail (λ front inside is. none (b ∷ front) inside (ap (λ t. b ∷ t) is)))

-- ---- an expression with its braces

-- the bytes that belong to a piece before are passed over
pieces-skip : (xs ys : List ℕ) → pieces_after (length xs) (xs ++ ys) ≡ pieces ys
pieces-skip [] ys = refl
pieces-skip (x ∷ xs) ys = pieces-skip xs ys

pieces-passed : (inside rest : List ℕ) (n : ℕ) → n ≡ length inside → pieces_after (n + 1) (inside ++ 125 ∷ rest) ≡ pieces rest
pieces-passed inside rest n is =
    let size : n + 1 ≡ length (inside ++ 125 ∷ []) = omega (arith, is, length-append inside (125 ∷ [])) in
    ap (λ k. pieces_after k (inside ++ 125 ∷ rest)) size ∙ ap (pieces_after (length (inside ++ 125 ∷ []))) (sym (append_assoc inside (125 ∷ []) rest))
    ∙ pieces-skip (inside ++ 125 ∷ []) rest

pieces-embedded : (inside rest : List ℕ) (e : Expr) → reading inside ≡ Some e → Lacks 125 inside → pieces (123 ∷ (inside ++ 125 ∷ rest)) ≡ Embedded e ∷ pieces rest
pieces-embedded inside rest e reads lacks =
    let found : braced (123 ∷ (inside ++ 125 ∷ rest)) ≡ Some e = ap (option_and_then reading) (before-some inside rest lacks) ∙ reads in
    ap (λ (o : Option Expr). piece_of o 123 ∷ pieces_after (others_of o) (inside ++ 125 ∷ rest)) found
    ∙ ap (λ ps. Embedded e ∷ ps) (pieces-passed inside rest (length (printed e)) (ap length (sym (reading-printed inside e reads))))

-- ---- cuts

shorter : (front rest : List ℕ) → length rest < length (front ++ 125 ∷ rest)
shorter front rest = omega (arith, length-append front (125 ∷ rest))

-- behind an expression
pub cut-embedded : (text front rest plain inside : List ℕ) (e : Expr) → text ≡ front ++ 125 ∷ rest → Lacks 125 front → front ≡ plain ++ 123 ∷ inside → reading inside ≡ Some e
    → (pieces text ≡ (map Byte plain ++ Embedded e ∷ []) ++ pieces rest) × (length rest < length text)
cut-embedded text front rest plain inside e is lacks cut reads =
    let whole : Lacks 125 (plain ++ 123 ∷ inside) = subst (Lacks 125) cut lacks in
    let tail = 123 ∷ (inside ++ 125 ∷ rest) in
    let none : PlainBefore plain tail = λ f i at.
    let behind : Lacks 125 (i ++ 123 ∷ inside) =
    lacks-rest 125 123 (i ++ 123 ∷ inside) (lacks-behind 125 f (123 ∷ (i ++ 123 ∷ inside)) (subst (Lacks 125) (ap (λ t. t ++ 123 ∷ inside) at ∙ append_assoc f (123 ∷ i) (123 ∷ inside)) whole)) in
    ap (λ t. option_and_then reading (before_brace t)) (sym (append_assoc i (123 ∷ inside) (125 ∷ rest)))
    ∙ ap (option_and_then reading) (before-some (i ++ 123 ∷ inside) rest behind) ∙ reading-open i inside in (
      ap pieces (is ∙ ap (λ t. t ++ 125 ∷ rest) cut ∙ append_assoc plain (123 ∷ inside) (125 ∷ rest)) ∙ pieces-plain plain tail none
          ∙ ap (λ ps. map Byte plain ++ ps) (pieces-embedded inside rest e reads (lacks-rest 125 123 inside (lacks-behind 125 plain (123 ∷ inside) whole)))
          ∙ sym (append_assoc (map Byte plain) (Embedded e ∷ []) (pieces rest)),
      rw is (shorter front rest),
    )

-- behind a `}` that ends none
pub cut-plain : (text front rest : List ℕ) → text ≡ front ++ 125 ∷ rest → Lacks 125 front → OpensNone front
    → (pieces text ≡ (map Byte front ++ Byte 125 ∷ []) ++ pieces rest) × (length rest < length text)
cut-plain text front rest is lacks opens =
    let none : PlainBefore front (125 ∷ rest) = λ f i at.
    let behind : Lacks 125 i = lacks-rest 125 123 i (lacks-behind 125 f (123 ∷ i) (subst (Lacks 125) at lacks)) in
    ap (option_and_then reading) (before-some i rest behind) ∙ opens f i at in (
      ap pieces is ∙ pieces-plain front (125 ∷ rest) none ∙ sym (append_assoc (map Byte front) (Byte 125 ∷ []) (pieces rest)),
      rw is (shorter front rest),
    )

-- a text without `}`
pub pieces-all : (text : List ℕ) → Lacks 125 text → pieces text ≡ map Byte text
pieces-all text lacks =
    let none : PlainBefore text [] = λ f i at.
    let behind : Lacks 125 i = lacks-rest 125 123 i (lacks-behind 125 f (123 ∷ i) (subst (Lacks 125) at lacks)) in
    ap (λ t. option_and_then reading (before_brace t)) (append-nil i) ∙ ap (option_and_then reading) (before-none i behind) in
    ap pieces (sym (append-nil text)) ∙ pieces-plain text [] none ∙ append-nil (map Byte text)

-- ---- the last `{` of a text

pub opens-none : (text : List ℕ) → Lacks 123 text → OpensNone text
opens-none text lacks front inside is = absurd (lacks-first 123 123 inside (lacks-behind 123 front (123 ∷ inside) (subst (Lacks 123) is lacks)) refl)

none-before : (xs ys plain inside : List ℕ) → xs ++ 123 ∷ ys ≡ plain ++ 123 ∷ inside → Lacks 123 inside → reading inside ≡ None → reading ys ≡ None
none-before [] ys [] inside e lacks none = let same : ys ≡ inside = cc in ap reading same ∙ none
none-before [] ys (p ∷ plain) inside e lacks none = let same : ys ≡ plain ++ 123 ∷ inside = cc in ap reading same ∙ reading-open plain inside
none-before (x ∷ xs) ys [] inside e lacks none =
    let same : inside ≡ xs ++ 123 ∷ ys = cc in opens-none inside lacks xs ys same
none-before (x ∷ xs) ys (p ∷ plain) inside e lacks none =
    let same : xs ++ 123 ∷ ys ≡ plain ++ 123 ∷ inside = cc in none-before xs ys plain inside same lacks none

pub opens-none-last : (text plain inside : List ℕ) → text ≡ plain ++ 123 ∷ inside → Lacks 123 inside → reading inside ≡ None → OpensNone text
opens-none-last text plain inside is lacks none front ys at = none-before front ys plain inside (sym at ∙ is) lacks none

-- what `rsplit_once` gives
pub last-parts : (text : List ℕ) (r : Option (Bor (List ℕ) × Bor (List ℕ)))
    → MatchOption r (RFindsChar 123 text None) (λ x. (i : ℕ) × (j : ℕ) × RFindsChar 123 text (Some (i, j)) × (x.0.now ≡ take i text) × (x.1.now ≡ drop j text)
    × (i ≤ j) × (length x.0.now ≡ i) × (length x.1.now + j ≡ length text))
    → MatchOption r (Lacks 123 text) (λ x. (text ≡ x.0.now ++ 123 ∷ x.1.now) × Lacks 123 x.1.now)
last-parts text None h = λ i lt. NoCharPasses-char 123 text i h (lit< tt) lt
last-parts text (Some x) h =
    let j = h.1 in (
      take-drop text h.0 ∙ ap (λ t. take h.0 text ++ t) (drop_at_char 123 text h.0 j h.2.1 (lit< tt))
          ∙ sym (ap (λ t. t ++ 123 ∷ drop j text) h.3) ∙ sym (ap (λ t. x.0.now ++ 123 ∷ t) h.4),
      subst (Lacks 123) (sym h.4) (λ i lt. NoCharPasses-char 123 (drop j text) i h.2.0 (lit< tt) lt),
    )
