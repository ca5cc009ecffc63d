-- Escaping goes character by character: the bytes of a character past U+007F are copied.
use Rattle.std.proofs.Common.{◌≡◌, inl, inr, ℕ, suc, ◌<◌, ◌≤◌, Bool, true, false, cond, List, [], ◌∷◌, ◌++◌, length, codes, get_or, lit<, ◌==◌, refl, ap, sym, ◌∙◌, arith, append_assoc, append-nil, encode_utf8}
use Rattle.std.proofs.lemmas.Bool.{ne_eqb, eqb-true, cases_lt}
use Rattle.std.proofs.lemmas.Str.{encode_ascii, inside_one}
use Rattle.arz_rules.specs.Pointer.{escaped, escaped_byte, escaped_char}

other : (k b : ℕ) → k < 128 → 128 ≤ b → (b == k) ≡ false
other k b small big = ne_eqb b k (λ same. omega arith)

AllHigh : List ℕ → Type 0
AllHigh bytes = (k : ℕ) → k < length bytes → 128 ≤ get_or bytes k 0

tail_high : (b : ℕ) (bytes : List ℕ) → AllHigh (b ∷ bytes) → AllHigh bytes
unfolding AllHigh
tail_high b bytes high = λ k below. high (suc k) (omega arith)

head_high : (b : ℕ) (bytes : List ℕ) → AllHigh (b ∷ bytes) → 128 ≤ b
unfolding AllHigh
head_high b bytes high = high 0 (omega arith)

high_byte : (b : ℕ) → 128 ≤ b → escaped_byte b ≡ b ∷ []
high_byte b big = rw (other 126 b (lit< tt) big, other 47 b (lit< tt) big) refl

all_high : (bytes text : List ℕ) → AllHigh bytes → escaped (bytes ++ text) ≡ bytes ++ escaped text
all_high [] text high = refl
all_high (b ∷ bytes) text high = ap (λ l. l ++ escaped (bytes ++ text)) (high_byte b (head_high b bytes high)) ∙ ap (λ l. b ∷ l) (all_high bytes text (tail_high b bytes high))

encode_high : (c : ℕ) → 128 ≤ c → AllHigh (encode_utf8 c)
unfolding AllHigh
encode_high c big = λ k below. elim (cases_lt (get_or (encode_utf8 c) k 0) 128) [
  | inl low ↦ absurd (omega (arith, inside_one c [] (encode_utf8 c) k (sym (append-nil (encode_utf8 c))) below low))
  | inr high ↦ high
]

plain_char : (c : ℕ) (rest : List ℕ) → (c == 126) ≡ false → (c == 47) ≡ false → escaped (encode_utf8 c ++ rest) ≡ encode_utf8 c ++ escaped rest
plain_char c rest tilde slash = elim (cases_lt c 128) [
  | inl small ↦ rw (encode_ascii c small, tilde, slash) refl
  | inr big ↦ all_high (encode_utf8 c) rest (encode_high c big)
]

char_at : (c : ℕ) (rest : List ℕ) (tilde slash : Bool) → (c == 126) ≡ tilde → (c == 47) ≡ slash
    → escaped (encode_utf8 c ++ rest) ≡ cond tilde (codes "~0") (cond slash (codes "~1") (encode_utf8 c)) ++ escaped rest
char_at c rest true slash t s = rw (eqb-true c 126 t, encode_ascii 126 (lit< tt)) refl
char_at c rest false true t s = rw (eqb-true c 47 s, encode_ascii 47 (lit< tt)) refl
char_at c rest false false t s = plain_char c rest t s

-- one character more is written
pub char_step : (c : ℕ) (whole out text rest : List ℕ) → whole ≡ out ++ escaped text → text ≡ encode_utf8 c ++ rest → whole ≡ (out ++ escaped_char c) ++ escaped rest
char_step c whole out text rest now next =
    now ∙ ap (λ t. out ++ escaped t) next ∙ ap (λ l. out ++ l) (char_at c rest (c == 126) (c == 47) refl refl) ∙ sym (append_assoc out (escaped_char c) (escaped rest))
