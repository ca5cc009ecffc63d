-- The mapping goes character by character: the bytes of a character past U+007F are copied.
use Rattle.std.proofs.Common.{◌≡◌, inl, inr, ℕ, suc, ◌<◌, ◌≤◌, Bool, true, false, List, [], ◌∷◌, ◌++◌, length, codes, get_or, lit<, ◌==◌, ◌&&◌, not, refl, ap, sym, ◌∙◌, arith, append_assoc, append-nil, encode_utf8}
use Rattle.std.proofs.lemmas.Bool.{ne_eqb, eqb-true, cases_lt, and_parts}
use Rattle.std.proofs.lemmas.Str.{encode_ascii, inside_one, length-encode}
use Rattle.std.proofs.lemmas.Bool.Decides.{nat_tests}
use Rattle.arz_rx.specs.Mapping.{is_any, escapes, opens, mapped_from}

other : (k b : ℕ) → k < 128 → 128 ≤ b → (b == k) ≡ false
other k b small big = ne_eqb b k (λ same. omega arith)

-- a byte of such a character
high_byte : (escaped inside : Bool) (b : ℕ) (text : List ℕ) → 128 ≤ b → mapped_from escaped inside (b ∷ text) ≡ b ∷ mapped_from false inside text
high_byte true inside b text big = refl
high_byte false true b text big = rw (other 92 b (lit< tt) big, other 91 b (lit< tt) big, other 93 b (lit< tt) big) refl
high_byte false false b text big = rw (other 46 b (lit< tt) big, other 92 b (lit< tt) big, other 91 b (lit< tt) big) refl

AllHigh : List ℕ → Type 0
AllHigh bytes = (k : ℕ) → k < length bytes → 128 ≤ get_or bytes k 0

tail_high : (b : ℕ) (bytes : List ℕ) → AllHigh (b ∷ bytes) → AllHigh bytes
unfolding AllHigh
tail_high b bytes high = λ k below. high (suc k) (omega arith)

head_high : (b : ℕ) (bytes : List ℕ) → AllHigh (b ∷ bytes) → 128 ≤ b
unfolding AllHigh
head_high b bytes high = high 0 (omega arith)

rest_high : (inside : Bool) (bytes text : List ℕ) → AllHigh bytes → mapped_from false inside (bytes ++ text) ≡ bytes ++ mapped_from false inside text
rest_high inside [] text high = refl
rest_high inside (b ∷ bytes) text high =
    high_byte false inside b (bytes ++ text) (head_high b bytes high) ∙ ap (λ l. b ∷ l) (rest_high inside bytes text (tail_high b bytes high))

all_high : (escaped inside : Bool) (bytes text : List ℕ) → 0 < length bytes → AllHigh bytes → mapped_from escaped inside (bytes ++ text) ≡ bytes ++ mapped_from false inside text
all_high escaped inside [] text some high = absurd (omega arith)
all_high escaped inside (b ∷ bytes) text some high =
    high_byte escaped inside b (bytes ++ text) (head_high b bytes high) ∙ ap (λ l. b ∷ l) (rest_high inside bytes text (tail_high b bytes high))

encode_high : (c : ℕ) → 128 ≤ c → AllHigh (encode_utf8 c)
unfolding AllHigh
encode_high c big = λ k below. elim (cases_lt (get_or (encode_utf8 c) k 0) 128) [
  | inl low ↦ absurd (omega (arith, inside_one c [] (encode_utf8 c) k (sym (append-nil (encode_utf8 c))) below low))
  | inr high ↦ high
]

filled : (c : ℕ) → 0 < length (encode_utf8 c)
filled c = rw (length-encode c) (grind (arith, nat_tests))

big_char : (escaped inside : Bool) (c : ℕ) (rest : List ℕ) → 128 ≤ c
    → mapped_from escaped inside (encode_utf8 c ++ rest) ≡ encode_utf8 c ++ mapped_from (escapes escaped c) (opens escaped inside c) rest
big_char true inside c rest big = all_high true inside (encode_utf8 c) rest (filled c) (encode_high c big)
big_char false true c rest big =
    rw (other 92 c (lit< tt) big, other 91 c (lit< tt) big, other 93 c (lit< tt) big) (all_high false true (encode_utf8 c) rest (filled c) (encode_high c big))
big_char false false c rest big =
    rw (other 92 c (lit< tt) big, other 91 c (lit< tt) big) (all_high false false (encode_utf8 c) rest (filled c) (encode_high c big))

copied_char : (escaped inside : Bool) (c : ℕ) (rest : List ℕ) → is_any escaped inside c ≡ false
    → mapped_from escaped inside (encode_utf8 c ++ rest) ≡ encode_utf8 c ++ mapped_from (escapes escaped c) (opens escaped inside c) rest
copied_char escaped inside c rest plain = elim (cases_lt c 128) [
  | inl small ↦ rw (encode_ascii c small, plain) refl
  | inr big ↦ big_char escaped inside c rest big
]

dot_only : (escaped inside : Bool) (c : ℕ) → is_any escaped inside c ≡ true → c ≡ 46
dot_only escaped inside c any = eqb-true c 46 (and_parts (not escaped && not inside) (c == 46) any).1

dot_char : (escaped inside : Bool) (c : ℕ) (rest : List ℕ) → is_any escaped inside c ≡ true
    → mapped_from escaped inside (encode_utf8 c ++ rest) ≡ codes "[^\\n\\r]" ++ mapped_from (escapes escaped c) (opens escaped inside c) rest
dot_char escaped inside c rest any =
    let small : c < 128 = rw (dot_only escaped inside c any) (lit< tt) in
    rw (encode_ascii c small, any) refl

-- one character more is copied
pub copies : (escaped inside : Bool) (c : ℕ) (whole out text rest : List ℕ) → whole ≡ out ++ mapped_from escaped inside text → text ≡ encode_utf8 c ++ rest
    → is_any escaped inside c ≡ false → whole ≡ (out ++ encode_utf8 c) ++ mapped_from (escapes escaped c) (opens escaped inside c) rest
copies escaped inside c whole out text rest now next plain =
    now ∙ ap (λ t. out ++ mapped_from escaped inside t) next ∙ ap (λ l. out ++ l) (copied_char escaped inside c rest plain)
    ∙ sym (append_assoc out (encode_utf8 c) (mapped_from (escapes escaped c) (opens escaped inside c) rest))

-- one dot more is written out
pub writes_out : (escaped inside : Bool) (c : ℕ) (whole out text rest : List ℕ) → whole ≡ out ++ mapped_from escaped inside text → text ≡ encode_utf8 c ++ rest
    → is_any escaped inside c ≡ true → whole ≡ (out ++ codes "[^\\n\\r]") ++ mapped_from (escapes escaped c) (opens escaped inside c) rest
writes_out escaped inside c whole out text rest now next any =
    now ∙ ap (λ t. out ++ mapped_from escaped inside t) next ∙ ap (λ l. out ++ l) (dot_char escaped inside c rest any)
    ∙ sym (append_assoc out (codes "[^\\n\\r]") (mapped_from (escapes escaped c) (opens escaped inside c) rest))
