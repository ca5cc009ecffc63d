-- Which bytes are percent-encoded.
use Rattle.std.proofs.Common.{◌≡◌, ℕ, ◌<◌, ◌≤◌, Bool, true, false, cond, not, ◌||◌, ◌==◌, codes, List, [], ◌∷◌, ◌++◌, refl, ap, sym, ◌∙◌, ⊎_elim, arith}
use Rattle.std.specs.List.{flat_map, list_all, list_any}
use Rattle.std.specs.Char.{is_ascii, is_ascii_alphanumeric}
use Rattle.std.proofs.lemmas.Bool.{agree_below, agree_below_at, cases_lt, and_parts}
use Rattle.std.proofs.lemmas.Bool.Decides.{nat_tests}
use Rattle.std.proofs.lemmas.List.Concat.{flat_map-cons}
use Rattle.percent_encoding.specs.AsciiSet.{contains, should_percent_encode}
use Rattle.percent_encoding.specs.Percent.{percent_encode_byte, encode_byte, percent_encode}
use Rattle.arz_target.specs.Templates.{is_path_byte, path_byte}
use Rattle.arz_target.specs.declared.escapes.TheConstants.{OUTSIDE_PATHS}

abbrev path_marks : List ℕ
path_marks = codes "-._~!$&'()*+,;=:@/%"

-- the set has the ASCII bytes that may not stand in a path
checked : agree_below (contains OUTSIDE_PATHS) (λ b. not (is_path_byte b)) 128 ≡ true
checked = refl

below : (b : ℕ) → b < 128 → should_percent_encode OUTSIDE_PATHS b ≡ not (is_path_byte b)
unfolding should_percent_encode
below b ascii =
    let low : is_ascii b ≡ true = grind (arith, nat_tests) in
    ap (λ t. not t || contains OUTSIDE_PATHS b) low ∙ agree_below_at (contains OUTSIDE_PATHS) (λ x. not (is_path_byte x)) 128 b checked ascii

-- a byte past ASCII is none of some ASCII bytes
none-of : (b : ℕ) (xs : List ℕ) → list_all is_ascii xs ≡ true → 128 ≤ b → list_any (λ c. c == b) xs ≡ false
none-of b [] ascii far = refl
none-of b (x ∷ xs) ascii far =
    let parts = and_parts (is_ascii x) (list_all is_ascii xs) ascii in
    let other : (x == b) ≡ false = grind (arith, nat_tests, parts.0) in
    rw other (none-of b xs parts.1 far)

no-path-byte : (b : ℕ) → 128 ≤ b → is_path_byte b ≡ false
no-path-byte b far =
    let letter : is_ascii_alphanumeric b ≡ false = grind (arith, nat_tests) in
    ap (λ t. t || list_any (λ c. c == b) path_marks) letter ∙ none-of b path_marks refl far

above : (b : ℕ) → 128 ≤ b → should_percent_encode OUTSIDE_PATHS b ≡ not (is_path_byte b)
unfolding should_percent_encode
above b far =
    let high : is_ascii b ≡ false = grind (arith, nat_tests) in
    ap (λ t. not t || contains OUTSIDE_PATHS b) high ∙ sym (ap not (no-path-byte b far))

encodes : (b : ℕ) → should_percent_encode OUTSIDE_PATHS b ≡ not (is_path_byte b)
encodes b = ⊎_elim (below b) (above b) (cases_lt b 128)

cond-not : {A : Type 0} (b : Bool) (x y : A) → cond (not b) x y ≡ cond b y x
cond-not true x y = refl
cond-not false x y = refl

byte : (b : ℕ) → encode_byte OUTSIDE_PATHS b ≡ path_byte b
byte b = ap (λ t. cond t (percent_encode_byte b) (b ∷ [])) (encodes b) ∙ cond-not (is_path_byte b) (percent_encode_byte b) (b ∷ [])

bytes : (text : List ℕ) → flat_map (encode_byte OUTSIDE_PATHS) text ≡ flat_map path_byte text
bytes [] = refl
bytes (b ∷ text) =
    flat_map-cons (encode_byte OUTSIDE_PATHS) b text ∙ ap (λ x. x ++ flat_map (encode_byte OUTSIDE_PATHS) text) (byte b) ∙ ap (λ ys. path_byte b ++ ys) (bytes text)
    ∙ sym (flat_map-cons path_byte b text)

pub encode-plain : (text : List ℕ) → percent_encode OUTSIDE_PATHS text ≡ flat_map path_byte text
unfolding percent_encode
encode-plain text = bytes text
