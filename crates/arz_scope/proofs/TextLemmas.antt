-- Bytes as a text or as JSON.
use Rattle.std.proofs.Common.{◌≡◌, ◌==◌, ◌<◌, ◌≤◌, ℕ, List, length, get_or, take, Bool, true, false, Some, None, refl, sym, ap, IsUtf8}
use Rattle.std.specs.List.{before_first}
use Rattle.std.specs.Str.{is_utf8, bytes_eq}
use Rattle.std.proofs.lemmas.List.Sums.{position_or_len_is}
use Rattle.std.proofs.lemmas.Slice.Eq.{bytes_eq-Decides}
use Rattle.std.proofs.lemmas.Str.{IsUtf8-from_is_utf8, is_utf8-from_IsUtf8}
use Rattle.serde_json.specs.Read.{read}
use Rattle.arz_json.specs.Reading.{Reads}
use Rattle.arz_json.specs.declared.Json.{Json}
use Rattle.arz_json.specs.declared.Json.TheVariants.{Text}
use Rattle.arz_scope.specs.Bodies.{text_of, json_of}

pub text_of-utf8 : (bytes : List ℕ) → IsUtf8 bytes → Some (Text bytes) ≡ text_of bytes
text_of-utf8 bytes u = rw (is_utf8-from_IsUtf8 bytes u) refl

text_of-at : (bytes : List ℕ) (b : Bool) → is_utf8 bytes ≡ b → ¬ (IsUtf8 bytes) → None ≡ text_of bytes
text_of-at bytes true e n = absurd (n (IsUtf8-from_is_utf8 bytes e))
text_of-at bytes false e n = rw e refl

pub text_of-not : (bytes : List ℕ) → ¬ (IsUtf8 bytes) → None ≡ text_of bytes
text_of-not bytes n = text_of-at bytes (is_utf8 bytes) refl n

pub json_of-read : (bytes : List ℕ) (j : Json) → Reads bytes j → Some j ≡ json_of bytes
json_of-read bytes j (u, d, reads, is) = rw (is_utf8-from_IsUtf8 bytes u, reads, is) refl

json_of-at : (bytes : List ℕ) (b : Bool) → is_utf8 bytes ≡ b → (IsUtf8 bytes → read bytes ≡ None) → None ≡ json_of bytes
json_of-at bytes true e n = rw (e, n (IsUtf8-from_is_utf8 bytes e)) refl
json_of-at bytes false e n = rw e refl

pub json_of-not : (bytes : List ℕ) → (IsUtf8 bytes → read bytes ≡ None) → None ≡ json_of bytes
json_of-not bytes n = json_of-at bytes (is_utf8 bytes) refl n

-- up to the first `;`
pub cut-here : (xs : List ℕ) (i : ℕ) → i ≤ length xs → ((k : ℕ) → k < i → (get_or xs k 0 == 59) ≡ false) → (i < length xs → (get_or xs i 0 == 59) ≡ true) → take i xs ≡ before_first (λ b. b == 59) xs
cut-here xs i le below here = ap (λ n. take n xs) (sym (position_or_len_is (λ b. b == 59) xs i 0 le below here))

-- texts of two lengths differ
other-length-at : (a b : List ℕ) (r : Bool) → bytes_eq a b ≡ r → ¬ (length a ≡ length b) → false ≡ r
other-length-at a b true e n = absurd (n (ap length ((bytes_eq-Decides a b).0 e)))
other-length-at a b false e n = refl

pub other-length : (a b : List ℕ) → ¬ (length a ≡ length b) → false ≡ bytes_eq a b
other-length a b n = other-length-at a b (bytes_eq a b) refl n
