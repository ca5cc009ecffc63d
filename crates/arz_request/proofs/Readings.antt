-- What a text spells: an expression, a JSON value, and what stands before its first `;`.
use Rattle.std.proofs.Common.{◌≡◌, ◌==◌, ◌<◌, ◌≤◌, ℕ, List, length, get_or, take, Bool, true, false, Option, Some, None, IfSome, refl, sym, ap, IsUtf8}
use Rattle.std.specs.List.{before_first}
use Rattle.std.specs.Str.{is_utf8}
use Rattle.std.proofs.lemmas.List.Sums.{position_or_len_is}
use Rattle.std.proofs.lemmas.Str.{IsUtf8-from_is_utf8, is_utf8-from_IsUtf8}
use Rattle.serde_json.specs.Read.{read}
use Rattle.arz_json.specs.Reading.{Reads as ReadsAs}
use Rattle.arz_json.specs.declared.Json.{Json}
use Rattle.arz_expr.specs.Grammar.{Reads}
use Rattle.arz_expr.specs.Reading.{reading}
use Rattle.arz_expr.specs.declared.syntax.Expr.{Expr}
use Rattle.arz_expr.proofs.Endings.{reading-sound, reading-complete}
use Rattle.arz_request.specs.Payloads.{json_of}

-- ---- expressions

none-at : (text : List ℕ) (o : Option Expr) → IfSome o (Reads text) → ((e : Expr) → Reads text e → None ≡ Some e) → None ≡ o
none-at text None h all = refl
none-at text (Some e) h all = all e h

-- what reads is the reading
pub reading-is : (text : List ℕ) (o : Option Expr) → IfSome o (Reads text) → ((e : Expr) → Reads text e → o ≡ Some e) → o ≡ reading text
reading-is text None h all = none-at text (reading text) (reading-sound text) all
reading-is text (Some e) h all = sym (reading-complete text e h)

-- ---- JSON

pub json_of-read : (bytes : List ℕ) (j : Json) → ReadsAs bytes j → json_of bytes ≡ Some j
json_of-read bytes j (u, d, reads, is) = rw (is_utf8-from_IsUtf8 bytes u, reads, is) refl

json_of-at : (bytes : List ℕ) (b : Bool) → is_utf8 bytes ≡ b → (IsUtf8 bytes → read bytes ≡ None) → json_of bytes ≡ None
json_of-at bytes true e n = rw (e, n (IsUtf8-from_is_utf8 bytes e)) refl
json_of-at bytes false e n = rw e refl

pub json_of-not : (bytes : List ℕ) → (IsUtf8 bytes → read bytes ≡ None) → json_of bytes ≡ None
json_of-not bytes n = json_of-at bytes (is_utf8 bytes) refl n

-- ---- media types

-- up to the first `;`
pub cut-here : (xs : List ℕ) (i : ℕ) → i ≤ length xs → ((k : ℕ) → k < i → (get_or xs k 0 == 59) ≡ false) → (i < length xs → (get_or xs i 0 == 59) ≡ true) → take i xs ≡ before_first (λ b. b == 59) xs
cut-here xs i le below here = ap (λ n. take n xs) (sym (position_or_len_is (λ b. b == 59) xs i 0 le below here))
