-- A row that changed, in the table of rows.
use Rattle.std.proofs.Common.{◌≡◌, inl, inr, ℕ, Bool, true, false, ◌&&◌, List, [], Option, Some, None, option_and_then, refl, ◌∙◌, if◌then◌else◌}
use Rattle.std.specs.Option.{unwrap_or, is_some}
use Rattle.std.specs.Str.{bytes_eq}
use Rattle.std.specs.Map.{update}
use Rattle.std.specs.BTreeMap.{BTreeMap, get_by_text}
use Rattle.std.specs.declared.string.String.{String}
use Rattle.std.specs.declared.alloc.Global.{Global}
use Rattle.std.proofs.lemmas.Bool.{cases_Bool}
use Rattle.std.proofs.lemmas.Slice.Eq.{bytes_eq-Decides}
use Rattle.arz_rx.specs.Table.{Row, AddsText, SameRow}

abbrev pub Rows : Type 0
Rows = BTreeMap (String Global) Row

abbrev pub found_in : Rows → List ℕ → List ℕ → Option Bool
found_in rows pattern text = option_and_then (λ row. get_by_text row text) (get_by_text rows pattern)

same_bytes : (a b : List ℕ) → bytes_eq a b ≡ true → a ≡ b
same_bytes a b e = (bytes_eq-Decides a b).0 e

in_row : (m n : Rows) (pattern : List ℕ) (new : Row) → ((p : List ℕ) → get_by_text n p ≡ update bytes_eq (get_by_text m) pattern (Some new) p)
    → (p t : List ℕ) → found_in n p t ≡ (if bytes_eq pattern p then get_by_text new t else found_in m p t)
in_row m n pattern new sets p t = elim (cases_Bool (bytes_eq pattern p)) [
  | inl same ↦ rw (sets p, same) refl
  | inr other ↦ rw (sets p, other) refl
]

pub adds : (m n : Rows) (pattern text : List ℕ) (answer : Bool) (old new : Row) → ((p : List ℕ) → get_by_text n p ≡ update bytes_eq (get_by_text m) pattern (Some new) p)
    → ((t : List ℕ) → found_in m pattern t ≡ get_by_text old t) → AddsText old new text answer
    → (p t : List ℕ) → found_in n p t ≡ (if bytes_eq pattern p && bytes_eq text t then Some (unwrap_or (found_in m pattern text) answer) else found_in m p t)
adds m n pattern text answer old new sets was more p t = elim (cases_Bool (bytes_eq pattern p)) [
  | inl same ↦ in_row m n pattern new sets p t ∙ rw (same, more t, was text, ← was t, same_bytes pattern p same) refl
  | inr other ↦ in_row m n pattern new sets p t ∙ rw other refl
]

pub keeps : (m n : Rows) (pattern : List ℕ) (old new : Row) → ((p : List ℕ) → get_by_text n p ≡ update bytes_eq (get_by_text m) pattern (Some new) p)
    → ((t : List ℕ) → found_in m pattern t ≡ get_by_text old t) → SameRow old new
    → (p t : List ℕ) → found_in n p t ≡ found_in m p t
keeps m n pattern old new sets was same p t = elim (cases_Bool (bytes_eq pattern p)) [
  | inl is ↦ in_row m n pattern new sets p t ∙ rw (is, same t, ← was t, same_bytes pattern p is) refl
  | inr other ↦ in_row m n pattern new sets p t ∙ rw other refl
]

none_given : (o : Option Bool) (answer : Bool) → is_some o ≡ false → unwrap_or o answer ≡ answer
none_given None answer e = refl
none_given (Some b) answer e = cc

pub text_added : (old new : Row) (key text : List ℕ) (answer : Bool) → key ≡ text
    → ((t : List ℕ) → get_by_text new t ≡ update bytes_eq (get_by_text old) key (Some answer) t) → is_some (get_by_text old text) ≡ false → AddsText old new text answer
text_added old new key text answer same sets absent t = rw (sets t, same, none_given (get_by_text old text) answer absent) refl

none_found : (o : Option Row) (t : List ℕ) → is_some o ≡ false → option_and_then (λ row. get_by_text row t) o ≡ None
none_found None t e = refl
none_found (Some row) t e = cc

-- a pattern without a row, as if its row were empty
pub as_empty : (m : Rows) (pattern : List ℕ) (empty : Row) → is_some (get_by_text m pattern) ≡ false → empty.entries ≡ []
    → (t : List ℕ) → found_in m pattern t ≡ get_by_text empty t
as_empty m pattern empty none bare t = rw bare (none_found (get_by_text m pattern) t none)
