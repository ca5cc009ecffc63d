-- What `tree_in` gives of bytes that are read, and of those that are not.
use Rattle.std.proofs.Common.{◌≡◌, ap, cond, List, ℕ, Bool, true, false, Option, Some, None, refl, sym}
use Rattle.std.specs.Prelude.{option_map}
use Rattle.std.specs.Str.{IsUtf8, is_utf8}
use Rattle.std.proofs.lemmas.Str.{is_utf8-from_IsUtf8, IsUtf8-from_is_utf8}
use Rattle.serde_json.specs.Data as serde
use Rattle.serde_json.specs.Read.{read}
use Rattle.arz_json.specs.Reading.{tree_of, Reads}
use Rattle.arz_json.specs.declared.tree.Json.{Json}
use Rattle.arz_probe.specs.Reports.{tree_in}

found : (b : Bool) (o : Option serde.Data) (d : serde.Data) (j : Json) → b ≡ true → o ≡ Some d → j ≡ tree_of d → cond b (option_map tree_of o) None ≡ Some j
found b o d j is_text is_read is_tree = rw is_text (rw is_read (ap (λ t. Some t) (sym is_tree)))

lacking : (b : Bool) (o : Option serde.Data) → (b ≡ true → o ≡ None) → cond b (option_map tree_of o) None ≡ None
lacking false o h = refl
lacking true o h = ap (λ p. option_map tree_of p) (h refl)

pub tree_in-Reads : (bytes : List ℕ) (j : Json) → Reads bytes j → tree_in bytes ≡ Some j
tree_in-Reads bytes j r = found (is_utf8 bytes) (read bytes) r.1 j (is_utf8-from_IsUtf8 bytes r.0) r.2 r.3

pub tree_in-none : (bytes : List ℕ) → (IsUtf8 bytes → read bytes ≡ None) → tree_in bytes ≡ None
tree_in-none bytes h = lacking (is_utf8 bytes) (read bytes) (λ e. h (IsUtf8-from_is_utf8 bytes e))
