-- Patterns that a table tells.
use Rattle.std.specs.Prelude.{◌≡◌, ℕ, List, Bool, ◌==◌, ◌&&◌, ◌+◌, ◌-◌, ◌^◌, min, if◌then◌else◌, option_and_then}
use Rattle.std.specs.List.{list_any}
use Rattle.std.specs.Option.{unwrap_or}
use Rattle.std.specs.Str.{bytes_eq}
use Rattle.std.specs.BTreeMap.{BTreeMap, get_by_text}
use Rattle.std.specs.declared.string.String.{String}
use Rattle.std.specs.declared.alloc.Global.{Global}
use Rattle.arz_rx.specs.declared.table.TablePatterns.{TablePatterns}
use Rattle.std.specs.declared.option.Option.{Option}
use Rattle.std.specs.declared.option.Option.TheVariants.{None, Some}

-- the answers for one pattern by text
abbrev pub Row : Type 0
Row = BTreeMap (String Global) Bool

-- the answer that was added for this pattern and text
abbrev pub found : TablePatterns → List ℕ → List ℕ → Option Bool
found table pattern text = option_and_then (λ row. get_by_text row text) (get_by_text table.rows pattern)

-- one more, or the largest u64
abbrev pub next : ℕ → ℕ
next n = min (n + 1) (2 ^ 64 - 1)

-- the next search is one that fails
abbrev pub is_due : TablePatterns → Bool
is_due table = list_any (λ n. n == next table.calls) table.failing.items

-- nothing was added or called, and the searches with these numbers fail
pub record IsNew (table : TablePatterns) (numbers : List ℕ) : Type 0 where
  pub rows : (pattern text : List ℕ) → found table pattern text ≡ None
  pub failing : table.failing.items ≡ numbers
  pub calls : table.calls ≡ 0
  pub too_big : table.too_big ≡ 0

-- an answer for this text is added, where none was there
abbrev pub AddsText : Row → Row → List ℕ → Bool → Type 0
AddsText old new text answer =
    (t : List ℕ) → get_by_text new t ≡ (if bytes_eq text t then Some (unwrap_or (get_by_text old text) answer) else get_by_text old t)

-- the answers are the same
abbrev pub SameRow : Row → Row → Type 0
SameRow old new = (t : List ℕ) → get_by_text new t ≡ get_by_text old t

-- the same searches fail, and as many were made
pub record SameCounts (old new : TablePatterns) : Type 0 where
  pub failing : new.failing.items ≡ old.failing.items
  pub calls : new.calls ≡ old.calls
  pub too_big : new.too_big ≡ old.too_big

-- an answer for this pattern and text is added, where none was there; all else stays
pub record Adds (old new : TablePatterns) (pattern text : List ℕ) (answer : Bool) : Type 0 where
  pub rows : (p t : List ℕ) → found new p t ≡ (if bytes_eq pattern p && bytes_eq text t then Some (unwrap_or (found old pattern text) answer) else found old p t)
  pub counts : SameCounts old new

-- all is the same
pub record SameTable (old new : TablePatterns) : Type 0 where
  pub rows : (p t : List ℕ) → found new p t ≡ found old p t
  pub counts : SameCounts old new

-- what a search leaves: the same answers, one more search, and this count of patterns too big
pub record Called (old new : TablePatterns) (count : ℕ) : Type 0 where
  pub rows : new.rows ≡ old.rows
  pub failing : new.failing ≡ old.failing
  pub calls : new.calls ≡ next old.calls
  pub too_big : new.too_big ≡ count
