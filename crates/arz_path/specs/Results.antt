-- What selecting answers.
use Rattle.std.specs.Prelude.{◌≡◌, ◌≤◌, ℕ, List, map, Bool, Option, Some, None, Result, Ok, Err}
use Rattle.arz_json.specs.declared.tree.Json.{Json}
use Rattle.arz_rx.specs.Patterns.{PatternsView, Rose}
use Rattle.arz_rx.specs.declared.patterns.SearchFault.{SearchFault}
use Rattle.arz_rx.specs.declared.patterns.SearchFault.TheVariants as search
use Rattle.arz_query.specs.Answers.{Spells}
use Rattle.arz_query.specs.declared.query.Segment.{Segment}
use Rattle.arz_json.specs.declared.place.Token.{Token}
use Rattle.arz_json.specs.declared.place.Place.{Place}
use Rattle.arz_path.specs.declared.fault.SelectFault.{SelectFault}
use Rattle.arz_path.specs.declared.fault.SelectFault.TheVariants as fault
use Rattle.arz_path.specs.Outcome.{Outcome, given, wide, Covers}
use Rattle.arz_path.specs.Selected.{Setting, places, is_any}

-- by what is told, and at this root
abbrev pub setting_of : PatternsView → Json → Setting
setting_of patterns root = record { told = patterns.told; root = root }

-- the same is told, and the count of patterns too big hasn't fallen
pub record Asked (old new : PatternsView) : Type 0 where
  pub told : new.told ≡ old.told
  pub count : old.too_big ≤ new.too_big

-- why nothing was found: it is too wide, where that is told; or a pattern was too big; or memory ran out
abbrev pub Fails : {Y : Type 0} → SelectFault → Outcome Y → PatternsView → PatternsView → Type 0
Fails fault.TooWide meant old new = Covers meant wide
Fails fault.Pattern meant old new = Rose old.too_big new.too_big
Fails fault.Memory meant old new = Unit {0}

-- what a fault says of what is meant; of want of memory nothing
abbrev pub cause : SelectFault → Option SelectFault
cause fault.TooWide = Some fault.TooWide
cause fault.Pattern = Some fault.Pattern
cause fault.Memory = None

-- what a fault of a search is for the selection
abbrev pub search_fault : SearchFault → SelectFault
search_fault search.TooBig = fault.Pattern
search_fault search.Memory = fault.Memory

-- What is meant, of the value as it is seen, where that is told; unless it fails. It is no `Gives` of
-- arz_json: what is meant may also be untold, which is neither a value nor a fault, and `Pattern` goes by a
-- count and not by what is meant.
abbrev pub Answers : {X Y : Type 0} → (X → Y) → Result X SelectFault → Outcome Y → PatternsView → PatternsView → Type 0
Answers view (Ok x) meant old new = Covers meant (given (view x))
Answers view (Err e) meant old new = Fails e meant old new

abbrev pub tokens_in : Place → List Token
tokens_in place = place.tokens

abbrev pub places_seen : List Place → List (List Token)
places_seen found = map tokens_in found

abbrev pub bit_seen : Bool → Bool
bit_seen b = b

-- the places are those that are selected, in order, by the segments that the text of a query spells
abbrev pub Selects : List ℕ → Json → Result (List Place) SelectFault → PatternsView → PatternsView → Type 0
Selects text root result old new =
    (vs : List Segment) → Spells text vs → Answers places_seen result (places vs (setting_of old root)) old new

-- the bit is whether any is selected
abbrev pub SaysAny : List ℕ → Json → Result Bool SelectFault → PatternsView → PatternsView → Type 0
SaysAny text root result old new =
    (vs : List Segment) → Spells text vs → Answers bit_seen result (is_any vs (setting_of old root)) old new
