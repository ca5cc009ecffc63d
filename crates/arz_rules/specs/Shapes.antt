-- What a tree can be asked to be.
use Rattle.std.specs.Prelude.{ℕ, List, [], map}
use denote.Ref.{Bor}
use Rattle.arz_rules.specs.declared.kinds.Kind.{Kind}
use Rattle.arz_rules.specs.declared.kinds.Kind.TheVariants.{Anything, Nothing}
use Rattle.arz_rules.specs.declared.forms.Need.{Need}
use Rattle.arz_rules.specs.declared.forms.Need.TheVariants.{Must, May}
use Rattle.arz_rules.specs.declared.forms.Size.{Size}
use Rattle.arz_rules.specs.declared.forms.Size.TheVariants.{Any, NotEmpty}
use Rattle.arz_rules.specs.declared.forms.Others.{Others}
use Rattle.arz_rules.specs.declared.forms.Others.TheVariants.{Are, Tokens, Paths}
use Rattle.arz_rules.specs.declared.forms.Field.{Field}
use Rattle.arz_rules.specs.declared.forms.Choice.{Choice}
use Rattle.arz_rules.specs.declared.forms.Form.{Form}

-- a member's name, whether it must be there, and its kind
abbrev pub Row : Type 0
Row = List ℕ × Need × Kind

abbrev pub must : List ℕ → Kind → Row
must name kind = (name, Must, kind)

abbrev pub may : List ℕ → Kind → Row
may name kind = (name, May, kind)

-- a member's name and kind, and the kind of an object that has it
abbrev pub Case : Type 0
Case = List ℕ × Kind × Kind

abbrev pub choice : List ℕ → Kind → Kind → Case
choice name kind then_kind = (name, kind, then_kind)

pub data Shape : Type 0 where
  -- any value, and none
  anything : Shape
  nothing : Shape
  text : Shape
  flag : Shape
  -- an integer that is not negative; or a number that is kept without its value
  count : Shape
  any_count : Shape
  -- an integer from the first to the second
  between : ℕ → ℕ → Shape
  -- one of these texts; or an object
  words : List (List ℕ) → Shape
  words_or_object : List (List ℕ) → Shape
  -- this text, followed by a name
  prefixed : List ℕ → Shape
  -- the text of a JSON Pointer
  pointer : Shape
  -- a text without control characters but the tab
  field_value : Shape
  -- a value in which no number is kept without its value
  solid : Shape
  -- a list of so many items, each of this kind
  list : Size → Kind → Shape
  -- an object with these members, and others
  object : List Row → Others → Shape
  -- the kind of the first choice that the tree meets, or else this one
  chosen : List Case → Kind → Shape

-- members that no row names are passed over, or must not be there
abbrev pub open_object : List Row → Shape
open_object rows = object rows (Are Anything)

abbrev pub closed_object : List Row → Shape
closed_object rows = object rows (Are Nothing)

-- an object whose members are all of one kind, by any names, by tokens, or by paths
abbrev pub map_of : Kind → Shape
map_of kind = object [] (Are kind)

abbrev pub tokens_of : Kind → Shape
tokens_of kind = object [] (Tokens kind)

abbrev pub paths_of : Kind → Shape
paths_of kind = object [] (Paths kind)

abbrev pub list_of : Kind → Shape
list_of kind = list Any kind

abbrev pub filled_list_of : Kind → Shape
filled_list_of kind = list NotEmpty kind

-- ---- for private clauses: the tables of the code

abbrev pub seen_field : Field → Row
seen_field f = (f.0.now, f.1, f.2)

abbrev pub seen_choice : Choice → Case
seen_choice c = (c.0.now, c.1, c.2)

abbrev pub seen_words : List (Bor (List ℕ)) → List (List ℕ)
seen_words ws = map (λ w. w.now) ws

abbrev pub seen_form : Form → Shape
seen_form Form.Anything = anything
seen_form Form.Nothing = nothing
seen_form Form.Text = text
seen_form Form.Flag = flag
seen_form Form.Count = count
seen_form Form.AnyCount = any_count
seen_form (Form.Between low high) = between low high
seen_form (Form.Words ws) = words (seen_words ws.now)
seen_form (Form.WordsOrObject ws) = words_or_object (seen_words ws.now)
seen_form (Form.Prefixed prefix) = prefixed prefix.now
seen_form Form.Pointer = pointer
seen_form Form.FieldValue = field_value
seen_form Form.Solid = solid
seen_form (Form.List size kind) = list size kind
seen_form (Form.Object fields others) = object (map seen_field fields.now) others
seen_form (Form.Chosen choices other) = chosen (map seen_choice choices.now) other
