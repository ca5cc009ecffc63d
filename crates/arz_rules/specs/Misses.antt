-- The places at which a tree misses a kind.
use Rattle.std.specs.Prelude.{ℕ, suc, pos, List, [], ◌∷◌, ◌++◌, map, ◌&&◌, ◌||◌, Bool, true, false, nat_le, if◌then◌else◌}
use Rattle.std.specs.Str.{bytes_eq}
use Rattle.arz_json.specs.declared.tree.Json.{Json, out-Json}
use Rattle.arz_json.specs.declared.tree.Json.TheOpen.{Json-F}
use Rattle.arz_json.specs.declared.tree.Json.TheFolds.{fold-Json}
use Rattle.arz_json.specs.Tree.{member_step}
use Rattle.arz_json.specs.declared.tree.Member.{Member}
use Rattle.arz_json.specs.declared.place.Token.{Token}
use Rattle.arz_json.specs.declared.place.Token.TheVariants.{Name, Index}
use Rattle.arz_rules.specs.declared.kinds.Kind.{Kind}
use Rattle.arz_rules.specs.declared.forms.Need.{Need}
use Rattle.arz_rules.specs.declared.forms.Need.TheVariants.{Must, May}
use Rattle.arz_rules.specs.declared.forms.Size.{Size}
use Rattle.arz_rules.specs.declared.forms.Size.TheVariants.{Any, NotEmpty}
use Rattle.arz_rules.specs.declared.forms.Others.{Others}
use Rattle.arz_rules.specs.declared.forms.Others.TheVariants.{Are, Tokens, Paths}
use Rattle.arz_rules.specs.Place.{here, here_unless, under}
use Rattle.arz_rules.specs.Texts.{is_prefixed, is_token, is_pointer, is_field_value, starts_with}
use Rattle.std.specs.Prelude.{codes}
use Rattle.arz_rules.specs.Shapes as shape
use Rattle.arz_rules.specs.Shapes.{Shape, Row, Case}
use Rattle.arz_rules.specs.Kinds.{form_of}

-- the places, below a tree, at which it misses a kind
abbrev pub Misses : Type 0
Misses = Kind → List (List Token)

-- one level of a tree, with the misses of what is inside
abbrev pub Level : Type 0
Level = Json-F Misses (List ℕ × Misses)

-- ---- values without parts

abbrev pub is_text : Level → Bool
is_text (Json-F.Text s) = true
is_text _ = false

abbrev pub is_flag : Level → Bool
is_flag (Json-F.Flag b) = true
is_flag _ = false

abbrev pub is_count : Level → Bool
is_count (Json-F.Int (pos n)) = true
is_count _ = false

abbrev pub is_any_count : Level → Bool
is_any_count (Json-F.Int (pos n)) = true
is_any_count Json-F.Opaque = true
is_any_count _ = false

abbrev pub is_between : ℕ → ℕ → Level → Bool
is_between low high (Json-F.Int (pos n)) = nat_le low n && nat_le n high
is_between low high _ = false

-- a text that holds of the test
abbrev pub is_text_that : (List ℕ → Bool) → Level → Bool
is_text_that test (Json-F.Text s) = test s
is_text_that test _ = false

abbrev pub is_object : Level → Bool
is_object (Json-F.Object ms) = true
is_object _ = false

abbrev pub is_word : List (List ℕ) → List ℕ → Bool
is_word [] s = false
is_word (w ∷ ws) s = bytes_eq w s || is_word ws s

-- ---- lists

abbrev pub has_size : Size → List Misses → Bool
has_size Any fs = true
has_size NotEmpty [] = false
has_size NotEmpty (f ∷ fs) = true

abbrev pub item_misses : Kind → ℕ → List Misses → List (List Token)
item_misses kind i [] = []
item_misses kind i (f ∷ fs) = under (Index i) (f kind) ++ item_misses kind (suc i) fs

abbrev pub list_misses : Size → Kind → Level → List (List Token)
list_misses size kind (Json-F.List fs) = here_unless (has_size size fs) ++ item_misses kind 0 fs
list_misses size kind _ = here

-- ---- objects

abbrev pub has_name : List (List ℕ × Misses) → List ℕ → Bool
has_name [] name = false
has_name (m ∷ ms) name = bytes_eq m.0 name || has_name ms name

abbrev pub is_optional : Need → Bool
is_optional May = true
is_optional Must = false

-- each member that must be there is
abbrev pub is_complete : List Row → List (List ℕ × Misses) → Bool
is_complete [] ms = true
is_complete (r ∷ rs) ms = (is_optional r.1 || has_name ms r.0) && is_complete rs ms

-- the kind of a member that no row names
abbrev pub other_kind : Others → List ℕ → Kind
other_kind (Are kind) name = kind
other_kind (Tokens kind) name = if is_token name then kind else Kind.Nothing
other_kind (Paths kind) name = if starts_with (codes "x-") name then Kind.Anything else (if starts_with (codes "/") name then kind else Kind.Nothing)

-- the kind of the member with this name
abbrev pub kind_named : List Row → Others → List ℕ → Kind
kind_named [] others name = other_kind others name
kind_named (r ∷ rs) others name = if bytes_eq r.0 name then r.2 else kind_named rs others name

abbrev pub member_misses : List Row → Others → List (List ℕ × Misses) → List (List Token)
member_misses rows others [] = []
member_misses rows others (m ∷ ms) = under (Name m.0) (m.1 (kind_named rows others m.0)) ++ member_misses rows others ms

-- where a member that must be there is missing, the place is the object's
abbrev pub object_misses : List Row → Others → Level → List (List Token)
object_misses rows others (Json-F.Object ms) = here_unless (is_complete rows ms) ++ member_misses rows others ms
object_misses rows others _ = here

-- ---- values in which no number is kept without its value

abbrev pub solid_misses : Level → List (List Token)
solid_misses (Json-F.List fs) = item_misses Kind.Solid 0 fs
solid_misses (Json-F.Object ms) = member_misses [] (Are Kind.Solid) ms
solid_misses Json-F.Opaque = here
solid_misses _ = []

-- ---- choices

abbrev pub are_none : List (List Token) → Bool
are_none [] = true
are_none (p ∷ ps) = false

-- a member with this name is there, and has this kind
abbrev pub has_kind : List (List ℕ × Misses) → List ℕ → Kind → Bool
has_kind [] name kind = false
has_kind (m ∷ ms) name kind = if bytes_eq m.0 name then are_none (m.1 kind) else has_kind ms name kind

abbrev pub first_met : List Case → Kind → List (List ℕ × Misses) → Kind
first_met [] other ms = other
first_met (c ∷ cs) other ms = if has_kind ms c.0 c.1 then c.2 else first_met cs other ms

abbrev pub chosen_in : List Case → Kind → Level → Kind
chosen_in cases other (Json-F.Object ms) = first_met cases other ms
chosen_in cases other _ = other

abbrev pub chosen_of : Shape → Kind → Level → Kind
chosen_of (shape.chosen cases other) own level = chosen_in cases other level
chosen_of _ own level = own

-- a kind that is a choice stands for another, by the members that the tree has
abbrev pub chosen : Kind → Level → Kind
chosen kind level = chosen_of (form_of kind) kind level

-- ---- all kinds

-- a choice is made once, by `chosen`
abbrev pub shape_misses : Shape → Level → List (List Token)
shape_misses shape.anything level = []
shape_misses shape.nothing level = here
shape_misses shape.text level = here_unless (is_text level)
shape_misses shape.flag level = here_unless (is_flag level)
shape_misses shape.count level = here_unless (is_count level)
shape_misses shape.any_count level = here_unless (is_any_count level)
shape_misses (shape.between low high) level = here_unless (is_between low high level)
shape_misses (shape.words ws) level = here_unless (is_text_that (is_word ws) level)
shape_misses (shape.words_or_object ws) level = here_unless (is_text_that (is_word ws) level || is_object level)
shape_misses (shape.prefixed prefix) level = here_unless (is_text_that (is_prefixed prefix) level)
shape_misses shape.pointer level = here_unless (is_text_that is_pointer level)
shape_misses shape.field_value level = here_unless (is_text_that is_field_value level)
shape_misses shape.solid level = solid_misses level
shape_misses (shape.list size kind) level = list_misses size kind level
shape_misses (shape.object rows others) level = object_misses rows others level
shape_misses (shape.chosen cases other) level = []

abbrev pub level_misses : Level → Misses
level_misses level kind = shape_misses (form_of (chosen kind level)) level

-- the places at which a tree misses a kind
abbrev pub misses : Json → Misses
misses = fold-Json Misses (List ℕ × Misses) level_misses member_step

-- ---- for private clauses: one level of a tree, with the misses of what is inside

abbrev pub named_misses : List Member → List (List ℕ × Misses)
named_misses ms = map (λ m. (m.name, misses m.value)) ms

abbrev pub level_in : Json-F Json Member → Level
level_in (Json-F.List js) = Json-F.List (map misses js)
level_in (Json-F.Object ms) = Json-F.Object (named_misses ms)
level_in Json-F.Null = Json-F.Null
level_in (Json-F.Flag b) = Json-F.Flag b
level_in (Json-F.Int z) = Json-F.Int z
level_in (Json-F.Text s) = Json-F.Text s
level_in Json-F.Opaque = Json-F.Opaque

abbrev pub level_of : Json → Level
level_of j = level_in (out-Json j)
