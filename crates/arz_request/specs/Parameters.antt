-- The parameters that are given to a request (Arazzo 1.0.1, section 4.6.6; OpenAPI 3.1.1, section 4.8.12): each filled,
-- and then written in the style that the operation's parameter of the same name and place has.
use Rattle.std.specs.Prelude.{ℕ, ◌==◌, ◌&&◌, ◌||◌, not, nat_lt, Bool, true, false, List, [], ◌∷◌, map, filter, find, reverse, if◌then◌else◌, Option, Ok, Err}
use Rattle.std.specs.List.{list_all}
use Rattle.std.specs.Option.{option_map_or}
use Rattle.std.specs.Str.{bytes_eq}
use Rattle.arz_json.specs.Answer.{◌>>=◌}
use Rattle.arz_json.specs.declared.Json.{Json}
use Rattle.arz_json.specs.declared.Location.{Location}
use Rattle.arz_json.specs.declared.Location.TheVariants as place
use Rattle.arz_json.specs.declared.Style.{Style}
use Rattle.arz_expr.specs.declared.syntax.Base.{Base}
use Rattle.arz_expr.specs.declared.template.Given.{Given}
use Rattle.arz_operation.specs.declared.types.Described.{Described}
use Rattle.arz_operation.specs.Named.{is_same}
use Rattle.arz_operation.specs.Parameters.{default_style, is_form}
use Rattle.arz_style.specs.Styles as styles
use Rattle.arz_world.specs.declared.Sent.{Sent}
use Rattle.arz_request.specs.Causes.{Made, made_of, filling, by_style}
use Rattle.arz_request.specs.declared.cause.Cause.TheVariants.{BadHeaderValue}

-- ---- the style

-- names are compared exactly
abbrev pub describes : Given → Described → Bool
describes g d = is_same d.place g.place && bytes_eq d.name g.name

abbrev pub described_for : List Described → Given → Option Described
described_for ds g = find (describes g) ds

-- the style and `explode` of the operation's parameter, else the defaults of the place
abbrev pub style_for : List Described → Given → Style
style_for ds g = option_map_or (λ d. d.style) (described_for ds g) (default_style g.place)

abbrev pub explode_for : List Described → Given → Bool
explode_for ds g = option_map_or (λ d. d.explode) (described_for ds g) (is_form (default_style g.place))

-- header fields aren't percent-encoded
abbrev pub escapes : Location → Bool
escapes place.Path = true
escapes place.Query = true
escapes place.Header = false
escapes place.Cookie = true

-- ---- the value of a header line (RFC 9110, section 5.5)

-- no control character but the tab
abbrev pub is_field_byte : ℕ → Bool
is_field_byte b = b == 9 || (not (nat_lt b 32) && not (b == 127))

-- a space or a tab at the front
abbrev pub begins_blank : List ℕ → Bool
begins_blank [] = false
begins_blank (b ∷ bs) = b == 32 || b == 9

abbrev pub is_field_value : List ℕ → Bool
is_field_value text = list_all is_field_byte text && not (begins_blank text) && not (begins_blank (reverse text))

abbrev pub sendable : Location → List ℕ → Made (List ℕ)
sendable place.Header text = if is_field_value text then Ok text else Err BadHeaderValue
sendable place.Path text = Ok text
sendable place.Query text = Ok text
sendable place.Cookie text = Ok text

-- ---- a parameter, filled and written

-- its value, and the text of that in its style
pub record Written : Type 0 where
  pub sent : Sent
  pub text : List ℕ

abbrev pub expansion : List Described → Given → Json → Made (List ℕ)
expansion ds g value = by_style (styles.expanded (style_for ds g) (explode_for ds g) (escapes g.place) g.name value)

abbrev pub with_text : Given → Json → List ℕ → Written
with_text g value text = record { sent = record { place = g.place; name = g.name; value = value }; text = text }

abbrev pub written_as : List Described → Given → Json → Made Written
written_as ds g value = made_of (with_text g value) (expansion ds g value >>= sendable g.place)

module _ (found : Base → Option Json) (ds : List Described) where
  abbrev pub written : Given → Made Written
  written g = filling found g.value >>= written_as ds g

  -- in order, up to the first that can't be
  abbrev pub all_written : List Given → Made (List Written)
  all_written [] = Ok []
  all_written (g ∷ gs) = written g >>= λ w. made_of (λ ws. w ∷ ws) (all_written gs)

-- ---- those of one place

abbrev pub is_at : Location → Written → Bool
is_at place w = is_same w.sent.place place

abbrev pub is_named : Location → List ℕ → Written → Bool
is_named place name w = is_at place w && bytes_eq w.sent.name name

-- the text of the first parameter in the path with this name
abbrev pub path_text : List Written → List ℕ → List ℕ
path_text ws name = option_map_or (λ w. w.text) (find (is_named place.Path name) ws) []

abbrev pub is_filled : List ℕ → Bool
is_filled [] = false
is_filled (b ∷ text) = true

-- those that aren't empty
abbrev pub filled_at : Location → List Written → List Written
filled_at place ws = filter (λ w. is_at place w && is_filled w.text) ws

abbrev pub texts_at : Location → List Written → List (List ℕ)
texts_at place ws = map (λ w. w.text) (filled_at place ws)
