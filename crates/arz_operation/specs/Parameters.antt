-- Parameters (OpenAPI 3.1.0, section 4.8.12).
use Rattle.std.specs.Prelude.{ℕ, List, codes, Bool, true, false, Option, Some, None, option_map, option_and_then, unwrap_or, if◌then◌else◌}
use Rattle.std.specs.Option.{is_some}
use Rattle.std.specs.Str.{bytes_eq}
use Rattle.arz_json.specs.declared.tree.Json.{Json, out-Json}
use Rattle.arz_json.specs.declared.tree.Json.TheOpen.{Json-F}
use Rattle.arz_json.specs.declared.tree.Member.{Member}
use Rattle.arz_json.specs.declared.tree.Location.{Location}
use Rattle.arz_json.specs.declared.tree.Location.TheVariants.{Path, Query, Header, Cookie}
use Rattle.arz_json.specs.declared.tree.Style.{Style}
use Rattle.arz_json.specs.declared.tree.Style.TheVariants.{Matrix, Label, Simple, Form, SpaceDelimited, PipeDelimited, DeepObject}
use Rattle.arz_json.specs.Look.{text_in, member_in, text_at}
use Rattle.arz_operation.specs.declared.types.Described.{Described}

-- the first of these words that a text is, with what it stands for
abbrev pub either : {A : Type 0} → List ℕ → A → (List ℕ → Option A) → List ℕ → Option A
either word meaning others text = if bytes_eq text word then Some meaning else others text

abbrev pub no_word : {A : Type 0} → List ℕ → Option A
no_word text = None

-- the places of parameters (section 4.8.12.1)
abbrev pub place_word : List ℕ → Option Location
place_word = either (codes "path") Path (either (codes "query") Query (either (codes "header") Header (either (codes "cookie") Cookie no_word)))

-- the styles (section 4.8.12.3)
abbrev pub delimited_word : List ℕ → Option Style
delimited_word = either (codes "spaceDelimited") SpaceDelimited (either (codes "pipeDelimited") PipeDelimited (either (codes "deepObject") DeepObject no_word))

abbrev pub style_word : List ℕ → Option Style
style_word = either (codes "matrix") Matrix (either (codes "label") Label (either (codes "simple") Simple (either (codes "form") Form delimited_word)))

-- the style and `explode` where none is written (section 4.8.12.2)
abbrev pub default_style : Location → Style
default_style Path = Simple
default_style Query = Form
default_style Header = Simple
default_style Cookie = Form

abbrev pub is_form : Style → Bool
is_form Form = true
is_form _ = false

abbrev pub flag_step : Json-F Json Member → Option Bool
flag_step (Json-F.Flag b) = Some b
flag_step _ = None

abbrev pub flag_in : Json → Option Bool
flag_in j = flag_step (out-Json j)

-- a member that says how the value is written; a parameter that is described by its `content` has none
abbrev pub written : List ℕ → Json → Option Json
written name j = if is_some (member_in (codes "content") j) then None else member_in name j

abbrev pub style_in : Json → Option Style
style_in j = option_and_then style_word (text_in j)

abbrev pub style_of : Location → Json → Style
style_of place j = unwrap_or (option_and_then style_in (written (codes "style") j)) (default_style place)

abbrev pub explode_of : Style → Json → Bool
explode_of style j = unwrap_or (option_and_then flag_in (written (codes "explode") j)) (is_form style)

abbrev pub described_at : Json → Location → Described
described_at j place = record {
  name = text_at (codes "name") j;
  place = place;
  style = style_of place j;
  explode = explode_of (style_of place j) j;
}

abbrev pub place_of : Json → Option Location
place_of j = option_and_then place_word (option_and_then text_in (member_in (codes "in") j))

-- a parameter that an object describes; in another place than these four none is
abbrev pub described : Json → Option Described
described j = option_map (described_at j) (place_of j)
