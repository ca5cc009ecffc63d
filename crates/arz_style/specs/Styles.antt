-- Styles of parameters, row by row (OpenAPI 3.1.1, sections 4.8.12.2 and 4.8.12.6; RFC 6570, section 3.2 and appendix A).
use Rattle.std.specs.Prelude.{ℕ, ◌&&◌, ◌||◌, Bool, true, false, not, List, [], ◌∷◌, ◌++◌, map, codes, if◌then◌else◌, Option, Some, None, Ok, Err}
use Rattle.std.specs.List.{flat_map, list_any}
use Rattle.arz_json.specs.Answer.{◌>>=◌}
use Rattle.arz_json.specs.declared.tree.Json.{Json, out-Json}
use Rattle.arz_json.specs.declared.tree.Json.TheOpen.{Json-F}
use Rattle.arz_json.specs.declared.tree.Member.{Member}
use Rattle.arz_json.specs.declared.tree.Style.{Style}
use Rattle.arz_json.specs.declared.tree.Style.TheVariants.{Matrix, Label, Simple, Form, SpaceDelimited, PipeDelimited, DeepObject}
use Rattle.arz_style.specs.Escapes.{spelt}
use Rattle.arz_json.specs.Texts.{joined}
use Rattle.arz_style.specs.Texts.{Made, made_of, is_null, flag_text, text_in, texts_of, pairs_of}
use Rattle.arz_style.specs.declared.fault.StyleFault.TheVariants.{NotSerializable, FractionUsed}
use Rattle.arz_style.specs.declared.texts.Pair.{Pair}

-- ---- the rows of the table

-- what stands before all labels
abbrev pub lead : Style → List ℕ
lead Matrix = codes ";"
lead Label = codes "."
lead Simple = []
lead Form = []
lead SpaceDelimited = []
lead PipeDelimited = []
lead DeepObject = []

-- what stands between two labels
abbrev pub between : Style → List ℕ
between Matrix = codes ";"
between Label = codes "."
between Simple = codes ","
between Form = codes "&"
between SpaceDelimited = codes "&"
between PipeDelimited = codes "&"
between DeepObject = codes "&"

-- what stands between the parts of one label
abbrev pub inner : Style → List ℕ
inner Matrix = codes ","
inner Label = codes ","
inner Simple = codes ","
inner Form = codes ","
inner SpaceDelimited = codes "%20"
inner PipeDelimited = codes "%7C"
inner DeepObject = codes ","

-- whether a label begins with the parameter's name
abbrev pub shows_name : Style → Bool
shows_name Matrix = true
shows_name Label = false
shows_name Simple = false
shows_name Form = true
shows_name SpaceDelimited = true
shows_name PipeDelimited = true
shows_name DeepObject = true

-- whether a text that stands alone is taken
abbrev pub takes_text : Style → Bool
takes_text Matrix = true
takes_text Label = true
takes_text Simple = true
takes_text Form = true
takes_text SpaceDelimited = false
takes_text PipeDelimited = false
takes_text DeepObject = false

-- members always stand by themselves, each in brackets behind the name
abbrev pub is_deep : Style → Bool
is_deep Matrix = false
is_deep Label = false
is_deep Simple = false
is_deep Form = false
is_deep SpaceDelimited = false
is_deep PipeDelimited = false
is_deep DeepObject = true

-- ---- labels

abbrev pub is_empty : List ℕ → Bool
is_empty [] = true
is_empty (b ∷ text) = false

-- in `matrix` a name whose text is empty stands without `=`
abbrev pub leaves_out : Style → List ℕ → Bool
leaves_out Matrix text = is_empty text
leaves_out Label text = false
leaves_out Simple text = false
leaves_out Form text = false
leaves_out SpaceDelimited text = false
leaves_out PipeDelimited text = false
leaves_out DeepObject text = false

abbrev pub valued : Style → (name text : List ℕ) → List ℕ
valued style name text = if leaves_out style text then name else name ++ codes "=" ++ text

abbrev pub labelled : Style → (name text : List ℕ) → List ℕ
labelled style name text = if shows_name style then valued style name text else text

-- the labels of the texts of a list: one for each, or one for all, where there are any
abbrev pub labels : Style → (explode : Bool) → (name : List ℕ) → List (List ℕ) → List (List ℕ)
labels style explode name [] = []
labels style explode name (text ∷ texts) =
    if explode then map (labelled style name) (text ∷ texts) else labelled style name (joined (inner style) (text ∷ texts)) ∷ []

abbrev pub pair_name : (deep : Bool) → (name : List ℕ) → Pair → List ℕ
pair_name deep name p = if deep then name ++ codes "%5B" ++ p.name ++ codes "%5D" else p.name

abbrev pub pair_text : Style → (name : List ℕ) → Pair → List ℕ
pair_text style name p = valued style (pair_name (is_deep style) name p) p.text

abbrev pub parts_of : Pair → List (List ℕ)
parts_of p = p.name ∷ p.text ∷ []

-- the labels of the members of an object
abbrev pub pair_labels : Style → (explode : Bool) → (name : List ℕ) → List Pair → List (List ℕ)
pair_labels style explode name ps =
    if explode || is_deep style then map (pair_text style name) ps else labels style false name (flat_map parts_of ps)

-- ---- a value

-- the label of a text, where there is one
abbrev pub alone : Style → (name : List ℕ) → Option (List ℕ) → Made (List (List ℕ))
alone style name None = Ok []
alone style name (Some text) = if takes_text style then Ok (labelled style name text ∷ []) else Err NotSerializable

-- a style for objects alone refuses a list with something in it, whatever that is
abbrev pub refuses_list : Style → List Json → Bool
refuses_list style js = is_deep style && list_any (λ j. not (is_null j)) js

abbrev pub listed : Style → (explode escape : Bool) → (name : List ℕ) → List Json → Made (List (List ℕ))
listed style explode escape name js = if refuses_list style js then Err NotSerializable else made_of (labels style explode name) (texts_of escape js)

abbrev pub objected : Style → (explode escape : Bool) → (name : List ℕ) → List Member → Made (List (List ℕ))
objected style explode escape name ms = made_of (pair_labels style explode name) (pairs_of escape ms)

abbrev pub labels_in : Style → (explode escape : Bool) → (name : List ℕ) → Json-F Json Member → Made (List (List ℕ))
labels_in style explode escape name (Json-F.List js) = listed style explode escape name js
labels_in style explode escape name (Json-F.Object ms) = objected style explode escape name ms
labels_in style explode escape name Json-F.Null = Ok []
labels_in style explode escape name (Json-F.Flag b) = text_in escape (Json-F.Flag b) >>= alone style name
labels_in style explode escape name (Json-F.Int z) = text_in escape (Json-F.Int z) >>= alone style name
labels_in style explode escape name (Json-F.Text s) = text_in escape (Json-F.Text s) >>= alone style name
labels_in style explode escape name Json-F.Opaque = Err FractionUsed

abbrev pub labels_for : Style → (explode escape : Bool) → (name : List ℕ) → Json → Made (List (List ℕ))
labels_for style explode escape name j = labels_in style explode escape name (out-Json j)

-- the labels, where there are any, behind what the style begins with
abbrev pub laid : Style → List (List ℕ) → List ℕ
laid style [] = []
laid style (l ∷ ls) = lead style ++ joined (between style) (l ∷ ls)

-- a parameter's value in a style, or why it can't be written
abbrev pub expanded : Style → (explode escape : Bool) → (name : List ℕ) → Json → Made (List ℕ)
expanded style explode escape name j = made_of (laid style) (labels_for style explode escape (spelt escape name) j)
