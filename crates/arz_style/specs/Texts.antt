-- The texts of values inside a list or an object, or why there are none.
use Rattle.std.specs.Prelude.{ℕ, Bool, true, false, List, [], ◌∷◌, codes, Option, Some, None, Result, Ok, Err}
use Rattle.std.specs.Fmt.{signed_decimal}
use Rattle.arz_json.specs.Answer.{◌>>=◌}
use Rattle.arz_json.specs.declared.tree.Json.{Json, out-Json}
use Rattle.arz_json.specs.declared.tree.Json.TheOpen.{Json-F}
use Rattle.arz_json.specs.declared.tree.Member.{Member}
use Rattle.arz_style.specs.Escapes.{spelt}
use Rattle.arz_style.specs.declared.fault.StyleFault.{StyleFault}
use Rattle.arz_style.specs.declared.fault.StyleFault.TheVariants.{NotSerializable, FractionUsed, Memory}
use Rattle.arz_style.specs.declared.texts.Pair.{Pair}

-- what is made, or the fault why it can't be
abbrev pub Made : Type 0 → Type 0
Made X = Result X StyleFault

abbrev pub made_of : {X Y : Type 0} → (X → Y) → Made X → Made Y
made_of f made = made >>= λ x. Ok (f x)

-- the fault that is told; want of memory says nothing
abbrev pub told : StyleFault → Option StyleFault
told NotSerializable = Some NotSerializable
told FractionUsed = Some FractionUsed
told Memory = None

abbrev pub flag_text : Bool → List ℕ
flag_text true = codes "true"
flag_text false = codes "false"

abbrev pub is_null_in : Json-F Json Member → Bool
is_null_in Json-F.Null = true
is_null_in _ = false

abbrev pub is_null : Json → Bool
is_null j = is_null_in (out-Json j)

-- a null has no text
abbrev pub text_in : (escape : Bool) → Json-F Json Member → Made (Option (List ℕ))
text_in escape Json-F.Null = Ok None
text_in escape (Json-F.Flag b) = Ok (Some (flag_text b))
text_in escape (Json-F.Int z) = Ok (Some (signed_decimal z))
text_in escape (Json-F.Text s) = Ok (Some (spelt escape s))
text_in escape (Json-F.List js) = Err NotSerializable
text_in escape (Json-F.Object ms) = Err NotSerializable
text_in escape Json-F.Opaque = Err FractionUsed

abbrev pub text_of : (escape : Bool) → Json → Made (Option (List ℕ))
text_of escape j = text_in escape (out-Json j)

-- something before others, where it is there
abbrev pub with : {X : Type 0} → Option X → List X → List X
with None xs = xs
with (Some x) xs = x ∷ xs

-- the texts of the items of a list
abbrev pub texts_of : (escape : Bool) → List Json → Made (List (List ℕ))
texts_of escape [] = Ok []
texts_of escape (j ∷ js) = text_of escape j >>= λ text. made_of (with text) (texts_of escape js)

abbrev pub pair : List ℕ → List ℕ → Pair
pair name text = record { name = name; text = text }

abbrev pub pair_in : List ℕ → Option (List ℕ) → Option Pair
pair_in name None = None
pair_in name (Some text) = Some (pair name text)

-- the name and the text of a member; one that is null has none
abbrev pub pair_of : (escape : Bool) → Member → Made (Option Pair)
pair_of escape m = made_of (pair_in (spelt escape m.name)) (text_of escape m.value)

-- the names and the texts of the members of an object
abbrev pub pairs_of : (escape : Bool) → List Member → Made (List Pair)
pairs_of escape [] = Ok []
pairs_of escape (m ∷ ms) = pair_of escape m >>= λ p. made_of (with p) (pairs_of escape ms)
