-- The body of a form (WHATWG URL, section 5.2; OpenAPI 3.1.1, section 4.8.14.4).
use Rattle.std.specs.Prelude.{◌≡◌, ℕ, false, List, [], ◌∷◌, ◌++◌, fold, Option, Some, None, Result, Ok, Err}
use Rattle.form_urlencoded.specs.Form.{append_pair}
use Rattle.arz_json.specs.Answer.{◌>>=◌, Fails}
use Rattle.arz_json.specs.declared.tree.Json.{Json, out-Json}
use Rattle.arz_json.specs.declared.tree.Json.TheOpen.{Json-F}
use Rattle.arz_json.specs.declared.tree.Member.{Member}
use Rattle.arz_style.specs.Texts.{Made, made_of, told, text_of, pair_in, with}
use Rattle.arz_style.specs.declared.fault.StyleFault.{StyleFault}
use Rattle.arz_style.specs.declared.fault.StyleFault.TheVariants.{NotSerializable, FractionUsed}
use Rattle.arz_style.specs.declared.texts.Pair.{Pair}

-- the pair of a value under a name; a null has none
abbrev pub field_of : (name : List ℕ) → Json → Made (List Pair)
field_of name j = made_of (λ text. with (pair_in name text) []) (text_of false j)

abbrev pub join : Made (List Pair) → Made (List Pair) → Made (List Pair)
join first rest = first >>= λ ps. made_of (λ qs. ps ++ qs) rest

-- one pair for each item of a list
abbrev pub item_fields : (name : List ℕ) → List Json → Made (List Pair)
item_fields name [] = Ok []
item_fields name (j ∷ js) = join (field_of name j) (item_fields name js)

abbrev pub fields_in : (name : List ℕ) → Json → Json-F Json Member → Made (List Pair)
fields_in name j (Json-F.List js) = item_fields name js
fields_in name j _ = field_of name j

abbrev pub member_fields : Member → Made (List Pair)
member_fields m = fields_in m.name m.value (out-Json m.value)

abbrev pub fields_of : List Member → Made (List Pair)
fields_of [] = Ok []
fields_of (m ∷ ms) = join (member_fields m) (fields_of ms)

abbrev pub add_pair : List ℕ → Pair → List ℕ
add_pair form p = append_pair form p.name p.text

abbrev pub form_in : Json-F Json Member → Made (List ℕ)
form_in (Json-F.Text s) = Ok s
form_in (Json-F.Object ms) = made_of (fold add_pair []) (fields_of ms)
form_in Json-F.Opaque = Err FractionUsed
form_in _ = Err NotSerializable

-- a payload as the body of a form, or why it can't be written
abbrev pub form_of : Json → Made (List ℕ)
form_of j = form_in (out-Json j)

-- ---- for private clauses

-- the pairs stand behind what was there
abbrev pub Pushes : {X : Type 0} → List Pair → List Pair → Result X StyleFault → Made (List Pair) → Type 0
Pushes old new (Ok x) made = made_of (λ ps. old ++ ps) made ≡ Ok new
Pushes old new (Err fault) made = Fails (told fault) made
