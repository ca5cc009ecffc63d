-- References (OpenAPI 3.1.0, section 4.8.23).
use Rattle.std.specs.Prelude.{ℕ, zero, suc, ◌==◌, List, [], ◌∷◌, codes, Option, Some, None, Result, Ok, Err, if◌then◌else◌}
use Rattle.std.specs.Option.{is_some}
use denote.Ref.{Bor}
use Rattle.arz_json.specs.declared.tree.Json.{Json}
use Rattle.arz_json.specs.Answer.{◌>>=◌}
use Rattle.arz_json.specs.Look.{text_in, member_in}
use Rattle.arz_json.specs.Pointer.{named}
use Rattle.arz_operation.specs.declared.references.Lost.{Lost}
use Rattle.arz_operation.specs.declared.references.Lost.TheVariants.{NotText, Unknown, Outer, TooLong}

-- what a tree refers to, where it is a reference
abbrev pub reference_of : Json → Option Json
reference_of j = member_in (codes "$ref") j

abbrev pub if_there : Option Json → Result Json Lost
if_there None = Err Unknown
if_there (Some j) = Ok j

-- within the document: `#`, and a JSON Pointer (RFC 6901, section 6)
abbrev pub named_by : Json → List ℕ → Result Json Lost
named_by root [] = Err Outer
named_by root (b ∷ pointer) = if b == 35 then if_there (named pointer root) else Err Outer

abbrev pub text_names : Json → Option (List ℕ) → Result Json Lost
text_names root None = Err NotText
text_names root (Some text) = named_by root text

abbrev pub target : (root reference : Json) → Result Json Lost
target root reference = text_names root (text_in reference)

abbrev pub onward : (Json → Result Json Lost) → (root j : Json) → Option Json → Result Json Lost
onward next root j None = Ok j
onward next root j (Some reference) = target root reference >>= next

-- what stands for a tree: the tree itself, or what stands for the one that its reference names, with so many
-- references at most
abbrev pub followed : ℕ → (root j : Json) → Result Json Lost
followed zero root j = if is_some (reference_of j) then Err TooLong else Ok j
followed (suc n) root j = onward (followed n root) root j (reference_of j)

unfoldable pub meant : (root j : Json) → Result Json Lost
meant root j = followed 32 root j

-- ---- for private clauses

abbrev pub seen : Result (Bor Json) Lost → Result Json Lost
seen (Ok j) = Ok j.now
seen (Err lost) = Err lost
