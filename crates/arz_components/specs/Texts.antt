-- Texts that name components.
use Rattle.std.specs.Prelude.{ℕ, ◌==◌, List, [], ◌∷◌, codes, Option, Some, None, option_and_then, if◌then◌else◌}
use Rattle.arz_json.specs.declared.tree.Json.{Json}
use Rattle.arz_json.specs.Look.{text_in, member_in}

-- what follows a key
abbrev pub after : List ℕ → List ℕ → Option (List ℕ)
after [] text = Some text
after (k ∷ key) [] = None
after (k ∷ key) (b ∷ text) = if b == k then after key text else None

-- the text of the member with this name
abbrev pub text_named : List ℕ → Json → Option (List ℕ)
text_named name j = option_and_then text_in (member_in name j)

-- of a reference `$components.PART.NAME` to this part the name (Arazzo 1.0.1, section 4.6.10)
abbrev pub referred : List ℕ → List ℕ → Option (List ℕ)
referred part text = option_and_then (after (codes ".")) (option_and_then (after part) (after (codes "$components.") text))

-- of a `$ref` `#/components/inputs/NAME` the name (Arazzo 1.0.1, section 4.6.9)
abbrev pub input_name : List ℕ → Option (List ℕ)
input_name text = after (codes "#/components/inputs/") text
