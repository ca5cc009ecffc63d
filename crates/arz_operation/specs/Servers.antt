-- Servers (OpenAPI 3.1.0, sections 4.8.5 and 4.8.6).
use Rattle.std.specs.Prelude.{ℕ, ◌==◌, List, [], ◌∷◌, ◌++◌, codes, Option, Some, None, option_map, option_and_then, if◌then◌else◌}
use Rattle.std.specs.Option.{option_or}
use Rattle.arz_json.specs.declared.tree.Json.{Json}
use Rattle.arz_json.specs.declared.tree.Member.{Member}
use Rattle.arz_json.specs.Look.{text_in, member_in, text_at, items_at, members_at}
use Rattle.arz_json.specs.Pointer.{member_named}

-- the default of a variable (section 4.8.6)
abbrev pub default_in : Json → Option (List ℕ)
default_in j = option_and_then text_in (member_in (codes "default") j)

abbrev pub default_of : List Member → List ℕ → Option (List ℕ)
default_of variables name = option_and_then default_in (member_named variables name)

-- `{name}` stands for the default of the variable, or for itself where there is no such variable
abbrev pub value_or : List ℕ → Option (List ℕ) → List ℕ
value_or name None = 123 ∷ (name ++ 125 ∷ [])
value_or name (Some text) = text

abbrev pub value_of : List Member → List ℕ → List ℕ
value_of variables name = value_or name (default_of variables name)

-- a URL with the defaults of its variables: behind a `{` stands the name, up to the next `}`
abbrev mutual
  pub filled : List Member → List ℕ → List ℕ
  filled variables [] = []
  filled variables (b ∷ bs) = if b == 123 then filled_name variables [] bs else b ∷ filled variables bs

  -- so much of the name has been read
  pub filled_name : List Member → List ℕ → List ℕ → List ℕ
  filled_name variables name [] = 123 ∷ name
  filled_name variables name (b ∷ bs) = if b == 125 then value_of variables name ++ filled variables bs else filled_name variables (name ++ b ∷ []) bs

-- a server's URL
abbrev pub url_of : Json → List ℕ
url_of server = filled (members_at (codes "variables") server) (text_at (codes "url") server)

abbrev pub first_of : List Json → Option Json
first_of [] = None
first_of (j ∷ js) = Some j

-- the first server that an object lists, where it lists any
abbrev pub server_in : Json → Option Json
server_in j = first_of (items_at (codes "servers") j)

-- the first server of the operation, or else of its path item, or else of the document
abbrev pub server_of : (root item operation : Json) → Option Json
server_of root item operation = option_or (server_in operation) (option_or (server_in item) (server_in root))

abbrev pub server_url : (root item operation : Json) → Option (List ℕ)
server_url root item operation = option_map url_of (server_of root item operation)
