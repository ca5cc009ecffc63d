-- Path templates (OpenAPI 3.1.1, section 4.8.8.2): the paths of a document, with `{name}` for the text of a parameter.
use Rattle.std.specs.Prelude.{ℕ, zero, suc, ◌+◌, ◌==◌, ◌&&◌, ◌||◌, not, nat_lt, Bool, List, [], ◌∷◌, length, codes, if◌then◌else◌, Option, Some, None}
use Rattle.std.specs.List.{list_all, list_any, flat_map, filter_map}
use Rattle.std.specs.Char.{is_ascii_alphanumeric}
use Rattle.percent_encoding.specs.Percent.{percent_encode_byte}
use Rattle.arz_json.specs.Texts.{split_once}

-- a part of a path: the name between braces, or a byte that stands for itself
pub data Part : Type 0 where
  Name : List ℕ → Part
  Byte : ℕ → Part

-- all but `{`, `}` and `/` may stand in a name
abbrev pub is_inside : ℕ → Bool
is_inside b = not (b == 123 || b == 125 || b == 47)

abbrev pub is_name : List ℕ → Bool
is_name text = nat_lt 0 (length text) && list_all is_inside text

-- what stands before a `}`, if it is a name
abbrev pub name_before : Option (List ℕ × List ℕ) → Option (List ℕ)
name_before None = None
name_before (Some cut) = if is_name cut.0 then Some cut.0 else None

-- the name of the `{name}` that the text begins with
abbrev pub name_at : List ℕ → Option (List ℕ)
name_at [] = None
name_at (b ∷ rest) = if b == 123 then name_before (split_once 125 rest) else None

abbrev pub part_of : Option (List ℕ) → ℕ → Part
part_of None b = Byte b
part_of (Some name) b = Name name

-- how many bytes of a part stand behind its first one
abbrev pub others_of : Option (List ℕ) → ℕ
others_of None = 0
others_of (Some name) = length name + 1

-- the parts of a path, behind so many bytes that belong to a part before
abbrev pub parts_after : ℕ → List ℕ → List Part
parts_after skip [] = []
parts_after zero (b ∷ rest) = part_of (name_at (b ∷ rest)) b ∷ parts_after (others_of (name_at (b ∷ rest))) rest
parts_after (suc skip) (b ∷ rest) = parts_after skip rest

abbrev pub parts : List ℕ → List Part
parts path = parts_after 0 path

abbrev pub name_in : Part → Option (List ℕ)
name_in (Name name) = Some name
name_in (Byte b) = None

-- the names of a path, in order, each as often as it stands there
abbrev pub names : List ℕ → List (List ℕ)
names path = filter_map name_in (parts path)

-- ---- the path of a target (RFC 3986, section 3.3)

-- what may stand in a path: the unreserved bytes, `sub-delims`, `:`, `@` and `/`; and `%`, with which an escape begins
abbrev pub is_path_byte : ℕ → Bool
is_path_byte b = is_ascii_alphanumeric b || list_any (λ c. c == b) (codes "-._~!$&'()*+,;=:@/%")

-- each other byte percent-encoded
abbrev pub path_byte : ℕ → List ℕ
path_byte b = if is_path_byte b then b ∷ [] else percent_encode_byte b

abbrev pub expanded_part : (texts : List ℕ → List ℕ) → Part → List ℕ
expanded_part texts (Name name) = texts name
expanded_part texts (Byte b) = path_byte b

-- the path with the text of each name in its place
abbrev pub expanded : (texts : List ℕ → List ℕ) → (path : List ℕ) → List ℕ
expanded texts path = flat_map (expanded_part texts) (parts path)
