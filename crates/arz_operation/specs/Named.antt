-- The operations of a document, and which of them a name means (OpenAPI 3.1.0, sections 4.8.8 to 4.8.14).
use Rattle.std.specs.Prelude.{ℕ, ◌==◌, ◌&&◌, ◌||◌, List, [], ◌∷◌, ◌++◌, map, codes, Bool, true, false, Option, Some, None, option_map, option_and_then, find, Result, Ok, Err, if◌then◌else◌}
use Rattle.std.specs.Option.{is_some}
use Rattle.std.specs.List.{filter_map, flat_map}
use Rattle.std.specs.Str.{bytes_eq}
use Rattle.arz_json.specs.declared.tree.Json.{Json}
use Rattle.arz_json.specs.declared.tree.Member.{Member}
use Rattle.arz_json.specs.declared.tree.Location.{Location}
use Rattle.arz_json.specs.declared.tree.Location.TheVariants.{Path, Query, Header, Cookie}
use Rattle.arz_json.specs.Look.{text_in, member_in, items_at, members_at}
use Rattle.arz_json.specs.Pointer.{decoded, member_named}
use Rattle.arz_json.specs.Texts.{split_once}
use Rattle.arz_operation.specs.References.{reference_of, meant}
use Rattle.arz_operation.specs.Parameters.{described}
use Rattle.arz_operation.specs.Servers.{server_url}
use Rattle.arz_operation.specs.declared.references.Lost.{Lost}
use Rattle.arz_operation.specs.declared.types.Described.{Described}
use Rattle.arz_operation.specs.declared.types.Operation.{Operation}

-- ---- where operations stand

-- the fixed fields of a path item that hold operations (section 4.8.9), in byte order
abbrev pub methods : List (List ℕ)
methods = codes "delete" ∷ codes "get" ∷ codes "head" ∷ codes "options" ∷ codes "patch" ∷ codes "post" ∷ codes "put" ∷ codes "trace" ∷ []

abbrev pub is_among : List (List ℕ) → List ℕ → Bool
is_among [] s = false
is_among (t ∷ ts) s = bytes_eq t s || is_among ts s

-- an operation where it stands: its path, whether the path refers to its item, the path item, the method, and the
-- operation itself
pub record Standing : Type 0 where
  pub path : List ℕ
  pub is_referred : Bool
  pub item : Json
  pub method : List ℕ
  pub operation : Json

abbrev pub standing : (path : List ℕ) → (is_referred : Bool) → (item : Json) → (method : List ℕ) → Json → Standing
standing path is_referred item method operation =
    record { path = path; is_referred = is_referred; item = item; method = method; operation = operation }

abbrev pub under_method : (path : List ℕ) → (is_referred : Bool) → (item : Json) → (method : List ℕ) → Option Standing
under_method path is_referred item method = option_map (standing path is_referred item method) (member_in method item)

-- what was meant, if anything was
abbrev pub if_meant : {A : Type 0} → Result A Lost → Option A
if_meant (Ok a) = Some a
if_meant (Err lost) = None

-- a path item that is a reference is the one that it names; one that can't be followed has no operations
abbrev pub item_of : (root item : Json) → Option Json
item_of root item = if_meant (meant root item)

-- a path begins with `/` (section 4.8.8)
abbrev pub is_path : List ℕ → Bool
is_path [] = false
is_path (b ∷ bs) = b == 47

abbrev pub all_under : (path : List ℕ) → (is_referred : Bool) → Option Json → List Standing
all_under path is_referred None = []
all_under path is_referred (Some item) = filter_map (under_method path is_referred item) methods

abbrev pub is_reference : Json → Bool
is_reference j = is_some (reference_of j)

abbrev pub in_member : Json → Member → List Standing
in_member root m = if is_path m.name then all_under m.name (is_reference m.value) (item_of root m.value) else []

-- the operations of a document, by their paths and methods in byte order
abbrev pub operations : Json → List Standing
operations root = flat_map (in_member root) (members_at (codes "paths") root)

-- ---- which operation a name means

abbrev pub id_of : Standing → Option (List ℕ)
id_of s = option_and_then text_in (member_in (codes "operationId") s.operation)

abbrev pub is_text : List ℕ → Option (List ℕ) → Bool
is_text id None = false
is_text id (Some t) = bytes_eq t id

abbrev pub has_id : List ℕ → Standing → Bool
has_id id s = is_text id (id_of s)

-- the first operation with this operationId; an operationId must stand once in a document (section 4.8.10)
abbrev pub by_id : Json → List ℕ → Option Standing
by_id root id = find (has_id id) (operations root)

abbrev pub at_item : (path method : List ℕ) → Json → (item : Json) → Option Standing
at_item path method root item = option_and_then (λ meant. under_method path (is_reference item) meant method) (item_of root item)

-- the operation with this path and method
abbrev pub at_path : Json → (path method : List ℕ) → Option Standing
at_path root path method =
    if is_path path && is_among methods method
    then option_and_then (at_item path method root) (member_named (members_at (codes "paths") root) path) else None

-- what follows a key
abbrev pub after : List ℕ → List ℕ → Option (List ℕ)
after [] text = Some text
after (k ∷ key) [] = None
after (k ∷ key) (b ∷ text) = if b == k then after key text else None

abbrev pub with_method : Json → List ℕ × List ℕ → Option Standing
with_method root p = option_and_then (λ path. at_path root path p.1) (decoded p.0)

-- the operation at a JSON Pointer (RFC 6901): `/paths/PATH/METHOD`
abbrev pub by_pointer : Json → List ℕ → Option Standing
by_pointer root pointer = option_and_then (with_method root) (option_and_then (split_once 47) (after (codes "/paths/") pointer))

-- ---- what an operation says

-- whether a name is taken in a place
abbrev pub Taken : Type 0
Taken = Location → List ℕ → Bool

abbrev pub is_same : Location → Location → Bool
is_same Path Path = true
is_same Query Query = true
is_same Header Header = true
is_same Cookie Cookie = true
is_same _ _ = false

abbrev pub taking : Described → Taken → Taken
taking d taken place name = (is_same d.place place && bytes_eq d.name name) || taken place name

abbrev pub taking_all : List Described → Taken → Taken
taking_all [] taken = taken
taking_all (d ∷ ds) taken = taking_all ds (taking d taken)

abbrev pub none_taken : Taken
none_taken place name = false

-- the parameters whose name isn't taken in their place; of several with one name and place the first
abbrev pub untaken : Taken → List Described → List Described
untaken taken [] = []
untaken taken (d ∷ ds) = (if taken d.place d.name then [] else d ∷ []) ++ untaken (taking d taken) ds

-- a parameter, or the one that a reference names
abbrev pub parameter_in : (root j : Json) → Option Described
parameter_in root j = option_and_then described (if_meant (meant root j))

-- the parameters that a path item or an operation lists
abbrev pub listed : (root j : Json) → List Described
listed root j = filter_map (parameter_in root) (items_at (codes "parameters") j)

-- the parameters of a path item, and then those of the operation, which replace those of the item with the same name
-- and place (section 4.8.9)
abbrev pub joined : (item own : List Described) → List Described
joined item own = untaken (taking_all own none_taken) item ++ untaken none_taken own

-- the media types of a request body (section 4.8.13), in byte order as all members
abbrev pub types_in : Option Json → List (List ℕ)
types_in None = []
types_in (Some body) = map (λ m. m.name) (members_at (codes "content") body)

abbrev pub body_in : (root operation : Json) → Option Json
body_in root operation = option_and_then (λ body. if_meant (meant root body)) (member_in (codes "requestBody") operation)

abbrev pub operation_of : Json → Standing → Operation
operation_of root s = record {
  path = s.path;
  method = s.method;
  parameters = joined (listed root s.item) (listed root s.operation);
  types = types_in (body_in root s.operation);
  server = server_url root s.item s.operation;
}
