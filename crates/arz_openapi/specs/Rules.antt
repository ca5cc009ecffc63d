-- The rules that an OpenAPI document must keep, each as the places that fail it.
use Rattle.std.specs.Prelude.{ℕ, zero, suc, ◌==◌, ◌||◌, List, [], ◌∷◌, ◌++◌, codes, Bool, false, Option, Some, None, option_map, option_and_then, slice_get, map, if◌then◌else◌}
use Rattle.std.specs.Option.{is_some}
use Rattle.std.specs.Str.{bytes_eq}
use Rattle.serde_json.specs.Find.{index_of}
use Rattle.arz_json.specs.declared.tree.Json.{Json, out-Json}
use Rattle.arz_json.specs.declared.tree.Json.TheOpen.{Json-F}
use Rattle.arz_json.specs.declared.tree.Member.{Member}
use Rattle.arz_json.specs.declared.place.Token.{Token}
use Rattle.arz_json.specs.declared.place.Token.TheVariants.{Name, Index}
use Rattle.arz_json.specs.Look.{text_in, object_in, members_at}
use Rattle.arz_json.specs.Pointer.{decoded, member_named}
use Rattle.arz_rules.specs.Sites.{member, Check, at}
use Rattle.arz_rules.specs.Sets.{bad_text}
use Rattle.arz_rules.specs.Texts.{is_version}
use Rattle.arz_rules.specs.Misses.{misses}
use Rattle.arz_rules.specs.Phases.{Rule}
use Rattle.arz_rules.specs.declared.kinds.Kind.TheVariants as Kind
use Rattle.arz_openapi.specs.declared.document.Failure.{Failure}
use Rattle.arz_operation.specs.References.{reference_of}
use Rattle.arz_operation.specs.Named.{Standing, operations, id_of, is_path}

-- ---- a member is missing or of another kind

-- what fails where an object is no path item; what is no object has no operations
abbrev pub item_misses : Check
item_misses j = if is_some (object_in j) then misses j Kind.PathItem else []

-- a step from a tree, and where it leads
abbrev pub to_item : ℕ → Json → Token × Json
to_item i j = (Index i, j)

abbrev pub to_member : List ℕ → Json → Token × Json
to_member name j = (Name name, j)

abbrev pub item_at : List Json → ℕ → Option (Token × Json)
item_at js i = option_map (to_item i) (slice_get js i)

abbrev pub member_at : List Member → List ℕ → Option (Token × Json)
member_at ms name = option_map (to_member name) (member_named ms name)

abbrev pub step_in : List ℕ → Json-F Json Member → Option (Token × Json)
step_in token (Json-F.List js) = option_and_then (item_at js) (index_of token)
step_in token (Json-F.Object ms) = option_and_then (member_at ms) (decoded token)
step_in token Json-F.Null = None
step_in token (Json-F.Flag b) = None
step_in token (Json-F.Int z) = None
step_in token (Json-F.Text s) = None
step_in token Json-F.Opaque = None

abbrev pub step_to : List ℕ → Json → Option (Token × Json)
step_to token j = step_in token (out-Json j)

-- a tree, and its place
abbrev pub Spot : Type 0
Spot = List Token × Json

abbrev pub behind_step : Token → Spot → Spot
behind_step t s = (t ∷ s.0, s.1)

abbrev pub last_step : Token × Json → Spot
last_step s = (s.0 ∷ [], s.1)

abbrev pub going_on : (Json → Option Spot) → Token × Json → Option Spot
going_on next s = option_map (behind_step s.0) (next s.1)

-- `token` has been read of the token that the text goes on with
unfoldable pub spot_from : List ℕ → List ℕ → Json → Option Spot
spot_from token [] j = option_map last_step (step_to token j)
spot_from token (x ∷ rest) j = if x == 47 then option_and_then (going_on (spot_from [] rest)) (step_to token j) else spot_from (token ++ x ∷ []) rest j

-- what a JSON Pointer names (RFC 6901), and its place
abbrev pub spot : List ℕ → Json → Option Spot
spot [] j = Some ([], j)
spot (x ∷ rest) j = if x == 47 then spot_from [] rest j else None

-- the pointer of a reference within the document
abbrev pub local : List ℕ → Option (List ℕ)
local [] = None
local (b ∷ pointer) = if b == 35 then Some pointer else None

abbrev pub pointer_of : Json → Option (List ℕ)
pointer_of j = option_and_then local (option_and_then text_in (reference_of j))

-- the same places, below another
abbrev pub below : List Token → List (List Token) → List (List Token)
below place ps = map (λ p. place ++ p) ps

-- what path items miss behind the references of a chain, each where it stands
abbrev pub through : (Json → List (List Token)) → Option Spot → List (List Token)
through more None = []
through more (Some s) = below s.0 (item_misses s.1) ++ more s.1

abbrev pub spot_of : Json → Option (List ℕ) → Option Spot
spot_of root pointer = option_and_then (λ p. spot p root) pointer

abbrev pub behind : ℕ → (root item : Json) → List (List Token)
behind zero root item = []
behind (suc n) root item = through (behind n root) (spot_of root (pointer_of item))

abbrev pub behind_member : Json → Member → List (List Token)
behind_member root m = if is_path m.name then behind 32 root m.value else []

abbrev pub behind_members : Json → List Member → List (List Token)
behind_members root [] = []
behind_members root (m ∷ ms) = behind_member root m ++ behind_members root ms

abbrev pub wrong_shapes : Check
wrong_shapes root = misses root Kind.OpenApi ++ behind_members root (members_at (codes "paths") root)

-- ---- the version isn't one of OpenAPI 3.1

abbrev pub wrong_version : Check
wrong_version root = at (member (codes "openapi") ∷ []) (bad_text (is_version (codes "3.1."))) root

-- ---- an operationId stands a second time

-- it is told at the path's item, where this is a reference
abbrev pub told_in : Standing → List Token
told_in s = if s.is_referred then [] else Name s.method ∷ Name (codes "operationId") ∷ []

abbrev pub told : Standing → List Token
told s = Name (codes "paths") ∷ Name s.path ∷ told_in s

-- an operationId that is taken
abbrev pub is_taken : (List ℕ → Bool) → Option (List ℕ) → Bool
is_taken taken None = false
is_taken taken (Some id) = taken id

abbrev pub taking : Option (List ℕ) → (List ℕ → Bool) → List ℕ → Bool
taking None taken q = taken q
taking (Some id) taken q = bytes_eq id q || taken q

abbrev pub repeated : (List ℕ → Bool) → List Standing → List (List Token)
repeated taken [] = []
repeated taken (s ∷ ss) = (if is_taken taken (id_of s) then told s ∷ [] else []) ++ repeated (taking (id_of s) taken) ss

abbrev pub none_taken : List ℕ → Bool
none_taken q = false

abbrev pub repeated_ids : Check
repeated_ids root = repeated none_taken (operations root)

-- ---- the rules by their numbers

abbrev pub rules : Json → List Rule
rules root = (3, wrong_shapes root) ∷ (4, wrong_version root) ∷ (6, repeated_ids root) ∷ []

-- ---- for private clauses: a failure as a number and a place

abbrev pub seen_failure : Failure → ℕ × List Token
seen_failure f = (f.rule, f.place.tokens)
