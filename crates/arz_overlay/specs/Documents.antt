-- Overlay documents (Overlay 1.0.0, section 4.4): their parts, and the rules that one keeps by itself.
use Rattle.std.specs.Prelude.{◌≡◌, ◌↔◌, ℕ, List, [], ◌∷◌, Bool, false, codes, if◌then◌else◌, Option, Some, None, unwrap_or, Result, Ok, Err}
use Rattle.std.specs.Option.{is_some}
use Rattle.arz_json.specs.Look.{text_at, items_at, member_in}
use Rattle.arz_json.specs.declared.tree.Json.{Json, out-Json}
use Rattle.arz_json.specs.declared.tree.Json.TheOpen.{Json-F}
use Rattle.arz_json.specs.declared.tree.Member.{Member}
use Rattle.arz_json.specs.declared.tree.Refusal.{Refusal}
use Rattle.arz_json.specs.declared.place.Token.{Token}
use Rattle.arz_json.specs.declared.place.Token.TheVariants.{Name, Index}
use Rattle.arz_query.specs.Answers.{answer, Spells}
use Rattle.arz_query.specs.declared.fault.PathFault.{PathFault}
use Rattle.arz_query.specs.declared.query.Segment.{Segment}
use Rattle.arz_rules.specs.declared.kinds.Kind.TheVariants as Kind
use Rattle.arz_rules.specs.Misses.{misses}
use Rattle.arz_rules.specs.Phases.{Rule, phase}
use Rattle.arz_rules.specs.Place.{under}
use Rattle.arz_rules.specs.Sets.{bad_text}
use Rattle.arz_rules.specs.Sites.{Check, member, at, in_items}
use Rattle.arz_rules.specs.Texts.{is_version}

-- ---- the parts of a document

abbrev pub actions_in : Json → List Json
actions_in root = items_at (codes "actions") root

abbrev pub target_of : Json → List ℕ
target_of action = text_at (codes "target") action

abbrev pub update_of : Json → Option Json
update_of action = member_in (codes "update") action

abbrev pub is_set_in : Json-F Json Member → Bool
is_set_in (Json-F.Flag b) = b
is_set_in _ = false

abbrev pub is_set : Option Json → Bool
is_set None = false
is_set (Some j) = is_set_in (out-Json j)

-- its `remove` is true
abbrev pub removes : Json → Bool
removes action = is_set (member_in (codes "remove") action)

-- where an action stands
abbrev pub action_place : ℕ → List Token
action_place k = Name (codes "actions") ∷ Index k ∷ []

-- ---- targets. A law ties `query_in` to the grammar of queries (RFC 9535).

abbrev pub given_by : {X : Type 0} → Result X PathFault → Option X
given_by (Ok x) = Some x
given_by (Err e) = None

-- the segments of a text that is a query
abbrev pub query_in : List ℕ → Option (List Segment)
query_in text = given_by (answer text)

abbrev pub is_query : List ℕ → Bool
is_query text = is_some (query_in text)

abbrev pub segments_of : List ℕ → List Segment
segments_of text = unwrap_or (query_in text) []

-- that law
abbrev pub QueriesAreThoseOfTheGrammar : Type 0
QueriesAreThoseOfTheGrammar = (text : List ℕ) (vs : List Segment) → (query_in text ≡ Some vs) ↔ Spells text vs

-- ---- rules

-- the version is 1.0
abbrev pub bad_version : Check
bad_version = at (member (codes "overlay") ∷ []) (bad_text (is_version (codes "1.0.")))

-- the target of an action is a query
abbrev pub bad_target : Check
bad_target action = if is_query (target_of action) then [] else (Name (codes "target") ∷ []) ∷ []

abbrev pub bad_targets : Check
bad_targets root = under (Name (codes "actions")) (in_items bad_target 0 (actions_in root))

abbrev pub rules : Json → List Rule
rules root = (3, misses root Kind.Overlay) ∷ (4, bad_version root) ∷ (15, bad_targets root) ∷ []

-- ---- a document that is taken

-- the tree, and the label by which it is told
pub record Document : Type 0 where
  pub tree : Json
  pub label : List ℕ

-- the document, or the first rule that it fails, at the least place
abbrev pub document : List ℕ → Json → Result Document Refusal
document label root = phase label (rules root) (Ok (record { tree = root; label = label }))
