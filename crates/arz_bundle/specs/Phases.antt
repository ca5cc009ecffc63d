-- The phases in which the files are judged: of each the refusal that it tells, if a rule of it fails.
use Rattle.std.specs.Prelude.{◌≡◌, ℕ, Bool, List, [], ◌∷◌, ◌++◌, length, codes, nat_le, if◌then◌else◌, Option, Some, None, option_map}
use Rattle.arz_json.specs.declared.Json.{Json}
use Rattle.arz_json.specs.declared.Named.{Named}
use Rattle.arz_json.specs.declared.NamedText.{NamedText}
use Rattle.arz_json.specs.declared.Refusal.{Refusal}
use Rattle.arz_rules.specs.Phases.{Rule, refusal, first_failure}
use Rattle.arz_rules.specs.Place.{here_unless}
use Rattle.arz_wire.specs.Spelling.{spelling}
use Rattle.arz_flow.specs.declared.bundle.Bundle.{Bundle}
use Rattle.arz_start.specs.StartTree.{start_tree}
use Rattle.arz_doc.specs.Cycles.{TellsCycles}
use Rattle.arz_cond.specs.Outcomes.{Patterned}
use Rattle.arz_criteria.specs.Rules.{TellsReadings}
use Rattle.arz_doc.specs.Order.{whole_rules}
use Rattle.arz_openapi.specs.Rules.{rules as source_rules}
use Rattle.arz_sources.specs.Rules.{rules as step_rules}
use Rattle.arz_bundle.specs.FileRules.{setup_rules, replies_rules}
use Rattle.arz_bundle.specs.Naming.{naming_rules}
use Rattle.arz_bundle.specs.Setup.{servers_of}
use Rattle.arz_bundle.specs.Unbuilt.{unbuilt_of_description}

-- the first of these rules that fails, as it is told with the document's label
abbrev pub told : (label : List ℕ) → List Rule → Option Refusal
told label rules = option_map (refusal label) (first_failure rules)

-- what is told where two documents are judged in one phase: the lesser rule, and at one rule the first document's
abbrev pub earlier : Option Refusal → Option Refusal → Option Refusal
earlier None other = other
earlier (Some r) None = Some r
earlier (Some r) (Some s) = if nat_le r.rule s.rule then Some r else Some s

-- ---- phases

abbrev pub setup_told : (setup : Json) → Option Refusal
setup_told setup = told (codes "setup") (setup_rules setup)

-- the description with its criteria, where tests tell which workflows depend on themselves and which patterns have no reading
abbrev pub described : (is_cyclic : ℕ → Bool) → (refuses : List ℕ → Bool) → (description : Json) → Option Refusal
described is_cyclic refuses description = told (codes "arazzo") (whole_rules is_cyclic refuses description)

-- the description, and what the setup names in it
abbrev pub description_told : (is_cyclic : ℕ → Bool) → (refuses : List ℕ → Bool) → (setup description : Json) → Option Refusal
description_told is_cyclic refuses setup description = earlier (told (codes "setup") (naming_rules description setup)) (described is_cyclic refuses description)

-- this is told of them, by tests that are exact; patterned: what is told of patterns
abbrev pub IsDescribed : (patterned : Patterned) → (setup description : Json) → Option Refusal → Type 0
IsDescribed patterned setup description told =
    (is_cyclic : ℕ → Bool) × TellsCycles description is_cyclic × (refuses : List ℕ → Bool) × TellsReadings patterned description refuses
    × (told ≡ description_told is_cyclic refuses setup description)

-- what isn't built yet
abbrev pub unbuilt_told : (description : Json) → Option Refusal
unbuilt_told description = told (codes "arazzo") ((0, unbuilt_of_description description) ∷ [])

-- the label of a source in refusals
abbrev pub source_label : (name : List ℕ) → List ℕ
source_label name = codes "source " ++ name

-- a source by itself
abbrev pub source_told : (label : List ℕ) → (source : Json) → Option Refusal
source_told label source = told label (source_rules source)

-- the steps of the description, against the sources that they call and the servers that the setup gives
unfoldable pub steps_against : (description : Json) → List Named → List NamedText → Option Refusal
steps_against description sources servers = told (codes "arazzo") (step_rules description sources servers)

abbrev pub steps_told : (setup description : Json) → List Named → Option Refusal
steps_told setup description sources = steps_against description sources (servers_of setup)

-- how many bytes the tree of a bundle may have in its wire form, with which a journal begins
abbrev pub start_limit : ℕ
start_limit = 67108864

-- the bundle as a whole
unfoldable pub size_told : Bundle → Option Refusal
size_told b = told (codes "setup") ((24, here_unless (nat_le (length (spelling (start_tree b))) start_limit)) ∷ [])

abbrev pub replies_told : (replies : Json) → Option Refusal
replies_told replies = told (codes "replies") (replies_rules replies)
