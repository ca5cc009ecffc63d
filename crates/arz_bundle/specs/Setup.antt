-- What a setup says of a run: which description, which workflow, and how.
use Rattle.std.specs.Prelude.{ℕ, ℤ, pos, negsuc, nat_le, List, [], ◌∷◌, map, codes, Bool, if◌then◌else◌, Option, Some, None, option_and_then, unwrap_or}
use Rattle.std.specs.Str.{bytes_eq}
use Rattle.arz_json.specs.Look.{text_in, int_in, member_in, text_at, items_at, members_at}
use Rattle.arz_json.specs.declared.Json.{Json}
use Rattle.arz_json.specs.declared.Member.{Member}
use Rattle.arz_json.specs.declared.Named.{Named}
use Rattle.arz_json.specs.declared.NamedText.{NamedText}
use Rattle.arz_flow.specs.declared.bundle.Bundle.{Bundle}

-- ---- paths of files

abbrev pub description_path : (setup : Json) → List ℕ
description_path setup = text_at (codes "arazzo") setup

-- the path of the source with this name, where the setup gives one
abbrev pub path_given : (setup : Json) → (name : List ℕ) → Option (List ℕ)
path_given setup name = option_and_then text_in (option_and_then (member_in name) (member_in (codes "sources") setup))

-- a source is read at that path, and else at its own `url`
abbrev pub path_of_source : (setup source : Json) → List ℕ
path_of_source setup source = unwrap_or (path_given setup (text_at (codes "name") source)) (text_at (codes "url") source)

-- ---- what is run

-- the text under a name in the first of these
abbrev pub first_text : List ℕ → List Json → List ℕ
first_text name [] = []
first_text name (j ∷ js) = text_at name j

-- the workflow that the setup names, or the first
abbrev pub workflow_run : (setup description : Json) → List ℕ
workflow_run setup description =
    unwrap_or (option_and_then text_in (member_in (codes "workflow") setup)) (first_text (codes "workflowId") (items_at (codes "workflows") description))

-- ---- limits

abbrev pub number_to : ℕ → ℤ → Option ℕ
number_to limit (pos n) = if nat_le n limit then Some n else None
number_to limit (negsuc n) = None

-- a number of the setup that doesn't pass its limit, or what counts without it
abbrev pub number_at : (name : List ℕ) → (limit without : ℕ) → (setup : Json) → ℕ
number_at name limit without setup = unwrap_or (option_and_then (number_to limit) (option_and_then int_in (member_in name setup))) without

-- how many requests may be sent
abbrev pub max_attempts : (setup : Json) → ℕ
max_attempts = number_at (codes "maxAttempts") 10000 1000

-- how many bytes the journal may have
abbrev pub journal_limit : (setup : Json) → ℕ
journal_limit = number_at (codes "journalLimit") 1073741824 1073741824

abbrev pub skips_delay : (setup : Json) → Bool
skips_delay setup = bytes_eq (text_at (codes "delay") setup) (codes "skip")

-- ---- servers

abbrev pub server_of : Member → NamedText
server_of m = record { name = m.name; text = unwrap_or (text_in m.value) [] }

-- the URLs of servers that the setup gives, each under the name of its source
abbrev pub servers_of : (setup : Json) → List NamedText
servers_of setup = map server_of (members_at (codes "servers") setup)

-- ---- the bundle

-- what is executed, of these sources
abbrev pub bundle_of : (setup description : Json) → List Named → Bundle
bundle_of setup description sources = record {
  arazzo = description;
  sources = sources;
  servers = servers_of setup;
  workflow = workflow_run setup description;
  inputs = members_at (codes "inputs") setup;
  max_attempts = max_attempts setup;
  skip_delay = skips_delay setup;
  journal_limit = journal_limit setup;
}
