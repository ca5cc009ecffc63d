-- A bundle as one tree, with which a journal begins. It has all of these members and no other, in byte order.
use Rattle.std.specs.Prelude.{ℕ, pos, List, [], ◌∷◌, ◌++◌, map, Bool, true, false, codes}
use Rattle.std.specs.BTreeMap.{insert_entry}
use Rattle.std.specs.Cmp.Lexicographic.{slice_cmp}
use Rattle.std.specs.Ordering.{nat_cmp}
use denote.Ref.{Bor}
use Rattle.arz_json.specs.declared.Json.{Json}
use Rattle.arz_json.specs.declared.Json.TheVariants.{Int, Text, Object}
use Rattle.arz_json.specs.declared.Member.{Member}
use Rattle.arz_json.specs.declared.tree.Named.{Named}
use Rattle.arz_flow.specs.declared.bundle.Bundle.{Bundle}
use Rattle.arz_json.specs.declared.NamedText.{NamedText}

abbrev pub named : List ℕ → Json → Member
named name value = record { name = name; value = value }

-- whether waits are skipped
abbrev pub delay_word : Bool → List ℕ
delay_word true = codes "skip"
delay_word false = codes "stop"

abbrev pub server_of : NamedText → Member
server_of server = named server.name (Text server.text)

-- the documents by their names, in byte order
abbrev pub entered : List (List ℕ × Json) → List Named → List (List ℕ × Json)
entered entries [] = entries
entered entries (source ∷ sources) = entered (insert_entry (slice_cmp nat_cmp) entries source.name source.root) sources

abbrev pub seen_member : List ℕ × Json → Member
seen_member entry = named entry.0 entry.1

abbrev pub documents : List Named → List Member
documents sources = map seen_member (entered [] sources)

abbrev pub description_first : Bundle → List Member
description_first b =
    named (codes "arazzo") b.arazzo
    ∷ named (codes "delay") (Text (delay_word b.skip_delay))
    ∷ named (codes "inputs") (Object b.inputs)
    ∷ []

abbrev pub limits_next : Bundle → List Member
limits_next b =
    named (codes "journalLimit") (Int (pos b.journal_limit))
    ∷ named (codes "maxAttempts") (Int (pos b.max_attempts))
    ∷ []

abbrev pub servers_next : Bundle → List Member
servers_next b =
    named (codes "servers") (Object (map server_of b.servers))
    ∷ []

abbrev pub sources_last : Bundle → List Member
sources_last b =
    named (codes "sources") (Object (documents b.sources))
    ∷ named (codes "workflow") (Text b.workflow)
    ∷ []

abbrev pub start_tree : Bundle → Json
start_tree b = Object (description_first b ++ limits_next b ++ servers_next b ++ sources_last b)

-- ---- for private clauses

abbrev pub seen_entry : Bor (List ℕ) × Bor Json → List ℕ × Json
seen_entry entry = (entry.0.now, entry.1.now)
