-- What the file of a journal stands for.
use Rattle.std.specs.Prelude.{◌≡◌, ◌⊎◌, ◌+◌, ◌<◌, ◌^◌, ℕ, zero, suc, ◌==◌, List, [], ◌∷◌, ◌++◌, length, take, drop, nat_lt, Result, Ok, Err, if◌then◌else◌}
use Rattle.std.specs.Int.{w32, to_be_bytes, from_be_bytes}
use Rattle.std.specs.Str.{bytes_eq}
use Rattle.std.specs.declared.option.Option.{Option}
use Rattle.std.specs.declared.option.Option.TheVariants.{None, Some}
use Rattle.arz_wire.specs.Entries.{entry_of, entry_spelling, IsEntry}
use Rattle.arz_wire.specs.declared.entry.Entry.{Entry}
use Rattle.arz_wire.specs.declared.entry.Mark.{Mark}
use Rattle.arz_wire.specs.declared.entry.Mark.TheVariants as mark
use Rattle.arz_wire.specs.declared.fault.WireFault.{WireFault}

-- the eight bytes that a journal begins with: ARZJRNL1
abbrev pub magic : List ℕ
magic = 65 ∷ 82 ∷ 90 ∷ 74 ∷ 82 ∷ 78 ∷ 76 ∷ 49 ∷ []

-- The entries that a file gives, and the place of the gate from which on it is no journal, where there is one.
-- Places count from the file's first byte.
pub record Recovered : Type 0 where
  pub entries : List Entry
  pub broken : Option ℕ

abbrev pub whole : List Entry → Recovered
whole entries = record { entries = entries; broken = None }

-- from this place on it is no journal
abbrev pub broken_at : ℕ → Recovered
broken_at at = record { entries = []; broken = Some at }

-- these entries, and then what follows
abbrev pub entries_then : List Entry → Recovered → Recovered
entries_then entries more = record { entries = entries ++ more.entries; broken = more.broken }

-- Behind an open gate stand the number of the payload's bytes, in four bytes, big-endian, and the payload.
abbrev pub payload_length : List ℕ → ℕ
payload_length bytes = from_be_bytes w32 (take 4 bytes)

abbrev pub read_entry : Result Entry WireFault → Option Entry
read_entry (Ok entry) = Some entry
read_entry (Err fault) = None

-- the entry behind an open gate, where the number, the payload and the next gate stand in the file
abbrev pub entry_behind : List ℕ → Option Entry
entry_behind bytes =
    if nat_lt (4 + payload_length bytes) (length bytes) then read_entry (entry_of (take (payload_length bytes) (drop 4 bytes))) else None

abbrev pub entry_then : ℕ → Option Entry → Recovered → Recovered
entry_then at None more = record { entries = []; broken = Some at }
entry_then at (Some entry) more = record { entries = entry ∷ more.entries; broken = more.broken }

-- What the bytes from a place on give: a gate stands there, or so many bytes further on. A gate is open where
-- it is 1. What stands behind a closed gate is never read.
abbrev pub from_gate : ℕ → ℕ → List ℕ → Recovered
from_gate at skip [] = whole []
from_gate at (suc skip) (byte ∷ bytes) = from_gate (at + 1) skip bytes
from_gate at zero (gate ∷ bytes) =
    if gate == 1 then entry_then at (entry_behind bytes) (from_gate (at + 1) (4 + payload_length bytes) bytes) else whole []

-- what a file gives
abbrev pub recovered : List ℕ → Recovered
recovered file =
    if nat_lt 9 (length file) then (if bytes_eq (take 8 file) magic then from_gate 8 0 (drop 8 file) else record { entries = []; broken = Some 0 })
    else whole []

-- what stands in a file from a gate on
abbrev pub ahead : List ℕ → ℕ → Recovered
ahead file place = from_gate place 0 (drop place file)

-- the bytes of a payload behind its gate, and the whole block
abbrev pub counted : List ℕ → List ℕ
counted payload = to_be_bytes w32 (length payload) ++ payload

abbrev pub block : List ℕ → List ℕ
block payload = 1 ∷ counted payload

-- the bytes are the blocks of these entries
abbrev pub AreBlocks : List Entry → List ℕ → Type 0
AreBlocks [] bytes = bytes ≡ []
AreBlocks (entry ∷ entries) bytes =
    (payload : List ℕ) × (rest : List ℕ) × (bytes ≡ block payload ++ rest) × (entry_of payload ≡ Ok entry) × (length payload < 2 ^ 32) × AreBlocks entries rest

-- the bytes are a journal up to a gate, with these entries before it
abbrev pub IsFront : List ℕ → List Entry → Type 0
IsFront front entries = (bytes : List ℕ) × (front ≡ magic ++ bytes) × AreBlocks entries bytes

-- a mark, as a payload begins
abbrev pub mark_spelling : Mark → List ℕ
mark_spelling mark.Start = 1 ∷ []
mark_spelling (mark.Begun n) = 2 ∷ to_be_bytes w32 n
mark_spelling (mark.Held n closed) = 3 ∷ (to_be_bytes w32 n ++ (if closed then 1 else 0) ∷ [])
mark_spelling (mark.Served n) = 4 ∷ to_be_bytes w32 n

-- the payload of a mark and the bytes behind it
abbrev pub payload : Mark → List ℕ → List ℕ
payload mark rest = mark_spelling mark ++ rest

-- a mark and the bytes behind it spell this entry
abbrev pub Spells : Mark → List ℕ → Entry → Type 0
Spells mark rest entry = IsEntry entry × (payload mark rest ≡ entry_spelling entry)

-- the image gives what the file gives, or that and the entry behind it
abbrev pub IsBeforeOrAfter : List ℕ → Entry → List ℕ → Type 0
IsBeforeOrAfter file entry image =
    (recovered image ≡ recovered file) ⊎ (recovered image ≡ whole ((recovered file).entries ++ entry ∷ []))
