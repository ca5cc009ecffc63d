-- Where a log stands in the file of a world.
use Rattle.std.specs.Prelude.{◌≡◌, ◌≢◌, ◌⊎◌, ◌+◌, ◌≤◌, ◌<◌, ◌^◌, ℕ, Bool, true, false, List, [], ◌∷◌, ◌++◌, length, drop, IsTrue, Result, Ok, Err}
use Rattle.std.specs.Int.{w32, to_be_bytes}
use Rattle.std.specs.declared.option.Option.{Option}
use Rattle.arz_wire.specs.Entries.{entry_of}
use Rattle.arz_wire.specs.declared.entry.Entry.{Entry}
use Rattle.std.specs.declared.option.Option.TheVariants.{None, Some}
use Rattle.arz_world.specs.Moments.{EachMoment}
use Rattle.arz_world.specs.World.{WorldView, IsStable, IsImage, NoNewImage, Later, talks}
use Rattle.arz_world.specs.declared.world.DiskFault.{DiskFault}
use Rattle.arz_world.specs.declared.world.DiskFault.TheVariants as disk
use Rattle.arz_journal.specs.Journal.{IsFront, counted, block, recovered, whole, broken_at, entry_then, ahead}
use Rattle.arz_journal.specs.declared.log.JournalFault.{JournalFault}
use Rattle.arz_journal.specs.declared.log.JournalFault.TheVariants as journal

pub record LogView : Type 0 where
  -- the place of its gate in the file
  pub place : ℕ
  -- how many bytes of a block there is room for
  pub room : ℕ
  -- whether the file gave nothing when the log was attached
  pub is_new : Bool
  -- whether a first gate is there: the log was not new, or is created
  pub is_open : Bool
  -- whether its gate was seen to be closed
  pub is_ended : Bool
  -- whether a call of it answered Disk
  pub is_spent : Bool

-- the file up to this place is a journal's front, a gate stands at it, and at a log's end it is closed
pub record IsAt (place : ℕ) (is_ended : Bool) (file : List ℕ) : Type 0 where
  pub front : List ℕ
  pub entries : List Entry
  pub gate : ℕ
  pub behind : List ℕ
  pub file_is : file ≡ front ++ gate ∷ behind
  pub is_front : IsFront front entries
  pub place_is : place ≡ length front
  pub closed : is_ended ≡ true → gate ≢ 1

-- the file gives nothing, and a journal can be made of it
abbrev pub IsNothing : List ℕ → Type 0
IsNothing file = (length file ≤ 9) ⊎ IsAt 8 true file

-- the log stands for the world: its one image is the file that it reads, and the log's place is a gate of it
pub record Stands (log : LogView) (w : WorldView) : Type 0 where
  pub stable : IsStable w
  pub unopened : log.is_open ≡ false → IsNothing w.file
  pub opened : log.is_open ≡ true → IsAt log.place log.is_ended w.file

-- a log that isn't spent stands for a world that tells
abbrev pub Ready : LogView → WorldView → Type 0
Ready log w = log.is_spent ≡ false → IsTrue w.tells → Stands log w

-- this entry can be put at this place: a closed gate is there, and the bytes are its counted payload and a closed gate
pub record CanPut (place : ℕ) (bytes : List ℕ) (entry : Entry) (w : WorldView) : Type 0 where
  pub stable : IsStable w
  pub at : IsAt place true w.file
  pub payload : List ℕ
  pub bytes_are : bytes ≡ counted payload ++ 0 ∷ []
  pub spells : entry_of payload ≡ Ok entry
  pub small : length payload < 2 ^ 32

-- a journal can be made of the file that the world reads
pub record CanCreate (w : WorldView) : Type 0 where
  pub stable : IsStable w
  pub nothing : IsNothing w.file

-- it was put there
pub record IsPut (place : ℕ) (bytes : List ℕ) (entry : Entry) (old new : WorldView) : Type 0 where
  pub stable : IsStable new
  pub at : IsAt (place + length bytes) true new.file
  pub gives : recovered new.file ≡ whole ((recovered old.file).entries ++ entry ∷ [])

abbrev pub of_disk : DiskFault → JournalFault
of_disk disk.Failed = journal.Disk
of_disk disk.Memory = journal.Memory

-- calls that only look: the file and the talks stay, and no image is new at any moment
pub record Looks (old new : WorldView) : Type 0 where
  pub time : Later old new
  pub images : NoNewImage old new
  pub file : new.file ≡ old.file
  pub each : EachMoment old new (λ image ts. IsImage old image × (ts ≡ talks old))
  pub links : new.link_faults ≡ old.link_faults
  pub talks : talks new ≡ talks old

-- What the first bytes of a file say: it gives nothing, or the entries from its first gate on, of which one is
-- open, or it is no journal.
abbrev pub FirstGate : List ℕ → Result Bool JournalFault → Type 0
FirstGate file (Ok true) = IsNothing file
FirstGate file (Ok false) = IsAt 8 false file × (recovered file ≡ ahead file 8) × (recovered file ≢ whole [])
FirstGate file (Err (journal.NotAJournal at)) = recovered file ≡ record { entries = []; broken = Some 0 }
FirstGate file (Err _) = Unit {0}

-- a closed gate stands at a place
pub record IsShut (file : List ℕ) (place : ℕ) : Type 0 where
  pub gate : ℕ
  pub behind : List ℕ
  pub file_is : drop place file ≡ gate ∷ behind
  pub closed : gate ≢ 1

-- an open gate stands at a place, and behind it the number of the payload's bytes
pub record IsCounted (file : List ℕ) (place count : ℕ) : Type 0 where
  pub behind : List ℕ
  pub file_is : drop place file ≡ 1 ∷ (to_be_bytes w32 count ++ behind)

-- at a place stands the block of an entry, and a gate at the place behind it
pub record IsBlock (file : List ℕ) (place : ℕ) (entry : Entry) (next : ℕ) : Type 0 where
  pub payload : List ℕ
  pub rest : List ℕ
  pub file_is : drop place file ≡ block payload ++ rest
  pub spells : entry_of payload ≡ Ok entry
  pub small : length payload < 2 ^ 32
  pub gate : 0 < length rest
  pub next_is : next ≡ place + length (block payload)

-- from this place on the file is no journal
abbrev pub IsBroken : List ℕ → ℕ → ℕ → Type 0
IsBroken file place at = (at ≡ place) × (ahead file place ≡ broken_at place)

-- what a gate says: it is closed, or so many bytes of a payload follow, or it is no journal's
abbrev pub GateSays : List ℕ → ℕ → Result (Option ℕ) JournalFault → Type 0
GateSays file place (Ok None) = IsShut file place
GateSays file place (Ok (Some count)) = IsCounted file place count
GateSays file place (Err (journal.NotAJournal at)) = IsBroken file place at
GateSays file place (Err _) = Unit {0}

-- the payload stands at the front of these bytes, and a gate behind it
abbrev pub IsFollowed : List ℕ → List ℕ → Type 0
IsFollowed behind payload = (rest : List ℕ) × (behind ≡ payload ++ rest) × (0 < length rest)

-- what stands at a gate: an entry and the gate behind it, or none, or no journal
abbrev pub BlockSays : List ℕ → ℕ → Result (Option (Entry × ℕ)) JournalFault → Type 0
BlockSays file place (Ok None) = IsShut file place
BlockSays file place (Ok (Some found)) = IsBlock file place found.0 found.1
BlockSays file place (Err (journal.NotAJournal at)) = IsBroken file place at
BlockSays file place (Err _) = Unit {0}

-- What is read next of a file, where a log goes from one place to another: the first of the entries ahead of
-- it, with the others ahead of its new place; or that none is ahead; or that it is no journal from there on.
abbrev pub ReadsNext : List ℕ → ℕ → ℕ → Result (Option Entry) JournalFault → Type 0
ReadsNext file old new (Ok None) = ahead file old ≡ whole []
ReadsNext file old new (Ok (Some entry)) = ahead file old ≡ entry_then old (Some entry) (ahead file new)
ReadsNext file old new (Err (journal.NotAJournal at)) = IsBroken file old at
ReadsNext file old new (Err _) = Unit {0}
