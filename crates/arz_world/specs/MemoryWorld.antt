-- The world that stands in memory, as contracts see it.
use Rattle.std.specs.Prelude.{◌≡◌, ◌⊎◌, ℕ, zero, suc, Bool, true, false, ◌||◌, ◌==◌, List, [], ◌∷◌, length, drop, nat_lt, Result, Ok, Err}
use Rattle.std.specs.declared.option.Option.{Option}
use Rattle.std.specs.declared.option.Option.TheVariants.{None, Some}
use Rattle.arz_world.specs.Memory.{is_due, next}
use Rattle.arz_world.specs.Replay.{Record, noted, state}
use Rattle.arz_world.specs.declared.messages.Server.{Server}
use Rattle.arz_world.specs.declared.tape.Call.{Call}
use Rattle.arz_world.specs.declared.tape.Call.TheVariants.{Connected, Received}
use Rattle.arz_world.specs.declared.world.DiskFault.{DiskFault}
use Rattle.arz_world.specs.declared.world.DiskFault.TheVariants as disk
use Rattle.arz_world.specs.declared.world.LinkFault.{LinkFault}
use Rattle.arz_world.specs.declared.world.LinkFault.TheVariants as link

-- what the peers of all connections send, in pieces, and what is still to come on the last connection
pub record PeersInMemory : Type 0 where
  pub peers : List (List (List ℕ))
  pub to_come : List (List ℕ)

-- the pieces of the peer with this number; none past the list
abbrev pub peer_at : List (List (List ℕ)) → ℕ → List (List ℕ)
peer_at [] number = []
peer_at (peer ∷ peers) zero = peer
peer_at (peer ∷ peers) (suc number) = peer_at peers number

-- empty pieces are passed over
abbrev pub from_next : List (List ℕ) → List (List ℕ)
from_next [] = []
from_next ([] ∷ pieces) = from_next pieces
from_next ((byte ∷ bytes) ∷ pieces) = (byte ∷ bytes) ∷ pieces

-- the first piece; none at the close
abbrev pub front : List (List ℕ) → List ℕ
front [] = []
front (piece ∷ pieces) = piece

-- so many bytes of the first piece have come
abbrev pub behind : ℕ → List (List ℕ) → List (List ℕ)
behind count [] = []
behind count (piece ∷ pieces) = drop count piece ∷ pieces

pub record WorldInMemory : Type 0 where
  -- the file at the beginning, and the calls that changed something
  pub tape : Record
  pub peers : PeersInMemory
  -- the numbers of the calls that fail, and the number of the last call that may succeed
  pub failing : List ℕ
  pub fuse : Option ℕ
  -- how many calls were made, how many of the disk and of the link failed, and how many of these for want of memory
  pub made : ℕ
  pub disk_faults : ℕ
  pub link_faults : ℕ
  pub refused : ℕ

-- a call with this number is past the fuse
abbrev pub is_past : Option ℕ → ℕ → Bool
is_past None call = false
is_past (Some fuse) call = nat_lt fuse call

-- the next call fails by its number
abbrev pub call_fails : WorldInMemory → Bool
call_fails w = is_due w.failing (next w.made) || is_past w.fuse (next w.made)

-- the world after one more call that changed nothing
abbrev pub called : WorldInMemory → WorldInMemory
called w = record w { made = next w.made }

abbrev pub disk_failed : WorldInMemory → WorldInMemory
disk_failed w = record w { disk_faults = next w.disk_faults }

abbrev pub disk_refused : WorldInMemory → WorldInMemory
disk_refused w = record w { disk_faults = next w.disk_faults; refused = next w.refused }

abbrev pub link_failed : WorldInMemory → WorldInMemory
link_failed w = record w { link_faults = next w.link_faults }

abbrev pub link_refused : WorldInMemory → WorldInMemory
link_refused w = record w { link_faults = next w.link_faults; refused = next w.refused }

-- the world after one more call that is kept in the record
abbrev pub notes : WorldInMemory → Call → WorldInMemory
notes w call = record w { tape = noted w.tape call; made = next w.made }

-- and after one that begins a connection
abbrev pub connects : WorldInMemory → Server → WorldInMemory
connects w server = record w {
  tape = noted w.tape (Connected server);
  peers = record { peers = w.peers.peers; to_come = from_next (peer_at w.peers.peers (length (state w.tape).talks)) };
  made = next w.made;
}

-- and after one that receives these bytes, of which none is the close
abbrev pub receives : WorldInMemory → List ℕ → Bool → WorldInMemory
receives w bytes closes = record w {
  tape = noted w.tape (Received bytes closes);
  peers = record { peers = w.peers.peers; to_come = from_next (behind (length bytes) w.peers.to_come) };
  made = next w.made;
}

-- What a call of the disk answers and leaves: it fails where it has to, and else only where memory was refused.
abbrev pub DiskDoes : {T : Type 0} → WorldInMemory → Bool → (T → WorldInMemory) → Result T DiskFault → WorldInMemory → Type 0
DiskDoes old fails done (Ok value) new = (fails ≡ false) × (new ≡ done value)
DiskDoes old fails done (Err disk.Failed) new =
    ((fails ≡ true) × (new ≡ disk_failed (called old))) ⊎ ((fails ≡ false) × (new ≡ disk_refused (called old)))
DiskDoes old fails done (Err disk.Memory) new = (fails ≡ false) × (new ≡ called old)

-- and a call of the link
abbrev pub LinkDoes : {T : Type 0} → WorldInMemory → Bool → (T → WorldInMemory) → Result T LinkFault → WorldInMemory → Type 0
LinkDoes old fails done (Ok value) new = (fails ≡ false) × (new ≡ done value)
LinkDoes old fails done (Err link.Failed) new =
    ((fails ≡ true) × (new ≡ link_failed (called old))) ⊎ ((fails ≡ false) × (new ≡ link_refused (called old)))
LinkDoes old fails done (Err link.Memory) new = (fails ≡ false) × (new ≡ called old)

-- no connection was begun
abbrev pub is_unconnected : WorldInMemory → Bool
is_unconnected w = length (state w.tape).talks == 0
