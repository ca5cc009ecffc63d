-- What a world shows: one file, the talks of its connections, one clock.
use Rattle.std.specs.Prelude.{◌≡◌, ◌+◌, ◌≤◌, max, ℕ, Bool, false, not, ◌&&◌, ◌||◌, ◌==◌, List, [], ◌∷◌, ◌++◌, length, take, drop, Result, Ok, Err, IsTrue}
use Rattle.arz_world.specs.declared.messages.Server.{Server}
use Rattle.arz_world.specs.declared.world.Talk.{Talk}
use Rattle.arz_world.specs.declared.world.DiskFault.{DiskFault}
use Rattle.arz_world.specs.declared.world.LinkFault.{LinkFault}

pub record WorldView : Type 1 where
  -- whether the world tells what it holds
  pub tells : Bool
  -- the path that the file was attached by last
  pub attached : List ℕ
  -- what a read gives
  pub file : List ℕ
  -- the moment, a number that doesn't fall
  pub moment : ℕ
  -- the images of a moment: what a crash at this moment may leave of the file
  pub image_at : ℕ → List ℕ → Type 0
  -- the talks at a moment, one for each connection, in order
  pub talks_at : ℕ → List Talk
  -- how often the disk and the link have failed
  pub disk_faults : ℕ
  pub link_faults : ℕ

-- a crash now may leave this file
abbrev pub IsImage : WorldView → List ℕ → Type 0
IsImage w image = w.image_at w.moment image

-- the talks now
abbrev pub talks : WorldView → List Talk
talks w = w.talks_at w.moment

-- time goes on, and changes nothing that was
pub record Later (old new : WorldView) : Type 0 where
  pub tells : new.tells ≡ old.tells
  pub moment : old.moment ≤ new.moment
  pub disk_faults : old.disk_faults ≤ new.disk_faults
  pub link_faults : old.link_faults ≤ new.link_faults
  pub images : (t : ℕ) (image : List ℕ) → t ≤ old.moment → new.image_at t image → old.image_at t image
  pub keeps : (t : ℕ) (image : List ℕ) → t ≤ old.moment → old.image_at t image → new.image_at t image
  pub talks : (t : ℕ) → t ≤ old.moment → new.talks_at t ≡ old.talks_at t

-- a call takes one moment at most
pub record Elapses (old new : WorldView) : Type 0 where
  pub later : Later old new
  pub one : new.moment ≤ old.moment + 1

-- a call of the disk leaves the talks
pub record DiskCall (old new : WorldView) : Type 0 where
  pub time : Elapses old new
  pub talks : talks new ≡ talks old
  pub link_faults : new.link_faults ≡ old.link_faults

-- no image is new
abbrev pub NoNewImage : WorldView → WorldView → Type 0
NoNewImage old new = (image : List ℕ) → IsImage new image → IsImage old image

-- a call of the link leaves the disk
pub record LinkCall (old new : WorldView) : Type 0 where
  pub time : Elapses old new
  pub images : NoNewImage old new
  pub file : new.file ≡ old.file
  pub attached : new.attached ≡ old.attached
  pub disk_faults : new.disk_faults ≡ old.disk_faults

-- what holds of each world: what a read gives is an image, and one that doesn't tell has no images
pub record IsWorld (w : WorldView) : Type 0 where
  pub reads_image : IsTrue w.tells → IsImage w w.file
  pub untold : (t : ℕ) (image : List ℕ) → w.image_at t image → IsTrue w.tells

-- the path is the one that the file is attached by, unless attaching failed
abbrev pub AttachedBy : List ℕ → Result (Unit {0}) DiskFault → WorldView → WorldView → Type 0
AttachedBy path (Ok _) old new = new.attached ≡ path
AttachedBy path (Err _) old new = new.attached ≡ old.attached

-- the file with these bytes at this offset, over what stands there and past its end
abbrev pub written : ℕ → List ℕ → List ℕ → List ℕ
written at bytes file = take at file ++ bytes ++ drop (at + length bytes) file

-- What a crash may make of a write of this many bytes: any bytes in its range and past the old end, the same
-- elsewhere, and a length between the old one and the new one.
pub record IsTorn (at count : ℕ) (old new : List ℕ) : Type 0 where
  pub before : take at new ≡ take at old
  pub after : drop (at + count) new ≡ drop (at + count) old
  pub no_shorter : length old ≤ length new
  pub no_longer : length new ≤ max (length old) (at + count)

-- each new image is an old one that the write has torn
abbrev pub AreTornBy : ℕ → ℕ → WorldView → WorldView → Type 0
AreTornBy at count old new = (image : List ℕ) → IsImage new image → (before : List ℕ) × IsImage old before × IsTorn at count before image

-- the one image is what a read gives
abbrev pub IsStable : WorldView → Type 0
IsStable w = (image : List ℕ) → IsImage w image → image ≡ w.file

-- bytes of the file are read to the front of the room, as many as fit or are there
pub record IsRead (file : List ℕ) (at : ℕ) (room filled : List ℕ) (total : ℕ) : Type 0 where
  pub bytes : filled ≡ take (length room) (drop at file) ++ drop total room
  pub count : total ≡ length (take (length room) (drop at file))

-- a talk in which nothing was said
abbrev pub fresh : Server → Talk
fresh server = record { server = server; sent = []; received = []; closed = false }

-- the last talk is changed, and those before it stay
abbrev pub on_last : (Talk → Talk) → List Talk → List Talk
on_last f [] = []
on_last f (talk ∷ []) = f talk ∷ []
on_last f (talk ∷ next ∷ rest) = talk ∷ on_last f (next ∷ rest)

abbrev pub with_sent : List ℕ → Talk → Talk
with_sent bytes talk = record { server = talk.server; sent = talk.sent ++ bytes; received = talk.received; closed = talk.closed }

abbrev pub with_received : List ℕ → Bool → Talk → Talk
with_received bytes closes talk = record { server = talk.server; sent = talk.sent; received = talk.received ++ bytes; closed = talk.closed || closes }

-- a talk begins, unless connecting failed
abbrev pub Connects : Server → Result (Unit {0}) LinkFault → List Talk → List Talk → Type 0
Connects server (Ok _) old new = new ≡ old ++ fresh server ∷ []
Connects server (Err _) old new = new ≡ old

-- the bytes are sent, or at a fault those at their front
abbrev pub Sends : List ℕ → Result (Unit {0}) LinkFault → List Talk → List Talk → Type 0
Sends bytes (Ok _) old new = new ≡ on_last (with_sent bytes) old
Sends bytes (Err _) old new = (count : ℕ) × (new ≡ on_last (with_sent (take count bytes)) old)

-- so many bytes are received to the front of the room; none, where there is room, is the close
abbrev pub Receives : List ℕ → List ℕ → Result ℕ LinkFault → List Talk → List Talk → Type 0
Receives room filled (Ok count) old new =
    (drop count filled ≡ drop count room) × (new ≡ on_last (with_received (take count filled) (count == 0 && not (length room == 0))) old)
Receives room filled (Err _) old new = new ≡ old
