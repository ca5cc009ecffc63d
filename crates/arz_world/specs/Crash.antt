-- The disk that a replay makes.
use Rattle.std.specs.Prelude.{◌≡◌}
use Rattle.arz_world.specs.Replay.{State}
use Rattle.arz_world.specs.declared.tape.Disk.{Disk}

-- the disk is that of this state
abbrev pub IsDiskOf : Disk → State → Type 0
IsDiskOf disk s = (disk.durable.items ≡ s.durable) × (disk.unsynced.items ≡ s.unsynced) × (disk.file.items ≡ s.file)
