-- What a world shows that doesn't tell what it holds.
use Rattle.std.specs.Prelude.{ℕ, false, []}
use Rattle.arz_world.specs.World.{WorldView, IsWorld}

-- so often its disk and its link have failed
abbrev pub untold : ℕ → ℕ → WorldView
untold disk_faults link_faults = record {
  tells = false;
  attached = [];
  file = [];
  moment = 0;
  image_at = λ t image. ⊥;
  talks_at = λ t. [];
  disk_faults = disk_faults;
  link_faults = link_faults;
}

-- it is a world
pub untold_lawful : (disk_faults link_faults : ℕ) → IsWorld (untold disk_faults link_faults)
untold_lawful disk_faults link_faults = record {
  reads_image = λ told. absurd (cc told);
  untold = λ t image left. absurd left;
}
