-- What holds at each moment of a call.
use Rattle.std.specs.Prelude.{◌≤◌, ℕ, List}
use Rattle.arz_world.specs.World.{WorldView}
use Rattle.arz_world.specs.declared.world.Talk.{Talk}

-- P holds of each file that a crash at a moment may leave, with the talks of that moment
pub record EachMoment (old new : WorldView) (P : List ℕ → List Talk → Type 0) : Type 0 where
  pub each : (t : ℕ) (image : List ℕ) → old.moment ≤ t → t ≤ new.moment → new.image_at t image → P image (new.talks_at t)
