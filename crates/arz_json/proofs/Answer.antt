-- Answers put together.
use Rattle.std.proofs.Common.{◌≡◌, Option, Some, None, Result, Err}
use Rattle.arz_json.specs.Answer.{Fails}

-- a fault that stays, in what is made of the one that met it
pub fails : {A B F : Type 0} (cause : Option F) (part : Result A F) (whole : Result B F) → ((f : F) → part ≡ Err f → whole ≡ Err f) → Fails cause part → Fails cause whole
fails (Some f) part whole stays h = stays f h
fails None part whole stays h = tt
