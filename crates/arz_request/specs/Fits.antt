-- ---- for private clauses: texts that stand in a request, or are too large for any
use Rattle.std.specs.Prelude.{◌≡◌, ◌<◌, ℕ, List, ◌++◌, length, Result, Ok, Err}
use Rattle.arz_request.specs.Requests.{request_limit}
use Rattle.arz_request.specs.declared.cause.BuildFault.{BuildFault}
use Rattle.arz_request.specs.declared.cause.BuildFault.TheVariants.{Stuck, Memory}
use Rattle.arz_request.specs.declared.cause.Cause.TheVariants.{RequestTooLarge}

-- the text stands behind what was there, or both together pass the limit
abbrev pub Fits : {X : Type 0} → List ℕ → List ℕ → Result X BuildFault → List ℕ → Type 0
Fits old new (Ok x) text = new ≡ old ++ text
Fits old new (Err (Stuck why)) text = (why ≡ RequestTooLarge) × (request_limit < length (old ++ text))
Fits old new (Err Memory) text = Unit {0}

-- the text, or it passes the limit
abbrev pub FitsIn : Result (List ℕ) BuildFault → List ℕ → Type 0
FitsIn (Ok t) text = t ≡ text
FitsIn (Err (Stuck why)) text = (why ≡ RequestTooLarge) × (request_limit < length text)
FitsIn (Err Memory) text = Unit {0}
