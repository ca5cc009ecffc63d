-- Statements of the laws of rules of criteria.
use Rattle.std.specs.Prelude.{◌≡◌, ℕ, List, Bool}
use Rattle.arz_json.specs.declared.tree.Json.{Json}
use Rattle.arz_cond.specs.Outcomes.{Patterned}
use Rattle.arz_criteria.specs.Rules.{TellsReadings, AreReadingsTold, bad_patterns}

-- There is a test of a description's patterns, whatever is told.
abbrev pub ReadingsAreTold : Type 0
ReadingsAreTold = (told : Patterned) (root : Json) → (refuses : List ℕ → Bool) × TellsReadings told root refuses

-- Where of each pattern is told whether it has a reading, the rule has no two outcomes.
abbrev pub OneOutcome : Type 0
OneOutcome =
    (told : Patterned) (root : Json) (refuses refuses' : List ℕ → Bool) → AreReadingsTold told root → TellsReadings told root refuses → TellsReadings told root refuses'
    → bad_patterns refuses root ≡ bad_patterns refuses' root
