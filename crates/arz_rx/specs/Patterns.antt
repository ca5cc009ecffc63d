-- What a search of a pattern in a text may answer.
use Rattle.std.specs.Prelude.{◌≡◌, ◌+◌, ◌-◌, ◌≤◌, ◌^◌, ⊤, ℕ, List, Bool, min}
use Rattle.std.specs.declared.option.Option.{Option}
use Rattle.std.specs.declared.option.Option.TheVariants.{None, Some}

-- What is told of a pattern and a text: None where nothing is told, Some None where the pattern has
-- no reading, Some (Some b) where the search finds a match (true) or finds none (false).
abbrev pub Told : Type 0
Told = Option (Option Bool)

-- what an object of patterns shows: what is told of each pattern and text, and how many patterns
-- were too big
pub record PatternsView : Type 0 where
  pub told : List ℕ → List ℕ → Told
  pub too_big : ℕ

-- this answer is what is told, where anything is
abbrev pub AnswersAs : Told → Option Bool → Type 0
AnswersAs None found = ⊤
AnswersAs (Some meaning) found = found ≡ meaning

-- a count has risen, or stands at its end
abbrev pub Rose : ℕ → ℕ → Type 0
Rose before now = min (before + 1) (2 ^ 64 - 1) ≤ now
