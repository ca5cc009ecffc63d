-- What every bundle has that is executed.
use Rattle.std.specs.Prelude.{ℕ, ◌<◌, ◌≤◌, All, length}
use Rattle.arz_json.specs.Tree.{IsWithin}
use Rattle.arz_json.specs.declared.Json.{Json}
use Rattle.arz_json.specs.declared.Json.TheVariants.{Object}
use Rattle.arz_flow.specs.declared.bundle.Bundle.{Bundle}
use Rattle.arz_cond.specs.Criteria.{IsRead, criterion_at}
use Rattle.arz_flow.specs.Documents.{steps_of, criteria_of}

abbrev pub steps_limit : ℕ
steps_limit = 256

-- a criterion that can be read
abbrev pub IsCriterion : Json → Type 0
IsCriterion c = IsRead (criterion_at c)

-- the starting workflow has 1 to 256 steps, whose criteria can be read, and all trees nest at most 127 deep
pub record IsValid (b : Bundle) : Type 0 where
  pub some : 0 < length (steps_of b b.workflow)
  pub few : length (steps_of b b.workflow) ≤ steps_limit
  pub criteria : All (λ step. All IsCriterion (criteria_of step)) (steps_of b b.workflow)
  pub arazzo : IsWithin 127 b.arazzo
  pub inputs : IsWithin 127 (Object b.inputs)
  pub sources : All (λ s. IsWithin 127 s.root) b.sources
