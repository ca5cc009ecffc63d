-- How a call of the program ends.
use Rattle.std.specs.Prelude.{◌≡◌, ◌⊎◌, ◌++◌, ℕ, List, [], codes}
use Rattle.arz_world.specs.Outside.{Gains, IsPrefix, Rose, SinkView}
use Rattle.arz_top.specs.declared.ending.Ending.{Ending}
use Rattle.arz_top.specs.Report.{line, report, status}

-- Came: the endings that the words may come to; before, now: what the sink shows at the call's beginning and end
module _ (Came : Ending → Type 0) (before now : SinkView) (answer : ℕ) where
  -- the report stands whole in the sink
  pub record Whole : Type 0 where
    pub ending : Ending
    pub came : Came ending
    pub answered : answer ≡ status ending
    pub put : Gains before.held now.held (λ added. added ≡ report ending)

  -- the sink failed
  pub record Cut : Type 0 where
    pub ending : Ending
    pub came : Came ending
    pub answered : answer ≡ 10
    pub failed : Rose before.faults now.faults
    pub put : Gains before.held now.held (λ added. IsPrefix added (report ending))

  -- a part of a report, and then of the line that says so
  abbrev pub PartThenMemory : List ℕ → Type 0
  PartThenMemory added = (part rest : List ℕ) × (added ≡ part ++ rest) × IsPrefix rest (line (codes "memory"))
      × ((part ≡ []) ⊎ ((ending : Ending) × Came ending × IsPrefix part (report ending)))

  -- memory ran out
  pub record RanOut : Type 0 where
    pub answered : answer ≡ 11
    pub put : Gains before.held now.held PartThenMemory

  abbrev pub Ends : Type 0
  Ends = Whole ⊎ Cut ⊎ RanOut
