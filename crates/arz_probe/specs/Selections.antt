-- What is printed of a query over a file, and of an I-Regexp, and the status.
use Rattle.std.specs.Prelude.{◌≢◌, ◌≡◌, ◌⊎◌, ℕ, List, Bool, codes, Some, None}
use Rattle.std.specs.List.{flat_map}
use Rattle.arz_json.specs.declared.tree.Json.{Json}
use Rattle.arz_rx.specs.Patterns.{PatternsView, Rose}
use Rattle.arz_rx.specs.Mapping.{mapped}
use Rattle.arz_query.specs.Answers.{Spells, Faults}
use Rattle.arz_query.specs.declared.fault.PathFault.{PathFault}
use Rattle.arz_query.specs.declared.fault.PathFault.TheVariants.{Syntax, IllTyped, Fraction, IntegerRange, TooNested, Memory}
use Rattle.arz_query.specs.declared.query.Segment.{Segment}
use Rattle.arz_json.specs.declared.place.Token.{Token}
use Rattle.arz_path.specs.Outcome.{Outcome, given, wide, untold, Covers}
use Rattle.arz_path.specs.Selected.{places}
use Rattle.arz_path.specs.Results.{setting_of}
use Rattle.arz_probe.specs.Paths.{normalized}
use Rattle.arz_probe.specs.Reports.{line, good, refused, placed, tree_in}
use Rattle.arz_probe.specs.declared.report.Report.{Report}

-- want of memory is no fault of the text
abbrev pub fault_line : PathFault → List ℕ
fault_line Syntax = codes "Syntax"
fault_line (IllTyped at) = placed (codes "IllTyped") at
fault_line (Fraction at) = placed (codes "Fraction") at
fault_line (IntegerRange at) = placed (codes "IntegerRange") at
fault_line (TooNested at) = placed (codes "TooNested") at
fault_line Memory = codes "Memory"

-- a line for each place
abbrev pub place_lines : List (List Token) → List ℕ
place_lines places = flat_map (λ tokens. line (normalized tokens)) places

abbrev pub places_form : List (List Token) → Report
places_form places = record { text = place_lines places; status = 0 }

abbrev pub selection_form : Outcome (List (List Token)) → Outcome Report
selection_form (given places) = given (places_form places)
selection_form wide = given (refused (codes "TooWide"))
selection_form untold = untold

abbrev pub pattern_form : Report
pattern_form = record { text = line (codes "Pattern"); status = 15 }

-- that is printed, where it is told; or a pattern was too big
abbrev pub Prints : Outcome Report → PatternsView → PatternsView → Report → Type 0
Prints meant old new r = Covers meant (given r) ⊎ ((r ≡ pattern_form) × Rose old.too_big new.too_big)

-- what is printed of a file's bytes and the text of a query
pub data PathReport (bytes text : List ℕ) (old new : PatternsView) (r : Report) : Type 0 where
  not_json : tree_in bytes ≡ None → r ≡ refused (codes "NotJson") → PathReport bytes text old new r
  refusal : (root : Json) (fault : PathFault) → tree_in bytes ≡ Some root → Faults text fault → (fault ≢ Memory) → r ≡ refused (fault_line fault) → PathReport bytes text old new r
  selection : (root : Json) (vs : List Segment) → tree_in bytes ≡ Some root → Spells text vs → Prints (selection_form (places vs (setting_of old root))) old new r → PathReport bytes text old new r

-- the pattern of an I-Regexp, as a line
abbrev pub iregexp_form : Bool → List ℕ → Report
iregexp_form whole text = good (mapped whole text)
