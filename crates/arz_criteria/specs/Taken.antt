-- ---- for private clauses: the faults that are looked for, the patterns of criteria, and what was answered of them
use Rattle.std.specs.Prelude.{ℕ, List, [], map, filter, Bool, false, Option, Some, None}
use denote.Ref.{Bor}
use Rattle.std.specs.List.{All}
use Rattle.std.specs.BTreeMap.{get_by}
use Rattle.std.specs.Cmp.Lexicographic.{slice_cmp}
use Rattle.std.specs.Ordering.{nat_cmp}
use Rattle.std.specs.Option.{IsSome, unwrap_or}
use Rattle.arz_json.specs.declared.tree.Json.{Json}
use Rattle.arz_cond.specs.Outcomes.{Patterned}
use Rattle.arz_cond.specs.declared.fault.TestFault.{TestFault}
use Rattle.arz_criteria.specs.declared.conditions.Fault.{Fault}
use Rattle.arz_criteria.specs.declared.conditions.Fault.TheVariants.{Fraction, Condition, Path}
use Rattle.arz_criteria.specs.declared.readings.Readings.{Readings}
use Rattle.arz_criteria.specs.Rules.{is_fraction, is_bad_condition, is_bad_path, is_regex, pattern_of, SaysReading}

abbrev pub takes : Fault → TestFault → Bool
takes Fraction = is_fraction
takes Condition = is_bad_condition
takes Path = is_bad_path

-- ---- patterns

abbrev pub texts_of : List (Bor (List ℕ)) → List (List ℕ)
texts_of ts = map (λ t. t.now) ts

abbrev pub patterns_among : List Json → List (List ℕ)
patterns_among js = map pattern_of (filter is_regex js)

-- ---- readings

-- what the search of a pattern in the empty text answered, where it was asked: whether it has no reading
abbrev pub answer_in : Readings → List ℕ → Option Bool
answer_in r q = get_by (λ k. slice_cmp nat_cmp q k.now) r.refused

abbrev pub refuses : Readings → List ℕ → Bool
refuses r q = unwrap_or (answer_in r q) false

-- an answer, if any, is what is told
abbrev pub Fits : Patterned → List ℕ → Option Bool → Type 0
Fits told q None = Unit {0}
Fits told q (Some refused) = SaysReading (told q []) refused

abbrev pub AllFit : Patterned → Readings → Type 0
AllFit told r = (q : List ℕ) → Fits told q (answer_in r q)

-- each of these patterns has an answer now, and the others keep theirs; what is answered is what is told
pub record Notes (told : Patterned) (patterns : List (List ℕ)) (old new : Readings) : Type 0 where
  pub fits : AllFit told old → AllFit told new
  pub kept : (q : List ℕ) → IsSome (answer_in old q) → IsSome (answer_in new q)
  pub noted : All (λ q. IsSome (answer_in new q)) patterns
