-- For private clauses: the queries of a filter that begin at the root, and what is known of them (RFC 9535, section
-- 2.3.5). What they find doesn't depend on the node that the filter is tried at.
use Rattle.std.specs.Prelude.{◌≡◌, ℕ, List, [], ◌∷◌, ◌++◌, map, take, drop, Option, None}
use Rattle.std.specs.List.{flat_map}
use Rattle.arz_json.specs.declared.tree.Json.{Json}
use Rattle.arz_query.specs.declared.query.Start.{Start}
use Rattle.arz_query.specs.declared.query.Start.TheVariants.{Root, Current}
use Rattle.arz_query.specs.declared.query.Segment.{Segment}
use Rattle.arz_query.specs.declared.query.Selector.{Selector}
use Rattle.arz_query.specs.declared.query.Test.{Test}
use Rattle.arz_query.specs.declared.query.Operand.{Operand}
use Rattle.arz_query.specs.declared.query.Operand.TheOpen.{Test-F, Operand-F}
use Rattle.arz_query.specs.declared.query.Operand.TheFolds.{para-Test, para-Operand}
use Rattle.arz_path.specs.declared.known.Known.{Known}
use Rattle.arz_path.specs.Outcome.{Outcome, given, outcome_map, Covers}
use Rattle.arz_path.specs.Selected.{Setting}
use Rattle.arz_path.specs.Spots.{spots_after_all}
use Rattle.arz_path.specs.Seen.{found_seen, spots_found}

abbrev pub Queries : Type 0
Queries = List (List Segment)

-- how many nodes a query finds, and the value of the only one
abbrev pub Finding : Type 0
Finding = ℕ × Option Json

-- ---- the queries of a filter, in the order in which they are evaluated; those inside filters inside these are not among them

-- a query, where it begins at the root
abbrev pub absolute : Start → List Segment → Queries
absolute Root q = q ∷ []
absolute Current q = []

abbrev pub from_root : Start → List (Segment × Unit {0}) → Queries
from_root start ss = absolute start (map (λ p. p.0) ss)

abbrev pub queries_in_operand : Operand-F (Operand × Queries) (Segment × Unit {0}) (Selector × Unit {0}) (Test × Queries) → Queries
queries_in_operand (Operand-F.Query start ss) = from_root start ss
queries_in_operand (Operand-F.Length o) = o.1
queries_in_operand (Operand-F.Count start ss) = from_root start ss
queries_in_operand (Operand-F.Value start ss) = from_root start ss
queries_in_operand Operand-F.Null = []
queries_in_operand (Operand-F.Flag b) = []
queries_in_operand (Operand-F.Int z) = []
queries_in_operand (Operand-F.Text s) = []

abbrev pub queries_in_test : Test-F (Operand × Queries) (Segment × Unit {0}) (Selector × Unit {0}) (Test × Queries) → Queries
queries_in_test (Test-F.Any ts) = flat_map (λ t. t.1) ts
queries_in_test (Test-F.All ts) = flat_map (λ t. t.1) ts
queries_in_test (Test-F.Not t) = t.1
queries_in_test (Test-F.Exists start ss) = from_root start ss
queries_in_test (Test-F.Compare a op b) = a.1 ++ b.1
queries_in_test (Test-F.Match a b) = a.1 ++ b.1
queries_in_test (Test-F.Search a b) = a.1 ++ b.1

unfoldable pub queries_of_test : Test → Queries
queries_of_test = para-Test Queries (Unit {0}) (Unit {0}) Queries queries_in_operand (λ y. tt) (λ y. tt) queries_in_test

unfoldable pub queries_of_tests : List Test → Queries
queries_of_tests ts = flat_map queries_of_test ts

unfoldable pub queries_of_operand : Operand → Queries
queries_of_operand = para-Operand Queries (Unit {0}) (Unit {0}) Queries queries_in_operand (λ y. tt) (λ y. tt) queries_in_test

-- ---- what is known of them

-- what a query finds from a value
unfoldable pub found_at : Setting → List Segment → Json → Outcome Finding
found_at setting q j = outcome_map spots_found (spots_after_all setting q ((None, j) ∷ []))

-- what was told so far, and what is to be told again
unfoldable pub telling : Known → List Finding × List Finding
telling k = (map found_seen (take k.next k.found.items), map found_seen (drop k.next k.found.items))

-- these are what the first of the queries find
abbrev pub Fits : Setting → Queries → List Finding → Type 0
Fits setting [] fs = Unit {0}
Fits setting (q ∷ qs) [] = Unit {0}
Fits setting (q ∷ qs) (f ∷ fs) = Covers (found_at setting q setting.root) (given f) × Fits setting qs fs

-- these are what all of them find
abbrev pub AreTold : Setting → Queries → List Finding → Type 0
AreTold setting [] [] = Unit {0}
AreTold setting (q ∷ qs) (f ∷ fs) = Covers (found_at setting q setting.root) (given f) × AreTold setting qs fs
AreTold setting _ _ = ⊥

-- what comes after those of some queries
abbrev pub after : Queries → List Finding → List Finding
after [] fs = fs
after (q ∷ qs) [] = []
after (q ∷ qs) (f ∷ fs) = after qs fs

-- all of the queries were evaluated, or told again
pub record Passed (setting : Setting) (qs : Queries) (old new : List Finding × List Finding) : Type 0 where
  pub told : List Finding
  pub are_told : AreTold setting qs told
  pub behind : new.0 ≡ old.0 ++ told
  pub ahead : new.1 ≡ after qs old.1
