-- What the text of a query is answered by.
use Rattle.std.specs.Prelude.{ℕ, ◌-◌, ◌≤◌, ◌≡◌, List, length, Some, None, Result, Ok, Err}
use Rattle.arz_query.specs.Words.{Read, chosen}
use Rattle.arz_query.specs.Reading.{reading}
use Rattle.arz_query.specs.Nesting.{too_nested}
use Rattle.arz_query.specs.Grammar.{IsQuery}
use Rattle.arz_query.specs.declared.pieces.Flaw.{Flaw}
use Rattle.arz_query.specs.declared.pieces.FlawKind.{FlawKind}
use Rattle.arz_query.specs.declared.pieces.Marks.{Marks}
use Rattle.arz_query.specs.declared.pieces.FlawKind.TheVariants as kind
use Rattle.arz_query.specs.declared.query.Segment.{Segment}
use Rattle.arz_query.specs.declared.fault.PathFault.{PathFault}
use Rattle.arz_query.specs.declared.fault.PathFault.TheVariants as fault

abbrev pub fault_at : FlawKind → ℕ → PathFault
fault_at kind.IllTyped at = fault.IllTyped at
fault_at kind.Fraction at = fault.Fraction at
fault_at kind.IntegerRange at = fault.IntegerRange at

-- the fault of a flaw in a text of so many bytes
abbrev pub fault_of : ℕ → Flaw → PathFault
fault_of total f = fault_at f.kind (total - f.left)

abbrev pub query_of : ℕ → Read (List Segment) → Result (List Segment) PathFault
query_of total all = chosen all.marks.flaw (λ f. Err (fault_of total f)) (Ok all.value)

-- what a text is read as
unfoldable pub answer : List ℕ → Result (List Segment) PathFault
answer text = chosen (too_nested text) (λ at. Err (fault.TooNested at)) (chosen (reading text) (query_of (length text)) (Err fault.Syntax))

-- that is answered, unless memory ran out
abbrev pub Answers : {X : Type 0} → Result X PathFault → Result X PathFault → Type 0
Answers (Ok q) meant = meant ≡ Ok q
Answers (Err fault.Syntax) meant = meant ≡ Err fault.Syntax
Answers (Err (fault.IllTyped at)) meant = meant ≡ Err (fault.IllTyped at)
Answers (Err (fault.Fraction at)) meant = meant ≡ Err (fault.Fraction at)
Answers (Err (fault.IntegerRange at)) meant = meant ≡ Err (fault.IntegerRange at)
Answers (Err (fault.TooNested at)) meant = meant ≡ Err (fault.TooNested at)
Answers (Err fault.Memory) meant = Unit {0}

-- ---- by the grammar

-- no count of brackets is passed, and the text is in the grammar, with these marks
pub record IsRead (text : List ℕ) (vs : List Segment) (m : Marks) : Type 0 where
  pub open_enough : too_nested text ≡ None
  pub query : IsQuery text vs m

-- a text without flaw spells these segments
pub record Spells (text : List ℕ) (vs : List Segment) : Type 0 where
  pub marks : Marks
  pub read : IsRead text vs marks
  pub flawless : marks.flaw ≡ None

-- a text without flaw that is a query
pub record IsSpelled (text : List ℕ) : Type 0 where
  pub segments : List Segment
  pub spells : Spells text segments

-- the flaw with the least offset of a text of the grammar
pub record HasFlaw (text : List ℕ) (e : PathFault) : Type 0 where
  pub segments : List Segment
  pub marks : Marks
  pub flaw : Flaw
  pub read : IsRead text segments marks
  pub first : marks.flaw ≡ Some flaw
  pub is : fault_of (length text) flaw ≡ e

-- not in the grammar
pub record IsNone (text : List ℕ) : Type 0 where
  pub open_enough : too_nested text ≡ None
  pub none : (vs : List Segment) (m : Marks) → IsQuery text vs m → ⊥

-- what a fault says of the text
abbrev pub Faults : List ℕ → PathFault → Type 0
Faults text fault.Syntax = IsNone text
Faults text (fault.IllTyped at) = HasFlaw text (fault.IllTyped at)
Faults text (fault.Fraction at) = HasFlaw text (fault.Fraction at)
Faults text (fault.IntegerRange at) = HasFlaw text (fault.IntegerRange at)
Faults text (fault.TooNested at) = too_nested text ≡ Some at
Faults text fault.Memory = Unit {0}

-- what a text of the grammar is answered by, with the marks of its only reading
abbrev pub due : List ℕ → Marks → Result (List ℕ) PathFault
due text m = chosen m.flaw (λ f. Err (fault_of (length text) f)) (Ok text)

-- the same query, and the same marks
abbrev pub AreSame : List Segment → List Segment → Marks → Marks → Type 0
AreSame vs ws m n = (vs ≡ ws) × (m ≡ n)

-- a flaw lies in the part from s to r
abbrev pub IsInside : List ℕ → List ℕ → Marks → Type 0
IsInside s r m = (f : Flaw) → m.flaw ≡ Some f → (length r ≤ f.left) × (f.left ≤ length s)
