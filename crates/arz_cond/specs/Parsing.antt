-- What the parts of a criterion are read as. Private clauses cite this.
use Rattle.std.specs.Prelude.{◌≡◌, ◌≢◌, ℕ, List, false, Option, Some, None, Result, Ok, Err}
use Rattle.arz_query.specs.Answers.{IsSpelled, Faults}
use Rattle.arz_query.specs.declared.fault.PathFault.{PathFault}
use Rattle.arz_query.specs.declared.fault.PathFault.TheVariants as path_fault
use Rattle.arz_expr.specs.declared.syntax.Expr.{Expr}
use Rattle.arz_cond.specs.Grammar.{IsCondition}
use Rattle.arz_cond.specs.Criteria.{Criterion, kind_of, Spells, NeedsFraction, IsNoCondition, IsContext, IsNoContext, Refuses}
use Rattle.arz_cond.specs.declared.term.Term.{Term}
use Rattle.arz_cond.specs.declared.test.Parsed.{Parsed}
use Rattle.arz_cond.specs.declared.fault.TestFault.{TestFault}
use Rattle.arz_cond.specs.declared.fault.TestFault.TheVariants as fault

-- the fault of a text that is no condition
abbrev pub RefusesText : List ℕ → TestFault → Type 0
RefusesText text fault.Fraction = NeedsFraction text
RefusesText text fault.BadCondition = IsNoCondition text
RefusesText text fault.BadExpression = ⊥
RefusesText text (fault.BadPath f) = ⊥
RefusesText text fault.Memory = Unit {0}

-- a simple condition, or its fault
abbrev pub ReadsText : List ℕ → Result Term TestFault → Type 0
ReadsText text (Ok t) = IsCondition false text t
ReadsText text (Err e) = RefusesText text e

-- the expression that a context is, or its fault
abbrev pub RefusesContext : Option (List ℕ) → TestFault → Type 0
RefusesContext context fault.Fraction = ⊥
RefusesContext context fault.BadCondition = ⊥
RefusesContext context fault.BadExpression = IsNoContext context
RefusesContext context (fault.BadPath f) = ⊥
RefusesContext context fault.Memory = Unit {0}

abbrev pub ReadsContext : Option (List ℕ) → Result Expr TestFault → Type 0
ReadsContext context (Ok e) = IsContext context e
ReadsContext context (Err e) = RefusesContext context e

-- the fault of a query
abbrev pub fault_as : PathFault → TestFault
fault_as path_fault.Syntax = fault.BadPath path_fault.Syntax
fault_as (path_fault.IllTyped at) = fault.BadPath (path_fault.IllTyped at)
fault_as (path_fault.Fraction at) = fault.BadPath (path_fault.Fraction at)
fault_as (path_fault.IntegerRange at) = fault.BadPath (path_fault.IntegerRange at)
fault_as (path_fault.TooNested at) = fault.BadPath (path_fault.TooNested at)
fault_as path_fault.Memory = fault.Memory

-- a query, or its fault
abbrev pub RefusesQuery : List ℕ → TestFault → Type 0
RefusesQuery text fault.Fraction = ⊥
RefusesQuery text fault.BadCondition = ⊥
RefusesQuery text fault.BadExpression = ⊥
RefusesQuery text (fault.BadPath f) = (f ≢ path_fault.Memory) × Faults text f
RefusesQuery text fault.Memory = Unit {0}

abbrev pub ReadsQuery : List ℕ → Result (List ℕ) TestFault → Type 0
ReadsQuery text (Ok q) = (q ≡ text) × IsSpelled text
ReadsQuery text (Err e) = RefusesQuery text e

-- what a criterion's texts spell, or its fault
abbrev pub Parses : Criterion → Result Parsed TestFault → Type 0
Parses c (Ok p) = (c.kind ≡ kind_of p) × Spells c p
Parses c (Err e) = Refuses c e

-- the fault of what was read, which isn't want of memory, or none where it was
abbrev pub ToldAs : Result Criterion TestFault → Option TestFault → Type 0
ToldAs (Ok c) o = o ≡ None
ToldAs (Err e) o = (o ≡ Some e) × (e ≢ fault.Memory)
