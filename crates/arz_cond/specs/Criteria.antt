-- Criteria (Arazzo 1.0.1, section 4.6.11): what their texts spell, and why texts give none.
use Rattle.std.specs.Prelude.{◌≡◌, ◌≢◌, ◌⊎◌, ℕ, List, codes, true, false, Option, Some, option_and_then, unwrap_or}
use Rattle.arz_json.specs.Look.{text_in, member_in, text_at}
use Rattle.arz_json.specs.declared.tree.Json.{Json}
use Rattle.arz_query.specs.Answers.{IsSpelled, Faults}
use Rattle.arz_query.specs.declared.fault.PathFault.{PathFault}
use Rattle.arz_query.specs.declared.fault.PathFault.TheVariants as path_fault
use Rattle.arz_expr.specs.Grammar.{Reads}
use Rattle.arz_expr.specs.declared.syntax.Expr.{Expr}
use Rattle.arz_cond.specs.Grammar.{IsCondition}
use Rattle.arz_cond.specs.declared.term.Term.{Term}
use Rattle.arz_cond.specs.declared.test.Parsed.{Parsed}
use Rattle.arz_cond.specs.declared.test.Parsed.TheVariants.{Simple, Regex, Path}
use Rattle.arz_cond.specs.declared.fault.TestFault.{TestFault}
use Rattle.arz_cond.specs.declared.fault.TestFault.TheVariants as fault

-- a criterion as texts: its type, its condition, and its context where it has one
pub record Criterion : Type 0 where
  pub kind : List ℕ
  pub condition : List ℕ
  pub context : Option (List ℕ)

abbrev pub text_named : List ℕ → Json → Option (List ℕ)
text_named name j = option_and_then text_in (member_in name j)

-- the criterion that a tree is, of type `simple` where none is written
abbrev pub criterion_at : Json → Criterion
criterion_at j = record {
  kind = unwrap_or (text_named (codes "type") j) (codes "simple");
  condition = text_at (codes "condition") j;
  context = text_named (codes "context") j;
}

-- a type that is read
abbrev pub IsKind : List ℕ → Type 0
IsKind kind = (kind ≡ codes "simple") ⊎ ((kind ≡ codes "regex") ⊎ (kind ≡ codes "jsonpath"))

-- the type of what was read
abbrev pub kind_of : Parsed → List ℕ
kind_of (Simple t) = codes "simple"
kind_of (Regex e) = codes "regex"
kind_of (Path q e) = codes "jsonpath"

-- the context is that expression
abbrev pub IsContext : Option (List ℕ) → Expr → Type 0
IsContext context e = (text : List ℕ) × ((context ≡ Some text) × Reads text e)

-- the condition is that query of JSONPath, and the context that expression
pub record IsPath (c : Criterion) (text : List ℕ) (e : Expr) : Type 0 where
  pub query : text ≡ c.condition
  pub spelled : IsSpelled c.condition
  pub context : IsContext c.context e

-- what the texts of a criterion spell
abbrev pub Spells : Criterion → Parsed → Type 0
Spells c (Simple t) = IsCondition false c.condition t
Spells c (Regex e) = IsContext c.context e
Spells c (Path text e) = IsPath c text e

-- a criterion that has a reading
pub record IsRead (c : Criterion) : Type 0 where
  pub parsed : Parsed
  pub kind : c.kind ≡ kind_of parsed
  pub spells : Spells c parsed

-- ---- faults

-- a text without reading that has one with fractions
pub record NeedsFraction (text : List ℕ) : Type 0 where
  pub none : (t : Term) → IsCondition false text t → ⊥
  pub term : Term
  pub fractional : IsCondition true text term

-- a text without reading, also with fractions
pub record IsNoCondition (text : List ℕ) : Type 0 where
  pub none : (t : Term) → IsCondition false text t → ⊥
  pub no_fraction : (t : Term) → IsCondition true text t → ⊥

-- the context is no expression
abbrev pub IsNoContext : Option (List ℕ) → Type 0
IsNoContext context = (e : Expr) → IsContext context e → ⊥

-- the context is an expression, and the condition has that fault as a query of JSONPath
pub record IsNoPath (condition : List ℕ) (context : Option (List ℕ)) (f : PathFault) : Type 0 where
  pub expression : Expr
  pub reads : IsContext context expression
  pub told : f ≢ path_fault.Memory
  pub fault : Faults condition f

-- what a fault says of a criterion; want of memory says nothing
abbrev pub Refuses : Criterion → TestFault → Type 0
Refuses c fault.Fraction = (c.kind ≡ codes "simple") × NeedsFraction c.condition
Refuses c fault.BadCondition = (c.kind ≡ codes "simple") × IsNoCondition c.condition
Refuses c fault.BadExpression = (c.kind ≢ codes "simple") × IsNoContext c.context
Refuses c (fault.BadPath f) = (c.kind ≡ codes "jsonpath") × IsNoPath c.condition c.context f
Refuses c fault.Memory = Unit {0}
