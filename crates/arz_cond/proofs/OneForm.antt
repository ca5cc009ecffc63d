-- The texts of a criterion spell one thing, and it is what is answered.
use Rattle.std.proofs.Common.{◌≡◌, ℕ, List, Bool, false, Option, Some, Result, sym, ap, ap₂, subst, ◌∙◌}
use Rattle.arz_expr.proofs.Steps.{once}
use Rattle.arz_expr.specs.Grammar.{Reads}
use Rattle.arz_expr.specs.declared.syntax.Expr.{Expr}
use Rattle.arz_expr.specs.declared.syntax.Base.{Base}
use Rattle.arz_json.specs.declared.tree.Json.{Json}
use Rattle.arz_rx.specs.Patterns.{PatternsView}
use Rattle.arz_path.specs.Outcome.{Outcome}
use Rattle.arz_cond.specs.Grammar.{IsCondition}
use Rattle.arz_cond.specs.Holding.{MeansOf, Answers, SaysOf}
use Rattle.arz_cond.specs.declared.cause.CondFault.{CondFault}
use Rattle.arz_cond.specs.Criteria.{Criterion, kind_of, IsContext, Spells}
use Rattle.arz_cond.specs.declared.term.Term.{Term}
use Rattle.arz_cond.specs.declared.test.Parsed.{Parsed}
use Rattle.arz_cond.specs.declared.test.Parsed.TheVariants.{Simple, Regex, Path}

inside : (s t : List ℕ) → Some s ≡ Some t → s ≡ t
inside s t e = cc

one_context : (context : Option (List ℕ)) (d e : Expr) → IsContext context d → IsContext context e → d ≡ e
one_context context d e h k = once h.0 d e h.1.1 (subst (λ text. Reads text e) (inside k.0 h.0 (sym k.1.0 ∙ h.1.0)) k.1.1)

module _ (law : (text : List ℕ) (t u : Term) → IsCondition false text t → IsCondition false text u → t ≡ u) where
  pub one_form : (c : Criterion) (p q : Parsed) → c.kind ≡ kind_of p → Spells c p → c.kind ≡ kind_of q → Spells c q → p ≡ q
  one_form c (Simple t) (Simple u) i h j k = ap (λ x. Simple x) (law c.condition t u h k)
  one_form c (Simple t) (Regex e) i h j k = absurd (cc)
  one_form c (Simple t) (Path text e) i h j k = absurd (cc)
  one_form c (Regex e) (Simple t) i h j k = absurd (cc)
  one_form c (Regex d) (Regex e) i h j k = ap (λ x. Regex x) (one_context c.context d e h k)
  one_form c (Regex d) (Path text e) i h j k = absurd (cc)
  one_form c (Path text e) (Simple t) i h j k = absurd (cc)
  one_form c (Path text d) (Regex e) i h j k = absurd (cc)
  one_form c (Path text d) (Path other e) i h j k = ap₂ (λ x y. Path x y) (h.query ∙ sym k.query) (one_context c.context d e h.context k.context)

pub says_meaning : (p : Parsed) (condition : List ℕ) (found : Base → Option Json) (r : Result Bool CondFault) (old new : PatternsView) (meant : Outcome Bool) →
    SaysOf p condition found r old new → MeansOf p condition found old meant → Answers r meant old new
says_meaning (Simple t) condition found r old new meant h m = subst (λ o. Answers r o old new) (sym m) h
says_meaning (Regex e) condition found r old new meant h m = subst (λ o. Answers r o old new) (sym m) h
says_meaning (Path text e) condition found r old new meant h m = subst (λ o. Answers r o old new) (sym m.2) (h m.0 m.1)
