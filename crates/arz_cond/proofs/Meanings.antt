-- What each part of a condition comes to, a level at a time.
use Rattle.std.proofs.Common.{◌≡◌, List, not, Option, Some, sym, ap, ◌∙◌}
use Rattle.arz_json.specs.declared.tree.Json.{Json}
use Rattle.arz_expr.specs.Values.{value_in}
use Rattle.arz_expr.specs.declared.syntax.Base.{Base}
use Rattle.arz_expr.specs.declared.syntax.Expr.{Expr}
use Rattle.arz_cond.specs.declared.term.Comparison.{Comparison}
use Rattle.arz_cond.specs.declared.term.Literal.{Literal as LiteralOf}
use Rattle.arz_cond.specs.declared.term.Term.{Term}
use Rattle.arz_cond.specs.declared.term.Term.TheVariants.{Any, All, Not, Compare, Literal, Value}
use Rattle.arz_cond.specs.declared.term.Term.TheOpen.{Term-F}
use Rattle.arz_cond.specs.declared.term.Term.TheFolds.{fold-roll-Term}
use Rattle.arz_cond.specs.declared.term.Term.TheViews as views
use Rattle.arz_cond.specs.Comparing.{row, compared}
use Rattle.arz_cond.specs.Meaning.{is_true, literal_value, flag, value_step, value_of, some_true, each_true}

pub any_means : (found : Base → Option Json) (ts : List Term) → value_of found (Any ts) ≡ flag (some_true found ts)
unfolding value_of some_true
any_means found ts = ap (value_of found) (sym (views.rolls-Any ts)) ∙ fold-roll-Term (Option Json) (value_step found) (Term-F.Any ts)

pub all_means : (found : Base → Option Json) (ts : List Term) → value_of found (All ts) ≡ flag (each_true found ts)
unfolding value_of each_true
all_means found ts = ap (value_of found) (sym (views.rolls-All ts)) ∙ fold-roll-Term (Option Json) (value_step found) (Term-F.All ts)

pub not_means : (found : Base → Option Json) (t : Term) → value_of found (Not t) ≡ flag (not (is_true (value_of found t)))
unfolding value_of
not_means found t = ap (value_of found) (sym (views.rolls-Not t)) ∙ fold-roll-Term (Option Json) (value_step found) (Term-F.Not t)

pub compare_means : (found : Base → Option Json) (t : Term) (op : Comparison) (u : Term) → value_of found (Compare t op u) ≡ flag (compared op (row (value_of found t) (value_of found u)))
unfolding value_of
compare_means found t op u = ap (value_of found) (sym (views.rolls-Compare t op u)) ∙ fold-roll-Term (Option Json) (value_step found) (Term-F.Compare t op u)

pub literal_means : (found : Base → Option Json) (l : LiteralOf) → value_of found (Literal l) ≡ Some (literal_value l)
unfolding value_of
literal_means found l = ap (value_of found) (sym (views.rolls-Literal l)) ∙ fold-roll-Term (Option Json) (value_step found) (Term-F.Literal l)

pub value_means : (found : Base → Option Json) (e : Expr) → value_of found (Value e) ≡ value_in found e
unfolding value_of
value_means found e = ap (value_of found) (sym (views.rolls-Value e)) ∙ fold-roll-Term (Option Json) (value_step found) (Term-F.Value e)
