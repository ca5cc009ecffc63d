-- One output more.
use Rattle.std.proofs.Common.{◌≡◌, ℕ, ◌+◌, ◌<◌, List, [], ◌∷◌, ◌++◌, length, get_or, take, Option, Some, None, add-one, refl, sym, ap, ◌∙◌}
use Rattle.std.specs.Option.{option_to_list}
use Rattle.std.proofs.Math.Seq.{take-suc}
use Rattle.std.proofs.lemmas.List.Elements.{filter_map-append}
use Rattle.arz_json.specs.declared.tree.Member.{Member}
use Rattle.arz_description.specs.Parts.{output_by, output_of, outputs_of, expression_in}
use Rattle.arz_expr.specs.declared.syntax.Expr.{Expr}
use Rattle.std.specs.Prelude.{option_map}

alone : (name : List ℕ) (m : Member) (e : Option Expr) → m.name ≡ name → expression_in m.value ≡ e → outputs_of (m ∷ []) ≡ option_to_list (output_of m)
alone name m None n h = rw h refl
alone name m (Some e) n h = rw h refl

pub outputs_step : (ms : List Member) (i : ℕ) (m : Member) → i < length ms → m ≡ get_or ms i m → outputs_of (take (i + 1) ms) ≡ outputs_of (take i ms) ++ option_to_list (output_of m)
outputs_step ms i m h is =
    ap (λ k. outputs_of (take k ms)) (add-one i)
    ∙ ap outputs_of (take-suc ms i m h)
    ∙ ap (λ (x : Member). outputs_of (take i ms ++ x ∷ [])) (sym is)
    ∙ filter_map-append output_of (take i ms) (m ∷ [])
    ∙ ap (λ xs. outputs_of (take i ms) ++ xs) (alone m.name m (expression_in m.value) refl refl)
