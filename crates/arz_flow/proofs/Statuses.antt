-- A criterion that asks for one status.
use Rattle.std.proofs.Common.{◌≡◌, ◌∙◌, ℕ, [], refl, ap, true, false, Option, Some, None, codes, rules}
use Rattle.std.specs.Prelude.{pos}
use Rattle.std.specs.Ordering.{int_eq}
use Rattle.std.specs.Str.{is_utf8}
use Rattle.std.proofs.lemmas.Slice.Eq.{bytes_eq-Decides}
use Rattle.std.proofs.lemmas.Str.{is_utf8-from_IsUtf8}
use Rattle.arz_json.specs.declared.tree.Json.{Json}
use Rattle.arz_json.specs.declared.tree.Json.TheVariants.{Int as IntTree}
use Rattle.arz_json.specs.declared.tree.Json.TheViews.{outs-Int}
use Rattle.arz_query.specs.Lexical.{text_in}
use Rattle.arz_query.specs.Numbers.{literal_at, whole_at}
use Rattle.arz_expr.specs.Reading.{base_at, word_at, reading as expression_of}
use Rattle.arz_expr.specs.declared.syntax.Base.{Base}
use Rattle.arz_expr.specs.declared.syntax.Base.TheVariants.{StatusCode}
use Rattle.arz_expr.specs.declared.syntax.Expr.{Expr}
use Rattle.arz_path.specs.Outcome.{given}
use Rattle.arz_cond.specs.Criteria.{Criterion}
use Rattle.arz_cond.specs.Meaning.{flag, value_of}
use Rattle.arz_cond.specs.Outcomes.{Patterned, condition_in, is_kind, outcome}
use Rattle.arz_cond.specs.Reading.{expression_at, keyword_of, number_at, plain_at, operator_at, comparison_of, and_of, or_of, not_of, not_at, reading}
use Rattle.arz_cond.specs.Words.{more_at, items_at}
use Rattle.arz_cond.specs.declared.term.Comparison.TheVariants.{Equal}
use Rattle.arz_cond.specs.declared.term.Literal.TheVariants.{Int}
use Rattle.arz_cond.specs.declared.term.Term.{Term}
use Rattle.arz_cond.specs.declared.term.Term.TheVariants.{Compare, Literal, Value}
use Rattle.arz_cond.proofs.Meanings.{compare_means, literal_means, value_means}
use Rattle.arz_cond.proofs.Truth.{flag_is_true}

abbrev status : Expr
status = record { base = StatusCode; tail = []; pointer = None }

abbrev asks_for_201 : Term
asks_for_201 = Compare (Value status) Equal (Literal (Int (pos 201)))

is_text : is_utf8 (codes "$statusCode") ≡ true
is_text = is_utf8-from_IsUtf8 (codes "$statusCode") (search rules)

-- what the text spells
spells : reading false (codes "$statusCode == 201") ≡ Some asks_for_201
unfolding expression_of base_at word_at literal_at whole_at text_in more_at items_at expression_at keyword_of number_at plain_at operator_at comparison_of and_of or_of not_of not_at reading
spells = rw is_text refl

module _ (found : Base → Option Json) (n : ℕ) (at : found StatusCode ≡ Some (IntTree (pos n))) where
  compares : value_of found asks_for_201 ≡ flag (int_eq (pos n) (pos 201))
  compares =
      compare_means found (Value status) Equal (Literal (Int (pos 201)))
      ∙ rw (value_means found status, literal_means found (Int (pos 201)), at, outs-Int (pos n), outs-Int (pos 201)) refl

  -- whether a criterion of this text holds
  pub holds_at : (told : Patterned) (c : Criterion) → c.kind ≡ codes "simple" → c.condition ≡ codes "$statusCode == 201" → outcome told found c ≡ given (int_eq (pos n) (pos 201))
  unfolding outcome
  holds_at told c kind condition =
      let simple : is_kind (codes "simple") c ≡ true = (bytes_eq-Decides c.kind (codes "simple")).1 kind in
      let read : condition_in c.condition ≡ Some asks_for_201 = ap condition_in condition ∙ spells in
      rw (simple, read, compares, flag_is_true (int_eq (pos n) (pos 201))) refl
