-- What a simple condition comes to (Arazzo 1.0.1, section 4.6.11.1), where `found` gives what each base of an expression names.
use Rattle.std.specs.Prelude.{List, map, Bool, false, not, Option, Some, None}
use Rattle.std.specs.List.{list_any, list_all}
use Rattle.arz_json.specs.declared.tree.Json.{Json, out-Json}
use Rattle.arz_json.specs.declared.tree.Json.TheOpen.{Json-F}
use Rattle.arz_json.specs.declared.tree.Json.TheVariants.{Null, Flag, Int, Text}
use Rattle.arz_json.specs.declared.tree.Member.{Member}
use Rattle.arz_expr.specs.Values.{value_in}
use Rattle.arz_expr.specs.declared.syntax.Base.{Base}
use Rattle.arz_cond.specs.declared.term.Literal.{Literal}
use Rattle.arz_cond.specs.declared.term.Literal.TheVariants as literal
use Rattle.arz_cond.specs.declared.term.Term.{Term}
use Rattle.arz_cond.specs.declared.term.Term.TheOpen.{Term-F}
use Rattle.arz_cond.specs.declared.term.Term.TheFolds.{fold-Term}
use Rattle.arz_cond.specs.Comparing.{row, compared}

abbrev pub is_true_in : Json-F Json Member → Bool
is_true_in (Json-F.Flag b) = b
is_true_in _ = false

-- a value is true where it is the flag true
abbrev pub is_true : Option Json → Bool
is_true (Some j) = is_true_in (out-Json j)
is_true None = false

abbrev pub literal_value : Literal → Json
literal_value literal.Null = Null
literal_value (literal.Flag b) = Flag b
literal_value (literal.Int z) = Int z
literal_value (literal.Text s) = Text s

abbrev pub flag : Bool → Option Json
flag b = Some (Flag b)

-- one level, with the value of each part in its place
abbrev pub value_step : (Base → Option Json) → Term-F (Option Json) → Option Json
value_step found (Term-F.Any vs) = flag (list_any is_true vs)
value_step found (Term-F.All vs) = flag (list_all is_true vs)
value_step found (Term-F.Not v) = flag (not (is_true v))
value_step found (Term-F.Compare v op w) = flag (compared op (row v w))
value_step found (Term-F.Literal l) = Some (literal_value l)
value_step found (Term-F.Value e) = value_in found e

unfoldable pub value_of : (Base → Option Json) → Term → Option Json
value_of found = fold-Term (Option Json) (value_step found)

-- whether one of some terms is true, and whether each is
unfoldable pub some_true : (Base → Option Json) → List Term → Bool
some_true found ts = list_any is_true (map (value_of found) ts)

unfoldable pub each_true : (Base → Option Json) → List Term → Bool
each_true found ts = list_all is_true (map (value_of found) ts)
