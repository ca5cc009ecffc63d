-- Reading an expression from the left. Private clauses cite this; the grammar is in Grammar.
use Rattle.std.specs.Prelude.{ℕ, zero, suc, ◌==◌, ◌&&◌, ◌||◌, not, Bool, true, false, nat_lt, nat_le, List, [], ◌∷◌, length, slice_index, codes, if◌then◌else◌, Option, Some, None, option_map, option_and_then}
use Rattle.std.specs.List.{list_all}
use Rattle.std.specs.Char.{is_ascii_digit}
use Rattle.std.specs.Str.Parse.{digits_value}
use Rattle.arz_expr.specs.Grammar.{is_name_byte, is_pointer, takes_tail}
use Rattle.arz_expr.specs.declared.syntax.Base.{Base}
use Rattle.arz_expr.specs.declared.syntax.Base.TheVariants as base
use Rattle.arz_expr.specs.declared.syntax.Tail.{Tail}
use Rattle.arz_expr.specs.declared.syntax.Tail.TheVariants.{Member, Index}
use Rattle.arz_expr.specs.declared.syntax.Expr.{Expr}

-- what follows a key
abbrev pub after : List ℕ → List ℕ → Option (List ℕ)
after [] text = Some text
after (k ∷ key) [] = None
after (k ∷ key) (b ∷ text) = if b == k then after key text else None

-- what f makes of it, or the other
abbrev pub chosen : {X Y : Type 0} → Option X → (X → Y) → Y → Y
chosen None f other = other
chosen (Some x) f other = f x

-- the longest run of bytes of a name, and what follows it
abbrev pub cut : List ℕ → List ℕ × List ℕ
cut [] = ([], [])
cut (b ∷ text) = if is_name_byte b then (b ∷ (cut text).0, (cut text).1) else ([], b ∷ text)

abbrev pub name_of : List ℕ × List ℕ → Option (List ℕ × List ℕ)
name_of c = if nat_lt 0 (length c.0) then Some c else None

-- a name, and what follows it
unfoldable pub name_at : List ℕ → Option (List ℕ × List ℕ)
name_at text = name_of (cut text)

-- a base with one name, the text's next
abbrev pub named : (List ℕ → Base) → List ℕ → Option (Base × List ℕ)
named make text = option_map (λ n. (make n.0, n.1)) (name_at text)

-- what follows "$request."
unfoldable pub request_at : List ℕ → Option (Base × List ℕ)
request_at text =
    chosen (after (codes "header.") text) (named base.RequestHeader)
    (chosen (after (codes "query.") text) (named base.RequestQuery)
    (chosen (after (codes "path.") text) (named base.RequestPath)
    (option_map (λ rest. (base.RequestBody, rest)) (after (codes "body") text))))

-- what follows "$response."
unfoldable pub response_at : List ℕ → Option (Base × List ℕ)
response_at text =
    chosen (after (codes "header.") text) (named base.ResponseHeader)
    (option_map (λ rest. (base.ResponseBody, rest)) (after (codes "body") text))

-- what follows the step's name
abbrev pub step_output_at : List ℕ × List ℕ → Option (Base × List ℕ)
step_output_at n = option_and_then (named (base.StepOutput n.0)) (after (codes ".outputs.") n.1)

-- what follows "$steps."
unfoldable pub step_at : List ℕ → Option (Base × List ℕ)
step_at text = option_and_then step_output_at (name_at text)

abbrev pub workflow_part_at : List ℕ × List ℕ → Option (Base × List ℕ)
workflow_part_at n =
    chosen (after (codes ".inputs.") n.1) (named (base.WorkflowInput n.0))
    (option_and_then (named (base.WorkflowOutput n.0)) (after (codes ".outputs.") n.1))

-- what follows "$workflows."
unfoldable pub workflow_at : List ℕ → Option (Base × List ℕ)
workflow_at text = option_and_then workflow_part_at (name_at text)

abbrev pub source_part_at : List ℕ × List ℕ → Option (Base × List ℕ)
source_part_at n =
    chosen (after (codes ".url") n.1) (λ rest. Some (base.SourceUrl n.0, rest))
    (chosen (after (codes ".name") n.1) (λ rest. Some (base.SourceName n.0, rest))
    (option_map (λ rest. (base.SourceKind n.0, rest)) (after (codes ".type") n.1)))

-- what follows "$sourceDescriptions."
unfoldable pub source_at : List ℕ → Option (Base × List ℕ)
source_at text = option_and_then source_part_at (name_at text)

-- a base without a name
unfoldable pub word_at : List ℕ → Option (Base × List ℕ)
word_at text =
    chosen (after (codes "$url") text) (λ rest. Some (base.Url, rest))
    (chosen (after (codes "$method") text) (λ rest. Some (base.Method, rest))
    (option_map (λ rest. (base.StatusCode, rest)) (after (codes "$statusCode") text)))

-- a base, and what follows it
unfoldable pub base_at : List ℕ → Option (Base × List ℕ)
base_at text =
    chosen (after (codes "$request.") text) request_at
    (chosen (after (codes "$response.") text) response_at
    (chosen (after (codes "$inputs.") text) (named base.Input)
    (chosen (after (codes "$outputs.") text) (named base.Output)
    (chosen (after (codes "$steps.") text) step_at
    (chosen (after (codes "$workflows.") text) workflow_at
    (chosen (after (codes "$sourceDescriptions.") text) source_at
    (word_at text)))))))

-- up to 18 digits, without a leading zero
abbrev pub is_index : List ℕ → Bool
is_index digits =
    nat_lt 0 (length digits) && nat_le (length digits) 18 && list_all is_ascii_digit digits
    && (length digits == 1 || not (slice_index digits 0 == 48))

unfoldable pub index_in : List ℕ → Option ℕ
index_in digits = if is_index digits then Some (digits_value 10 digits) else None

abbrev pub closed_index : List ℕ × List ℕ → Option (Tail × List ℕ)
closed_index n =
    option_and_then (λ rest. option_map (λ i. (Index i, rest)) (index_in n.0)) (after (codes "]") n.1)

-- what follows "["
unfoldable pub index_part_at : List ℕ → Option (Tail × List ℕ)
index_part_at text = option_and_then closed_index (name_at text)

-- one step of a tail, and what follows it
unfoldable pub tail_at : List ℕ → Option (Tail × List ℕ)
tail_at text =
    chosen (after (codes ".") text) (λ rest. option_map (λ n. (Member n.0, n.1)) (name_at rest))
    (option_and_then index_part_at (after (codes "[") text))

abbrev pub is_empty : List ℕ → Bool
is_empty [] = true
is_empty (b ∷ rest) = false

abbrev pub pointed : List ℕ → Option (Option (List ℕ))
pointed pointer = if is_pointer pointer then Some (Some pointer) else None

-- the pointer with which the text ends, or none where nothing is left
abbrev pub end_at : List ℕ → Option (Option (List ℕ))
end_at text = if is_empty text then Some None else option_and_then pointed (after (codes "#") text)

abbrev pub Ending : Type 0
Ending = List Tail × Option (List ℕ)

abbrev pub ended : Option (List ℕ) → Ending
ended pointer = ([], pointer)

abbrev pub with_step : Tail → Ending → Ending
with_step step e = (step ∷ e.0, e.1)

-- at most so many steps, and the end
unfoldable pub ending_within : ℕ → List ℕ → Option Ending
ending_within zero text = option_map ended (end_at text)
ending_within (suc n) text =
    chosen (tail_at text) (λ t. option_map (with_step t.0) (ending_within n t.1)) (option_map ended (end_at text))

-- the steps, and the end
unfoldable pub ending_at : List ℕ → Option Ending
ending_at text = ending_within (length text) text

abbrev pub with_ending : Base → Ending → Expr
with_ending b e = record { base = b; tail = e.0; pointer = e.1 }

abbrev pub alone_of : Base → List ℕ → Option Expr
alone_of b rest = if is_empty rest then Some (with_ending b (ended None)) else None

abbrev pub ending_of : Base × List ℕ → Option Expr
ending_of b =
    if takes_tail b.0 then option_map (with_ending b.0) (ending_at b.1)
    else alone_of b.0 b.1

-- the expression that a text spells
unfoldable pub reading : List ℕ → Option Expr
reading text = option_and_then ending_of (base_at text)
