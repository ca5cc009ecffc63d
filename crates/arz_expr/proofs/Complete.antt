-- What is printed is read again.
use Rattle.std.proofs.Common.{◌≡◌, ℕ, ◌^◌, true, false, ◌&&◌, List, ◌++◌, codes, Option, Some, option_map, option_and_then, refl, ap, ◌∙◌, append_assoc}
use Rattle.std.specs.List.{list_all}
use Rattle.std.specs.Fmt.{decimal}
use Rattle.std.proofs.lemmas.Bool.{and_parts, ltb-true}
use Rattle.arz_expr.specs.Grammar.{is_name, is_tail, print_base, print_tail, names_in}
use Rattle.arz_expr.specs.Reading.{name_at, named, request_at, response_at, step_at, step_output_at, workflow_at, workflow_part_at, source_at, source_part_at, word_at, base_at, closed_index, index_part_at, tail_at}
use Rattle.arz_expr.specs.declared.syntax.Base.{Base}
use Rattle.arz_expr.specs.declared.syntax.Base.TheVariants as base
use Rattle.arz_expr.specs.declared.syntax.Tail.{Tail}
use Rattle.arz_expr.specs.declared.syntax.Tail.TheVariants.{Member, Index}
use Rattle.arz_expr.proofs.Runs.{begins_name, name_at-front}
use Rattle.arz_expr.proofs.Numbers.{index_in-decimal, decimal-name}

lone : (n : List ℕ) → (is_name n && true) ≡ true → is_name n ≡ true
lone n h = (and_parts (is_name n) true h).0

named-front : (make : List ℕ → Base) (n rest : List ℕ) → is_name n ≡ true → begins_name rest ≡ false → named make (n ++ rest) ≡ Some (make n, rest)
named-front make n rest is stop = ap (option_map (λ (m : List ℕ × List ℕ). (make m.0, m.1))) (name_at-front n rest is stop)

-- a name, and then a key that begins with no byte of a name
keyed : {X : Type 0} (f : List ℕ × List ℕ → Option X) (m key rest : List ℕ) → is_name m ≡ true → begins_name (key ++ rest) ≡ false
    → option_and_then f (name_at ((m ++ key) ++ rest)) ≡ f (m, key ++ rest)
keyed f m key rest is stop = ap (λ t. option_and_then f (name_at t)) (append_assoc m key rest) ∙ ap (option_and_then f) (name_at-front m (key ++ rest) is stop)

pub base-front : (b : Base) (rest : List ℕ) → list_all is_name (names_in b) ≡ true → begins_name rest ≡ false → base_at (print_base b ++ rest) ≡ Some (b, rest)
unfolding base_at request_at response_at step_at workflow_at source_at word_at
base-front base.Url rest is stop = refl
base-front base.Method rest is stop = refl
base-front base.StatusCode rest is stop = refl
base-front (base.RequestHeader n) rest is stop = named-front base.RequestHeader n rest (lone n is) stop
base-front (base.RequestQuery n) rest is stop = named-front base.RequestQuery n rest (lone n is) stop
base-front (base.RequestPath n) rest is stop = named-front base.RequestPath n rest (lone n is) stop
base-front base.RequestBody rest is stop = refl
base-front (base.ResponseHeader n) rest is stop = named-front base.ResponseHeader n rest (lone n is) stop
base-front base.ResponseBody rest is stop = refl
base-front (base.Input n) rest is stop = named-front base.Input n rest (lone n is) stop
base-front (base.Output n) rest is stop = named-front base.Output n rest (lone n is) stop
base-front (base.StepOutput m n) rest is stop =
    let parts = and_parts (is_name m) (is_name n && true) is in
    keyed step_output_at m (codes ".outputs." ++ n) rest parts.0 refl ∙ named-front (base.StepOutput m) n rest (lone n parts.1) stop
base-front (base.WorkflowInput m n) rest is stop =
    let parts = and_parts (is_name m) (is_name n && true) is in
    keyed workflow_part_at m (codes ".inputs." ++ n) rest parts.0 refl ∙ named-front (base.WorkflowInput m) n rest (lone n parts.1) stop
base-front (base.WorkflowOutput m n) rest is stop =
    let parts = and_parts (is_name m) (is_name n && true) is in
    keyed workflow_part_at m (codes ".outputs." ++ n) rest parts.0 refl ∙ named-front (base.WorkflowOutput m) n rest (lone n parts.1) stop
base-front (base.SourceUrl n) rest is stop = keyed source_part_at n (codes ".url") rest (lone n is) refl
base-front (base.SourceName n) rest is stop = keyed source_part_at n (codes ".name") rest (lone n is) refl
base-front (base.SourceKind n) rest is stop = keyed source_part_at n (codes ".type") rest (lone n is) refl

pub tail-front : (t : Tail) (rest : List ℕ) → is_tail t ≡ true → begins_name rest ≡ false → tail_at (print_tail t ++ rest) ≡ Some (t, rest)
unfolding tail_at index_part_at
tail-front (Member n) rest is stop = ap (option_map (λ (m : List ℕ × List ℕ). (Member m.0, m.1))) (name_at-front n rest is stop)
tail-front (Index i) rest is stop =
    let lt = ltb-true i (10 ^ 18) is in
    keyed closed_index (decimal i) (codes "]") rest (decimal-name i lt) refl ∙ ap (option_map (λ i. (Index i, rest))) (index_in-decimal i lt)
