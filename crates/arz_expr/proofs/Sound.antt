-- What the reading gives is printed as what was read.
use Rattle.std.proofs.Common.{◌≡◌, ℕ, ◌^◌, ◌&&◌, true, nat_lt, List, [], ◌∷◌, ◌++◌, codes, Some, IfSome, refl, ap, sym, ◌∙◌, append_assoc}
use Rattle.std.specs.List.{list_all}
use Rattle.std.specs.Fmt.{decimal}
use Rattle.std.proofs.lemmas.Bool.{and_from}
use Rattle.arz_expr.specs.Grammar.{is_name, is_tail, print_base, print_tail, names_in}
use Rattle.arz_expr.specs.Reading.{after, name_at, named, request_at, response_at, step_at, step_output_at, workflow_at, workflow_part_at, source_at, source_part_at, word_at, base_at, index_in, closed_index, index_part_at, tail_at}
use Rattle.arz_expr.specs.declared.syntax.Base.{Base}
use Rattle.arz_expr.specs.declared.syntax.Base.TheVariants as base
use Rattle.arz_expr.specs.declared.syntax.Tail.{Tail}
use Rattle.arz_expr.specs.declared.syntax.Tail.TheVariants.{Member, Index}
use Rattle.arz_expr.proofs.Options.{map_if, bind_if, chosen_if}
use Rattle.arz_expr.proofs.Keys.{after-parts}
use Rattle.arz_expr.proofs.Runs.{name_at-parts}
use Rattle.arz_expr.proofs.Numbers.{index_in-parts}

-- the text is that base, and then the rest
abbrev pub IsBaseOf : List ℕ → Base × List ℕ → Type 0
IsBaseOf text b = (list_all is_name (names_in b.0) ≡ true) × (text ≡ print_base b.0 ++ b.1)

abbrev pub IsNameOf : List ℕ → List ℕ × List ℕ → Type 0
IsNameOf text n = (is_name n.0 ≡ true) × (text ≡ n.0 ++ n.1)

abbrev pub IsRest : List ℕ → List ℕ → List ℕ → Type 0
IsRest key text rest = text ≡ key ++ rest

-- a base of one name after a key
named-sound : (key : List ℕ) (make : List ℕ → Base) → ((n : List ℕ) → print_base (make n) ≡ key ++ n) → ((n : List ℕ) → names_in (make n) ≡ n ∷ [])
    → (text : List ℕ) → IfSome (named make text) (IsBaseOf (key ++ text))
named-sound key make prints names text =
    map_if (name_at text) (λ n. (make n.0, n.1)) (IsNameOf text) (IsBaseOf (key ++ text)) (name_at-parts text)
    (λ n p. (rw (names n.0) (and_from (is_name n.0) true p.0 refl), ap (λ t. key ++ t) p.1 ∙ sym (append_assoc key n.0 n.1) ∙ ap (λ t. t ++ n.1) (sym (prints n.0))))

-- a base of two names, the second after a key
pair-sound : (first key : List ℕ) (make : List ℕ → List ℕ → Base) → ((m n : List ℕ) → print_base (make m n) ≡ first ++ (m ++ (key ++ n))) → ((m n : List ℕ) → names_in (make m n) ≡ m ∷ n ∷ [])
    → (text rest : List ℕ) (m : List ℕ × List ℕ) → IsNameOf text m → IsRest key m.1 rest → IfSome (named (make m.0) rest) (IsBaseOf (first ++ text))
pair-sound first key make prints names text rest m is cut =
    map_if (name_at rest) (λ n. (make m.0 n.0, n.1)) (IsNameOf rest) (IsBaseOf (first ++ text)) (name_at-parts rest)
    (λ n p. (
      rw (names m.0 n.0) (and_from (is_name m.0) (is_name n.0 && true) is.0 (and_from (is_name n.0) true p.0 refl)),
      ap (λ t. first ++ t) (is.1 ∙ ap (λ t. m.0 ++ t) (cut ∙ ap (λ t. key ++ t) p.1))
          ∙ rw (prints m.0 n.0, append_assoc first (m.0 ++ (key ++ n.0)) n.1, append_assoc m.0 (key ++ n.0) n.1, append_assoc key n.0 n.1) refl,
    ))

request-sound : (text : List ℕ) → IfSome (request_at text) (IsBaseOf (codes "$request." ++ text))
unfolding request_at
request-sound text = let Q = IsBaseOf (codes "$request." ++ text) in
    chosen_if (after (codes "header.") text) (named base.RequestHeader) _ (IsRest (codes "header.") text) Q (after-parts (codes "header.") text)
    (λ rest e. rw e (named-sound (codes "$request.header.") base.RequestHeader (λ n. refl) (λ n. refl) rest))
    (chosen_if (after (codes "query.") text) (named base.RequestQuery) _ (IsRest (codes "query.") text) Q (after-parts (codes "query.") text)
    (λ rest e. rw e (named-sound (codes "$request.query.") base.RequestQuery (λ n. refl) (λ n. refl) rest))
    (chosen_if (after (codes "path.") text) (named base.RequestPath) _ (IsRest (codes "path.") text) Q (after-parts (codes "path.") text)
    (λ rest e. rw e (named-sound (codes "$request.path.") base.RequestPath (λ n. refl) (λ n. refl) rest))
    (map_if (after (codes "body") text) (λ rest. (base.RequestBody, rest)) (IsRest (codes "body") text) Q (after-parts (codes "body") text)
    (λ rest e. (refl, rw e refl)))))

response-sound : (text : List ℕ) → IfSome (response_at text) (IsBaseOf (codes "$response." ++ text))
unfolding response_at
response-sound text = let Q = IsBaseOf (codes "$response." ++ text) in
    chosen_if (after (codes "header.") text) (named base.ResponseHeader) _ (IsRest (codes "header.") text) Q (after-parts (codes "header.") text)
    (λ rest e. rw e (named-sound (codes "$response.header.") base.ResponseHeader (λ n. refl) (λ n. refl) rest))
    (map_if (after (codes "body") text) (λ rest. (base.ResponseBody, rest)) (IsRest (codes "body") text) Q (after-parts (codes "body") text)
    (λ rest e. (refl, rw e refl)))

step-sound : (text : List ℕ) → IfSome (step_at text) (IsBaseOf (codes "$steps." ++ text))
unfolding step_at
step-sound text = let Q = IsBaseOf (codes "$steps." ++ text) in
    bind_if (name_at text) step_output_at (IsNameOf text) Q (name_at-parts text)
    (λ m is. bind_if (after (codes ".outputs.") m.1) (named (base.StepOutput m.0)) (IsRest (codes ".outputs.") m.1) Q (after-parts (codes ".outputs.") m.1)
    (λ rest e. pair-sound (codes "$steps.") (codes ".outputs.") base.StepOutput (λ a b. refl) (λ a b. refl) text rest m is e))

workflow-sound : (text : List ℕ) → IfSome (workflow_at text) (IsBaseOf (codes "$workflows." ++ text))
unfolding workflow_at
workflow-sound text = let Q = IsBaseOf (codes "$workflows." ++ text) in
    bind_if (name_at text) workflow_part_at (IsNameOf text) Q (name_at-parts text)
    (λ m is. chosen_if (after (codes ".inputs.") m.1) (named (base.WorkflowInput m.0)) _ (IsRest (codes ".inputs.") m.1) Q (after-parts (codes ".inputs.") m.1)
    (λ rest e. pair-sound (codes "$workflows.") (codes ".inputs.") base.WorkflowInput (λ a b. refl) (λ a b. refl) text rest m is e)
    (bind_if (after (codes ".outputs.") m.1) (named (base.WorkflowOutput m.0)) (IsRest (codes ".outputs.") m.1) Q (after-parts (codes ".outputs.") m.1)
    (λ rest e. pair-sound (codes "$workflows.") (codes ".outputs.") base.WorkflowOutput (λ a b. refl) (λ a b. refl) text rest m is e)))

-- a source's name, and the word after it
source-word : (key : List ℕ) (make : List ℕ → Base) → ((n : List ℕ) → print_base (make n) ≡ codes "$sourceDescriptions." ++ (n ++ key)) → ((n : List ℕ) → names_in (make n) ≡ n ∷ [])
    → (text rest : List ℕ) (m : List ℕ × List ℕ) → IsNameOf text m → IsRest key m.1 rest → IsBaseOf (codes "$sourceDescriptions." ++ text) (make m.0, rest)
source-word key make prints names text rest m is cut = (
  rw (names m.0) (and_from (is_name m.0) true is.0 refl),
  ap (λ t. codes "$sourceDescriptions." ++ t) (is.1 ∙ ap (λ t. m.0 ++ t) cut ∙ sym (append_assoc m.0 key rest))
      ∙ ap (λ t. t ++ rest) (sym (prints m.0)),
)

source-sound : (text : List ℕ) → IfSome (source_at text) (IsBaseOf (codes "$sourceDescriptions." ++ text))
unfolding source_at
source-sound text = let Q = IsBaseOf (codes "$sourceDescriptions." ++ text) in
    bind_if (name_at text) source_part_at (IsNameOf text) Q (name_at-parts text)
    (λ m is. chosen_if (after (codes ".url") m.1) (λ rest. Some (base.SourceUrl m.0, rest)) _ (IsRest (codes ".url") m.1) Q (after-parts (codes ".url") m.1)
    (λ rest e. source-word (codes ".url") base.SourceUrl (λ n. refl) (λ n. refl) text rest m is e)
    (chosen_if (after (codes ".name") m.1) (λ rest. Some (base.SourceName m.0, rest)) _ (IsRest (codes ".name") m.1) Q (after-parts (codes ".name") m.1)
    (λ rest e. source-word (codes ".name") base.SourceName (λ n. refl) (λ n. refl) text rest m is e)
    (map_if (after (codes ".type") m.1) (λ rest. (base.SourceKind m.0, rest)) (IsRest (codes ".type") m.1) Q (after-parts (codes ".type") m.1)
    (λ rest e. source-word (codes ".type") base.SourceKind (λ n. refl) (λ n. refl) text rest m is e))))

word-sound : (text : List ℕ) → IfSome (word_at text) (IsBaseOf text)
unfolding word_at
word-sound text = let Q = IsBaseOf text in
    chosen_if (after (codes "$url") text) (λ rest. Some (base.Url, rest)) _ (IsRest (codes "$url") text) Q (after-parts (codes "$url") text) (λ rest e. (refl, e))
    (chosen_if (after (codes "$method") text) (λ rest. Some (base.Method, rest)) _ (IsRest (codes "$method") text) Q (after-parts (codes "$method") text) (λ rest e. (refl, e))
    (map_if (after (codes "$statusCode") text) (λ rest. (base.StatusCode, rest)) (IsRest (codes "$statusCode") text) Q (after-parts (codes "$statusCode") text) (λ rest e. (refl, e))))

pub base-sound : (text : List ℕ) → IfSome (base_at text) (IsBaseOf text)
unfolding base_at
base-sound text = let Q = IsBaseOf text in
    chosen_if (after (codes "$request.") text) request_at _ (IsRest (codes "$request.") text) Q (after-parts (codes "$request.") text) (λ rest e. rw e (request-sound rest))
    (chosen_if (after (codes "$response.") text) response_at _ (IsRest (codes "$response.") text) Q (after-parts (codes "$response.") text) (λ rest e. rw e (response-sound rest))
    (chosen_if (after (codes "$inputs.") text) (named base.Input) _ (IsRest (codes "$inputs.") text) Q (after-parts (codes "$inputs.") text)
    (λ rest e. rw e (named-sound (codes "$inputs.") base.Input (λ n. refl) (λ n. refl) rest))
    (chosen_if (after (codes "$outputs.") text) (named base.Output) _ (IsRest (codes "$outputs.") text) Q (after-parts (codes "$outputs.") text)
    (λ rest e. rw e (named-sound (codes "$outputs.") base.Output (λ n. refl) (λ n. refl) rest))
    (chosen_if (after (codes "$steps.") text) step_at _ (IsRest (codes "$steps.") text) Q (after-parts (codes "$steps.") text) (λ rest e. rw e (step-sound rest))
    (chosen_if (after (codes "$workflows.") text) workflow_at _ (IsRest (codes "$workflows.") text) Q (after-parts (codes "$workflows.") text) (λ rest e. rw e (workflow-sound rest))
    (chosen_if (after (codes "$sourceDescriptions.") text) source_at _ (IsRest (codes "$sourceDescriptions.") text) Q (after-parts (codes "$sourceDescriptions.") text) (λ rest e. rw e (source-sound rest))
    (word-sound text)))))))

-- the text is that step, and then the rest
abbrev pub IsTailOf : List ℕ → Tail × List ℕ → Type 0
IsTailOf text t = (is_tail t.0 ≡ true) × (text ≡ print_tail t.0 ++ t.1)

index-sound : (text : List ℕ) → IfSome (index_part_at text) (IsTailOf (codes "[" ++ text))
unfolding index_part_at
index-sound text = let Q = IsTailOf (codes "[" ++ text) in
    bind_if (name_at text) closed_index (IsNameOf text) Q (name_at-parts text)
    (λ n is. bind_if (after (codes "]") n.1) _ (IsRest (codes "]") n.1) Q (after-parts (codes "]") n.1)
    (λ rest e. map_if (index_in n.0) (λ i. (Index i, rest)) (λ i. (nat_lt i (10 ^ 18) ≡ true) × (n.0 ≡ decimal i)) Q (index_in-parts n.0)
    (λ i p. (p.0, ap (λ t. codes "[" ++ t) (is.1 ∙ ap (λ t. n.0 ++ t) e ∙ ap (λ t. t ++ (codes "]" ++ rest)) p.1 ∙ sym (append_assoc (decimal i) (codes "]") rest))))))

pub tail-sound : (text : List ℕ) → IfSome (tail_at text) (IsTailOf text)
unfolding tail_at
tail-sound text = let Q = IsTailOf text in
    chosen_if (after (codes ".") text) _ _ (IsRest (codes ".") text) Q (after-parts (codes ".") text)
    (λ rest e. map_if (name_at rest) (λ n. (Member n.0, n.1)) (IsNameOf rest) Q (name_at-parts rest) (λ n p. (p.0, e ∙ ap (λ t. codes "." ++ t) p.1)))
    (bind_if (after (codes "[") text) index_part_at (IsRest (codes "[") text) Q (after-parts (codes "[") text) (λ rest e. rw e (index-sound rest)))
