-- What is in the grammar is read.
use Rattle.std.proofs.Common.{◌≡◌, ℕ, zero, suc, ◌-◌, ◌≤◌, ◌==◌, ◌||◌, List, [], ◌∷◌, ◌++◌, length, Bool, true, false, cond, Option, Some, None, option_map, option_and_then, inl, inr, refl, sym, ap, subst, ◌∙◌, arith, codes, IsUtf8}
use Rattle.std.specs.Char.{is_ascii_lowercase}
use Rattle.std.proofs.lemmas.Bool.{cases_Bool}
use Rattle.std.proofs.lemmas.Grind.{common_steps}
use Rattle.arz_query.specs.Words.{chosen}
use Rattle.arz_query.specs.Lexical.{after_byte, is_next, texted}
use Rattle.arz_query.specs.Reading.{begins_int}
use Rattle.arz_query.proofs.Texts.{text_is}
use Rattle.arz_query.proofs.Tokens.{apart}
use Rattle.arz_query.proofs.Figures.{number_given, number_shorter, number_begins}
use Rattle.arz_expr.specs.Grammar.{Reads, printed, print_base, is_pointer_byte}
use Rattle.arz_expr.specs.Reading.{reading as expression_of}
use Rattle.arz_expr.specs.declared.syntax.Base.{Base}
use Rattle.arz_expr.specs.declared.syntax.Base.TheVariants as base
use Rattle.arz_expr.specs.declared.syntax.Expr.{Expr}
use Rattle.arz_expr.proofs.Endings.{reading-complete}
use Rattle.arz_cond.specs.Words.{Read, Reader, with_value, with_rest, with_front, no_more, more_at, items_at}
use Rattle.arz_cond.specs.Grammar.{run, is_blank, without_blanks, one_or, IsExpression, AreCharacters, last_quote, two_quotes, character, IsLiteral, true_word, false_word, null_word, integer, fraction, quoted, IsOperator, equal, unequal, less_or_equal, greater_or_equal, less, greater, IsOr, or, AreAnds, last_and, more_ands, IsAnd, and, AreComparisons, last_comparison, more_comparisons, IsComparison, alone, compared, IsNot, negated, parentheses, literal, expression, IsCondition}
use Rattle.arz_cond.specs.Reading.{after_pair, found, expression_in, expression_at, keyword_of, keyword_at, fraction_as, number_as, number_of, number_at, character_at, with_byte, quoted_within, quoted_at, literal as literal_of, plain_at, operator_at, compared as compared_of, other_of, compared_with, comparison_of, and_of, or_of, closed, negated as negated_of, not_of, not_at, whole, reading}
use Rattle.arz_cond.specs.declared.term.Term.{Term}
use Rattle.arz_cond.specs.declared.term.Term.TheVariants as term
use Rattle.arz_cond.specs.declared.term.Literal.{Literal}
use Rattle.arz_cond.specs.declared.term.Literal.TheVariants as lit
use Rattle.arz_cond.specs.declared.term.Comparison.{Comparison}
use Rattle.arz_cond.specs.declared.term.Comparison.TheVariants as by
use Rattle.arz_cond.proofs.Lists.{taken, turned, turn, none_left}
use Rattle.arz_cond.proofs.Runs.{run-shorter, run-begins}
use Rattle.arz_cond.proofs.Quoted.{next, turn as turn_quoted}

-- what a reader is to give
abbrev given : {V : Type 0} → V → List ℕ → Option (Read V)
given v r = Some (record { value = v; rest = r })

-- ---- lists

ends_more : {V : Type 0} (m : ℕ) (separator : List ℕ → Option (List ℕ)) (item : Reader V) (s : List ℕ) → separator s ≡ None → more_at m separator item s ≡ Some (no_more s)
ends_more zero separator item s e = none_left 0 separator item s refl
ends_more (suc m) separator item s e = turn (suc m) m separator item s refl ∙ ap (turned m separator item s) e

abbrev items : {V : Type 0} → ℕ → (List ℕ → Option (List ℕ)) → Reader V → Reader (List V)
items m separator item s = option_and_then (taken m separator item) (item s)

last_given : {V : Type 0} (m : ℕ) (separator : List ℕ → Option (List ℕ)) (item : Reader V) (s r : List ℕ) (v : V) → item s ≡ given v r → separator r ≡ None → items m separator item s ≡ given (v ∷ []) r
last_given m separator item s r v e c =
    ap (option_and_then (taken m separator item)) e ∙ ap (option_map (with_front (v ∷ []))) (ends_more m separator item r c)

more_given : {V : Type 0} (m k : ℕ) (separator : List ℕ → Option (List ℕ)) (item : Reader V) (s t w r : List ℕ) (v : V) (vs : List V) → m ≡ suc k →
    item s ≡ given v t → separator t ≡ Some w → items k separator item w ≡ given vs r → items m separator item s ≡ given (v ∷ vs) r
more_given m k separator item s t w r v vs fuel e c rest =
    ap (option_and_then (taken m separator item)) e
    ∙ ap (option_map (with_front (v ∷ []))) (turn m k separator item t fuel ∙ ap (turned k separator item t) c ∙ rest)

-- ---- what follows is no longer

cut_shorter : (test : ℕ → Bool) (s w r : List ℕ) → run test s ≡ (w, r) → length r ≤ length s
cut_shorter test s w r e = subst (λ (p : List ℕ × List ℕ). length p.1 ≤ length s) e (run-shorter test s)

characters_shorter : {s r t : List ℕ} → AreCharacters s r t → length r ≤ length s
characters_shorter (last_quote h) = omega arith
characters_shorter (two_quotes d) = omega (arith, characters_shorter d)
characters_shorter (character h d) = omega (arith, characters_shorter d)

literal_shorter : {f : Bool} {s r : List ℕ} {l : Literal} → IsLiteral f s r l → length r ≤ length s
literal_shorter (true_word {s} {r} e) = cut_shorter is_ascii_lowercase s (codes "true") r e
literal_shorter (false_word {s} {r} e) = cut_shorter is_ascii_lowercase s (codes "false") r e
literal_shorter (null_word {s} {r} e) = cut_shorter is_ascii_lowercase s (codes "null") r e
literal_shorter (integer {s} {r} {z} {m} d e) = number_shorter s r z m d
literal_shorter (fraction {s} {r} {z} {m} b d e k) = number_shorter s r z m d
literal_shorter (quoted d u) = omega (arith, characters_shorter d)

operator_shorter : {s r : List ℕ} {b : Comparison} → IsOperator s r b → length r ≤ length s
operator_shorter equal = omega arith
operator_shorter unequal = omega arith
operator_shorter less_or_equal = omega arith
operator_shorter greater_or_equal = omega arith
operator_shorter (less h) = omega arith
operator_shorter (greater h) = omega arith

blanks_shorter : (s : List ℕ) → length (without_blanks s) ≤ length s
blanks_shorter s = run-shorter is_blank s

mark_shorter : (b : ℕ) (t u : List ℕ) → without_blanks t ≡ b ∷ b ∷ u → suc (suc (length (without_blanks u))) ≤ length t
mark_shorter b t u e =
    let there : length (without_blanks t) ≡ suc (suc (length u)) = ap (λ (x : List ℕ). length x) e in
    omega (arith, blanks_shorter t, blanks_shorter u, there)

mutual
  or_shorter : {f : Bool} {n : ℕ} {s r : List ℕ} {x : Term} → IsOr f n s r x → length r ≤ length s
  or_shorter (or d) = ands_shorter d

  ands_shorter : {f : Bool} {n : ℕ} {s r : List ℕ} {xs : List Term} → AreAnds f n s r xs → length r ≤ length s
  ands_shorter (last_and d) = and_shorter d
  ands_shorter (more_ands {t = t} {u = u} d e rest) = omega (arith, and_shorter d, mark_shorter 124 t u e, ands_shorter rest)

  and_shorter : {f : Bool} {n : ℕ} {s r : List ℕ} {x : Term} → IsAnd f n s r x → length r ≤ length s
  and_shorter (and d) = comparisons_shorter d

  comparisons_shorter : {f : Bool} {n : ℕ} {s r : List ℕ} {xs : List Term} → AreComparisons f n s r xs → length r ≤ length s
  comparisons_shorter (last_comparison d) = comparison_shorter d
  comparisons_shorter (more_comparisons {t = t} {u = u} d e rest) = omega (arith, comparison_shorter d, mark_shorter 38 t u e, comparisons_shorter rest)

  comparison_shorter : {f : Bool} {n : ℕ} {s r : List ℕ} {x : Term} → IsComparison f n s r x → length r ≤ length s
  comparison_shorter (alone d) = not_shorter d
  comparison_shorter (compared {t = t} {u = u} d o e) = omega (arith, not_shorter d, blanks_shorter t, operator_shorter o, blanks_shorter u, not_shorter e)

  not_shorter : {f : Bool} {n : ℕ} {s r : List ℕ} {x : Term} → IsNot f n s r x → length r ≤ length s
  not_shorter (negated {s = s} d) = omega (arith, blanks_shorter s, not_shorter d)
  not_shorter (parentheses {s = s} {t = t} {r = r} d e) =
      let there : length (without_blanks t) ≡ suc (length r) = ap (λ (x : List ℕ). length x) e in
      omega (arith, blanks_shorter s, blanks_shorter t, or_shorter d, there)
  not_shorter (literal d) = literal_shorter d
  not_shorter (expression {s = s} {r = r} d) = cut_shorter is_pointer_byte s d.text r d.cut

-- ---- literals

characters_from : {s r t : List ℕ} → AreCharacters s r t → (m : ℕ) → length s ≤ m → quoted_within m s ≡ Some (t, r)
characters_from (last_quote {r} h) m fuel = turn_quoted m (m - 1) (39 ∷ r) (omega arith) ∙ ap (next (m - 1) (39 ∷ r)) (no_character r h)
  where
    no_character : (r : List ℕ) → is_next (λ b. b == 39) r ≡ false → character_at (39 ∷ r) ≡ None
    no_character [] h = refl
    no_character (x ∷ xs) h = rw h refl
characters_from (two_quotes {s} {r} {t} d) m fuel = turn_quoted m (m - 1) (39 ∷ 39 ∷ s) (omega arith) ∙ ap (option_map (with_byte 39)) (characters_from d (m - 1) (omega arith))
characters_from (character {b} {s} {r} {t} h d) m fuel =
    turn_quoted m (m - 1) (b ∷ s) (omega arith)
    ∙ ap (λ (c : Bool). next (m - 1) (b ∷ s) (cond c (option_map (λ (r : List ℕ). let y : ℕ × List ℕ = (b, r) in y) (after_byte 39 s)) (Some (b, s)))) h
    ∙ ap (option_map (with_byte b)) (characters_from d (m - 1) (omega arith))

string_from : {s r t : List ℕ} → AreCharacters s r t → IsUtf8 t → quoted_at s ≡ Some (t, r)
unfolding quoted_at
string_from {s} {r} {t} d u =
    ap (option_and_then texted) (characters_from d (length s) (omega arith))
    ∙ ap (option_map (λ (x : List ℕ). let y : List ℕ × List ℕ = (x, r) in y)) (text_is t u)

plain_word : (f : Bool) (s : List ℕ) → is_next is_ascii_lowercase s ≡ true → plain_at f s ≡ option_map literal_of (keyword_at s)
unfolding plain_at
plain_word f [] h = cc
plain_word f (x ∷ xs) h = rw (apart is_ascii_lowercase x 36 h refl) (rw (apart is_ascii_lowercase x 39 h refl) (rw h refl))

word_given : (f : Bool) (s r : List ℕ) (b : ℕ) (bs : List ℕ) (l : Literal) → run is_ascii_lowercase s ≡ (b ∷ bs, r) → keyword_of (b ∷ bs) r ≡ given l r → plain_at f s ≡ given (term.Literal l) r
word_given f s r b bs l e k =
    plain_word f s (run-begins is_ascii_lowercase s r bs b e)
    ∙ ap (λ (c : List ℕ × List ℕ). option_map literal_of (keyword_of c.0 c.1)) e
    ∙ ap (option_map literal_of) k

int_not_low : (b : ℕ) → begins_int b ≡ true → is_ascii_lowercase b ≡ false
int_not_low b h = grind (arith, common_steps, h)

plain_number : (f : Bool) (s : List ℕ) → is_next begins_int s ≡ true → plain_at f s ≡ option_map literal_of (number_at f s)
unfolding plain_at
plain_number f [] h = cc
plain_number f (x ∷ xs) h = rw (apart begins_int x 36 h refl) (rw (apart begins_int x 39 h refl) (rw (int_not_low x h) refl))

literal_given : {f : Bool} {s r : List ℕ} {l : Literal} → IsLiteral f s r l → plain_at f s ≡ given (term.Literal l) r
unfolding plain_at number_at keyword_of
literal_given {f} (true_word {s} {r} e) = word_given f s r _ _ (lit.Flag true) e refl
literal_given {f} (false_word {s} {r} e) = word_given f s r _ _ (lit.Flag false) e refl
literal_given {f} (null_word {s} {r} e) = word_given f s r _ _ lit.Null e refl
literal_given {f} (integer {s} {r} {z} {m} d e) =
    plain_number f s (number_begins s r z m d)
    ∙ ap (λ o. option_map literal_of (option_and_then (number_of f) o)) (number_given d)
    ∙ ap (λ o. option_map literal_of (option_map (found r) (number_as f z o))) e
literal_given {f} (fraction {s} {r} {z} {m} b d e k) =
    plain_number f s (number_begins s r z m d)
    ∙ ap (λ o. option_map literal_of (option_and_then (number_of f) o)) (number_given d)
    ∙ ap (λ o. option_map literal_of (option_map (found r) (number_as f z o))) e
    ∙ ap (λ o. option_map literal_of (option_map (found r) (fraction_as f o))) k
    ∙ ap (λ (o : Bool). option_map literal_of (option_map (found r) (cond o (Some lit.Null) None))) b
literal_given {f} (quoted {s} {r} {t} d u) =
    ap (λ o. option_map literal_of (option_map (λ (t : List ℕ × List ℕ). found t.1 (lit.Text t.0)) o)) (string_from d u)

-- ---- expressions

base_begins : (b : Base) (rest : List ℕ) → is_next (λ b. b == 36) (print_base b ++ rest) ≡ true
base_begins base.Url rest = refl
base_begins base.Method rest = refl
base_begins base.StatusCode rest = refl
base_begins (base.RequestHeader name) rest = refl
base_begins (base.RequestQuery name) rest = refl
base_begins (base.RequestPath name) rest = refl
base_begins base.RequestBody rest = refl
base_begins (base.ResponseHeader name) rest = refl
base_begins base.ResponseBody rest = refl
base_begins (base.Input name) rest = refl
base_begins (base.Output name) rest = refl
base_begins (base.StepOutput step name) rest = refl
base_begins (base.WorkflowInput workflow name) rest = refl
base_begins (base.WorkflowOutput workflow name) rest = refl
base_begins (base.SourceUrl name) rest = refl
base_begins (base.SourceName name) rest = refl
base_begins (base.SourceKind name) rest = refl

expression_begins : (text : List ℕ) (e : Expr) → Reads text e → is_next (λ b. b == 36) text ≡ true
unfolding printed
expression_begins text e reads = ap (is_next (λ b. b == 36)) reads.1 ∙ base_begins e.base _

-- a text begins as its run, where that isn't empty
run_next : (test p : ℕ → Bool) (s w r : List ℕ) → run test s ≡ (w, r) → is_next p w ≡ true → is_next p s ≡ true
run_next test p [] w r e h = let none : false ≡ true = ap (λ (c : List ℕ × List ℕ). is_next p c.0) e ∙ h in absurd cc
run_next test p (b ∷ s) w r e h =
    elim (cases_Bool (test b)) [
      | inl k ↦ ap (λ (t : Bool). is_next p (cond {A = List ℕ × List ℕ} t (b ∷ (run test s).0, (run test s).1) ([], b ∷ s)).0) (sym k) ∙ ap (λ (c : List ℕ × List ℕ). is_next p c.0) e ∙ h
      | inr k ↦
          let none : false ≡ true =
          ap (λ (t : Bool). is_next p (cond {A = List ℕ × List ℕ} t (b ∷ (run test s).0, (run test s).1) ([], b ∷ s)).0) (sym k) ∙ ap (λ (c : List ℕ × List ℕ). is_next p c.0) e ∙ h in
          absurd cc
    ]

plain_expression : (f : Bool) (s : List ℕ) → is_next (λ b. b == 36) s ≡ true → plain_at f s ≡ expression_at s
unfolding plain_at
plain_expression f [] h = cc
plain_expression f (x ∷ xs) h = rw h refl

dollar_next : {s r : List ℕ} {e : Expr} → IsExpression s r e → is_next (λ b. b == 36) s ≡ true
dollar_next {s} {r} {e} d = run_next is_pointer_byte (λ b. b == 36) s d.text r d.cut (expression_begins d.text e d.reads)

expression_given : (f : Bool) {s r : List ℕ} {e : Expr} → IsExpression s r e → plain_at f s ≡ given (term.Value e) r
unfolding expression_at
expression_given f {s} {r} {e} d =
    plain_expression f s (dollar_next d)
    ∙ ap expression_in d.cut
    ∙ ap (λ o. option_map (λ (e : Expr). found r (term.Value e)) (option_and_then expression_of o)) (text_is d.text d.characters)
    ∙ ap (option_map (λ (e : Expr). found r (term.Value e))) (reading-complete d.text e d.reads)

-- ---- neither "!" nor "("

abbrev opens : ℕ → Bool
opens b = b == 33 || b == 40

no_opening : (test : ℕ → Bool) (s : List ℕ) → is_next test s ≡ true → test 33 ≡ false → test 40 ≡ false → is_next opens s ≡ false
no_opening test [] h a b = refl
no_opening test (x ∷ xs) h a b = rw (apart test x 33 h a) (rw (apart test x 40 h b) refl)

literal_opens : {f : Bool} {s r : List ℕ} {l : Literal} → IsLiteral f s r l → is_next opens s ≡ false
literal_opens (true_word {s} {r} e) = no_opening is_ascii_lowercase s (run-begins is_ascii_lowercase s r _ _ e) refl refl
literal_opens (false_word {s} {r} e) = no_opening is_ascii_lowercase s (run-begins is_ascii_lowercase s r _ _ e) refl refl
literal_opens (null_word {s} {r} e) = no_opening is_ascii_lowercase s (run-begins is_ascii_lowercase s r _ _ e) refl refl
literal_opens (integer {s} {r} {z} {m} d e) = no_opening begins_int s (number_begins s r z m d) refl refl
literal_opens (fraction {s} {r} {z} {m} b d e k) = no_opening begins_int s (number_begins s r z m d) refl refl
literal_opens (quoted d u) = refl

plain_now : (f : Bool) (n : ℕ) (s : List ℕ) → is_next opens s ≡ false → not_at f n s ≡ plain_at f s
unfolding not_at not_of plain_at
plain_now f zero s h = refl
plain_now f (suc n) [] h = refl
plain_now f (suc n) (x ∷ xs) h = go (x == 33) refl (x == 40) refl
  where
    go : (a : Bool) → (x == 33) ≡ a → (b : Bool) → (x == 40) ≡ b → not_of f (not_at f n) (x ∷ xs) ≡ plain_at f (x ∷ xs)
    go true p b q = let none : true ≡ false = ap (λ (a : Bool). a || (x == 40)) (sym p) ∙ h in absurd cc
    go false p true q = let none : true ≡ false = ap (λ (a : Bool). a || true) (sym p) ∙ ap (λ (b : Bool). (x == 33) || b) (sym q) ∙ h in absurd cc
    go false p false q = rw p (rw q refl)

-- ---- conditions

operator_given : {s r : List ℕ} {b : Comparison} → IsOperator s r b → operator_at s ≡ Some (b, r)
unfolding operator_at
operator_given equal = refl
operator_given unequal = refl
operator_given less_or_equal = refl
operator_given greater_or_equal = refl
operator_given (less {r} h) = ap (λ o. chosen o (λ t. Some (by.LessOrEqual, t)) (Some (by.Less, r))) (no_equal r h)
  where
    no_equal : (r : List ℕ) → is_next (λ b. b == 61) r ≡ false → after_byte 61 r ≡ None
    no_equal [] h = refl
    no_equal (x ∷ xs) h = rw h refl
operator_given (greater {r} h) = ap (λ o. chosen o (λ t. Some (by.GreaterOrEqual, t)) (Some (by.Greater, r))) (no_equal r h)
  where
    no_equal : (r : List ℕ) → is_next (λ b. b == 61) r ≡ false → after_byte 61 r ≡ None
    no_equal [] h = refl
    no_equal (x ∷ xs) h = rw h refl

-- no operator, "&&" or "||" comes next
record Ends (r : List ℕ) : Type 0 where
  pub no_or : after_pair 124 r ≡ None
  pub no_and : after_pair 38 r ≡ None
  pub no_operator : operator_at (without_blanks r) ≡ None

abbrev paired : ℕ → List ℕ → Option (List ℕ)
paired b s = option_map without_blanks (option_and_then (after_byte b) (after_byte b s))

ends_empty : Ends []
unfolding operator_at
ends_empty = record { no_or = refl; no_and = refl; no_operator = refl }

ends_closed : (r u : List ℕ) → without_blanks r ≡ 41 ∷ u → Ends r
unfolding operator_at
ends_closed r u e = record { no_or = ap (paired 124) e; no_and = ap (paired 38) e; no_operator = ap operator_at e }

or_mark : (t u : List ℕ) → without_blanks t ≡ 124 ∷ 124 ∷ u → after_pair 124 t ≡ Some (without_blanks u)
or_mark t u e = ap (paired 124) e

or_no_and : (t u : List ℕ) → without_blanks t ≡ 124 ∷ 124 ∷ u → after_pair 38 t ≡ None
or_no_and t u e = ap (paired 38) e

or_no_operator : (t u : List ℕ) → without_blanks t ≡ 124 ∷ 124 ∷ u → operator_at (without_blanks t) ≡ None
unfolding operator_at
or_no_operator t u e = ap operator_at e

and_mark : (t u : List ℕ) → without_blanks t ≡ 38 ∷ 38 ∷ u → after_pair 38 t ≡ Some (without_blanks u)
and_mark t u e = ap (paired 38) e

and_no_operator : (t u : List ℕ) → without_blanks t ≡ 38 ∷ 38 ∷ u → operator_at (without_blanks t) ≡ None
unfolding operator_at
and_no_operator t u e = ap operator_at e

or_turn : (below : Reader Term) (s : List ℕ) → or_of below s ≡ option_map (with_value (one_or term.Any)) (items (length s) (after_pair 124) (and_of below) s)
unfolding or_of items_at
or_turn below s = refl

and_turn : (below : Reader Term) (s : List ℕ) → and_of below s ≡ option_map (with_value (one_or term.All)) (items (length s) (after_pair 38) (comparison_of below) s)
unfolding and_of items_at
and_turn below s = refl

comparison_turn : (below : Reader Term) (s : List ℕ) → comparison_of below s ≡ option_and_then (compared_with below) (below s)
unfolding comparison_of
comparison_turn below s = refl

negated_turn : (f : Bool) (n : ℕ) (s : List ℕ) → not_at f (suc n) (33 ∷ s) ≡ option_map negated_of (not_at f n (without_blanks s))
unfolding not_at not_of
negated_turn f n s = refl

group_turn : (f : Bool) (n : ℕ) (s : List ℕ) → not_at f (suc n) (40 ∷ s) ≡ option_and_then closed (or_of (not_at f n) (without_blanks s))
unfolding not_at not_of
group_turn f n s = refl

alone_given : (below : Reader Term) (s r : List ℕ) (x : Term) → below s ≡ given x r → operator_at (without_blanks r) ≡ None → comparison_of below s ≡ given x r
alone_given below s r x e k =
    let one : Read Term = record { value = x; rest = r } in
    comparison_turn below s ∙ ap (option_and_then (compared_with below)) e ∙ ap (λ o. chosen o (other_of below one) (Some one)) k

compared_given : (below : Reader Term) (s t u r : List ℕ) (x y : Term) (b : Comparison) → below s ≡ given x t → IsOperator (without_blanks t) u b → below (without_blanks u) ≡ given y r →
    comparison_of below s ≡ given (term.Compare x b y) r
compared_given below s t u r x y b e o k =
    let one : Read Term = record { value = x; rest = t } in
    comparison_turn below s ∙ ap (option_and_then (compared_with below)) e
    ∙ ap (λ o. chosen o (other_of below one) (Some one)) (operator_given o)
    ∙ ap (option_map (compared_of one b)) k

mutual
  or_given : {f : Bool} {n : ℕ} {s r : List ℕ} {x : Term} → IsOr f n s r x → Ends r → or_of (not_at f n) s ≡ given x r
  or_given {f} {n} (or {s = s} {xs = xs} d) k = or_turn (not_at f n) s ∙ ap (option_map (with_value (one_or term.Any))) (ands_given d k (length s) (omega arith))

  ands_given : {f : Bool} {n : ℕ} {s r : List ℕ} {xs : List Term} → AreAnds f n s r xs → Ends r → (m : ℕ) → length s ≤ m → items m (after_pair 124) (and_of (not_at f n)) s ≡ given xs r
  ands_given {f} {n} (last_and {s = s} {r = r} {x = x} d) k m fuel = last_given m (after_pair 124) (and_of (not_at f n)) s r x (and_given d k.no_and k.no_operator) k.no_or
  ands_given {f} {n} (more_ands {s = s} {t = t} {u = u} {r = r} {x = x} {xs = xs} d e rest) k m fuel =
      let one = and_shorter d in
      let mark = mark_shorter 124 t u e in
      more_given m (m - 1) (after_pair 124) (and_of (not_at f n)) s t (without_blanks u) r x xs (omega arith)
      (and_given d (or_no_and t u e) (or_no_operator t u e)) (or_mark t u e) (ands_given rest k (m - 1) (omega arith))

  and_given : {f : Bool} {n : ℕ} {s r : List ℕ} {x : Term} → IsAnd f n s r x → after_pair 38 r ≡ None → operator_at (without_blanks r) ≡ None → and_of (not_at f n) s ≡ given x r
  and_given {f} {n} (and {s = s} {xs = xs} d) a o = and_turn (not_at f n) s ∙ ap (option_map (with_value (one_or term.All))) (comparisons_given d a o (length s) (omega arith))

  comparisons_given : {f : Bool} {n : ℕ} {s r : List ℕ} {xs : List Term} → AreComparisons f n s r xs → after_pair 38 r ≡ None → operator_at (without_blanks r) ≡ None → (m : ℕ) → length s ≤ m →
      items m (after_pair 38) (comparison_of (not_at f n)) s ≡ given xs r
  comparisons_given {f} {n} (last_comparison {s = s} {r = r} {x = x} d) a o m fuel = last_given m (after_pair 38) (comparison_of (not_at f n)) s r x (comparison_given d o) a
  comparisons_given {f} {n} (more_comparisons {s = s} {t = t} {u = u} {r = r} {x = x} {xs = xs} d e rest) a o m fuel =
      let one = comparison_shorter d in
      let mark = mark_shorter 38 t u e in
      more_given m (m - 1) (after_pair 38) (comparison_of (not_at f n)) s t (without_blanks u) r x xs (omega arith)
      (comparison_given d (and_no_operator t u e)) (and_mark t u e) (comparisons_given rest a o (m - 1) (omega arith))

  comparison_given : {f : Bool} {n : ℕ} {s r : List ℕ} {x : Term} → IsComparison f n s r x → operator_at (without_blanks r) ≡ None → comparison_of (not_at f n) s ≡ given x r
  comparison_given {f} {n} (alone {s = s} {r = r} {x = x} d) o = alone_given (not_at f n) s r x (not_given d) o
  comparison_given {f} {n} (compared {s = s} {t = t} {u = u} {r = r} {x = x} {y = y} {b = b} d k e) o = compared_given (not_at f n) s t u r x y b (not_given d) k (not_given e)

  not_given : {f : Bool} {n : ℕ} {s r : List ℕ} {x : Term} → IsNot f n s r x → not_at f n s ≡ given x r
  not_given {f} (negated {n = n} {s = s} {r = r} {x = x} d) = negated_turn f n s ∙ ap (option_map negated_of) (not_given d)
  not_given {f} (parentheses {n = n} {s = s} {t = t} {r = r} {x = x} d e) =
      let one : Read Term = record { value = x; rest = t } in
      group_turn f n s ∙ ap (option_and_then closed) (or_given d (ends_closed t r e)) ∙ ap (λ (y : List ℕ). option_map (with_rest one) (after_byte 41 y)) e
  not_given {f} (literal {n = n} {s = s} d) = plain_now f n s (literal_opens d) ∙ literal_given d
  not_given {f} (expression {n = n} {s = s} d) = plain_now f n s (no_opening (λ b. b == 36) s (dollar_next d) refl refl) ∙ expression_given f d

-- a condition is read as what it spells
pub condition_given : {f : Bool} {s : List ℕ} {t : Term} → IsCondition f s t → reading f s ≡ Some t
unfolding reading
condition_given d = ap (option_and_then whole) (or_given d ends_empty)
