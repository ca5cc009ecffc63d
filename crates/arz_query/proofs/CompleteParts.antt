-- What is in the grammar is read, whatever follows: parts without expressions.
use Rattle.std.proofs.Common.{◌≡◌, ℕ, ◌==◌, ◌||◌, List, [], ◌∷◌, length, Bool, true, false, cond, ℤ, Option, Some, None, option_map, option_and_then, refl, sym, ap, ap₂, ◌∙◌, arith}
use Rattle.std.proofs.lemmas.Grind.{common_steps}
use Rattle.std.specs.Char.{is_ascii_lowercase}
use Rattle.arz_query.specs.Words.{list_of_one, Read, Reader, joined, plural, chosen, with_value}
use Rattle.arz_query.specs.Lexical.{after_byte, is_next, is_of, skip_blanks, name_at}
use Rattle.arz_query.specs.Numbers.{index_at, literal_at}
use Rattle.arz_query.specs.Typing.{as_test, tested_as, test_of, is_test, ill_unless}
use Rattle.arz_query.specs.Grammar.{IsBlank, nothing, blank, IsInt, IsWord, IsOptional, IsStep, IsOperator, IsShorthand, no_int, int, no_step, empty_step, step, equal, unequal, less_or_equal, greater_or_equal, less, greater, wildcard, shorthand}
use Rattle.arz_query.specs.Reading.{wildcard as wildcard_of, begins_int, bound_at, step_at, some_bound, with_blanks, no_bound, slice_of, slice_step, slice_end, slice_begun, index_of, index_or_slice, numbered_at, named, tested, selector_of, shorthand_at, keyword_of, arguments_of, called, word_of, term_of, comparison_at, compared_of, item_of}
use Rattle.arz_query.specs.declared.words.Class.TheVariants as class
use Rattle.arz_query.specs.declared.pieces.Marks.{Marks}
use Rattle.arz_query.specs.declared.terms.Term.{Term}
use Rattle.arz_query.specs.declared.terms.Term.TheVariants as term
use Rattle.arz_query.specs.declared.query.Selector.{Selector}
use Rattle.arz_query.specs.declared.query.Selector.TheVariants as selector
use Rattle.arz_query.specs.declared.query.Operand.TheVariants as operand
use Rattle.arz_query.specs.declared.query.Test.{Test}
use Rattle.arz_query.specs.declared.query.Comparison.{Comparison}
use Rattle.arz_query.specs.declared.query.Comparison.TheVariants as by
use Rattle.arz_query.proofs.Inverse.{skipped, stays}
use Rattle.arz_query.proofs.Tokens.{name_from, word_from, name_begins, apart, no_byte, tight}
use Rattle.arz_query.proofs.Figures.{int_from, int_begins}
use Rattle.arz_query.proofs.SoundParts.{is_byte}
use Rattle.arz_query.proofs.Lengths.{begins_term, begins_slice, int_in_slice, slice_starts}
use Rattle.arz_query.proofs.Follow.{given, closes, follows_term, Next}

-- ---- index and slice

not_int : (test : ℕ → Bool) (s : List ℕ) → is_next test s ≡ true → ((b : ℕ) → test b ≡ true → begins_int b ≡ false) → is_next begins_int s ≡ false
not_int test [] h k = refl
not_int test (x ∷ xs) h k = k x h

closer_not_int : (b : ℕ) → closes b ≡ true → begins_int b ≡ false
closer_not_int b h = go (b == 44) refl (b == 93) refl
  where
    go : (t : Bool) → (b == 44) ≡ t → (u : Bool) → (b == 93) ≡ u → begins_int b ≡ false
    go true e u f = rw (is_byte b 44 e) refl
    go false e true f = rw (is_byte b 93 f) refl
    go false e false f = rw (is_byte b 41 (third e f)) refl
      where
        third : (b == 44) ≡ false → (b == 93) ≡ false → (b == 41) ≡ true
        third e f = ap₂ (λ s t. s || (t || (b == 41))) (sym e) (sym f) ∙ h

-- a byte that closes comes at once
at_once : (r : List ℕ) → Next closes r → is_next (is_of class.Blank) r ≡ false → is_next closes r ≡ true
at_once r h k = ap (is_next closes) (sym (stays r k)) ∙ h

optional_given : {s r : List ℕ} {x : Option ℤ} {m : Marks} → IsOptional s r x m → is_next begins_int r ≡ false → is_next (is_of class.Blank) r ≡ false → bound_at s ≡ given x m r
unfolding bound_at
optional_given {s} no_int h k = ap (λ t. cond t (option_map (λ (one : Read ℤ). with_blanks (some_bound one)) (index_at s)) (Some (no_bound s))) h
optional_given (int {s} {t} {r} {z} {m} i b) h k =
    ap (λ c. cond c (option_map (λ (one : Read ℤ). with_blanks (some_bound one)) (index_at s)) (Some (no_bound s))) (int_begins s t z m i)
    ∙ ap (option_map (λ (one : Read ℤ). with_blanks (some_bound one))) (int_from i)
    ∙ ap (λ (u : List ℕ). let o : Option (Read (Option ℤ)) = given (Some z) m u in o) (skipped b k)

abbrev sliced : Read (Option ℤ) → Option ℤ → Marks → ℤ → Marks → List ℕ → Option (Read Selector)
sliced start y n z o r = given (selector.Slice (record { start = start.value; end = y; step = z })) (plural (joined (joined start.marks n) o)) r

end_given : {w r : List ℕ} {z : ℤ} {o : Marks} (start : Read (Option ℤ)) (y : Option ℤ) (n : Marks) → IsStep w r z o → Next closes r →
    slice_end start (record { value = y; marks = n; rest = w }) ≡ sliced start y n z o r
unfolding step_at
end_given {w} {r} start y n (no_step k) h =
    ap (λ c. chosen c (slice_step start (record { value = y; marks = n; rest = r })) (Some (slice_of start (record { value = y; marks = n; rest = r }) (no_bound r)))) (no_byte closes 58 r (at_once r h k) refl)
end_given {w} start y n (empty_step {r}) h =
    ap (λ t. option_map (slice_of start (record { value = y; marks = n; rest = 58 ∷ r })) (cond t (option_map some_bound (index_at (skip_blanks r))) (Some (no_bound r)))) (not_int closes (skip_blanks r) h closer_not_int)
end_given start y n (step {s} {t} {r} {z} {m} b i) h =
    let k = tight begins_int t (int_begins t r z m i) refl refl refl refl in
    ap (λ u. option_map (slice_of start (record { value = y; marks = n; rest = 58 ∷ s })) (cond (is_next begins_int u) (option_map some_bound (index_at u)) (Some (no_bound s)))) (skipped b k)
    ∙ ap (λ c. option_map (slice_of start (record { value = y; marks = n; rest = 58 ∷ s })) (cond c (option_map some_bound (index_at t)) (Some (no_bound s)))) (int_begins t r z m i)
    ∙ ap (λ q. option_map (slice_of start (record { value = y; marks = n; rest = 58 ∷ s })) (option_map some_bound q)) (int_from i)

step_begins : {w r : List ℕ} {z : ℤ} {o : Marks} → IsStep w r z o → Next closes r → (is_next begins_int w ≡ false) × (is_next (is_of class.Blank) w ≡ false)
step_begins {w} {r} (no_step k) h = (not_int closes r (at_once r h k) closer_not_int, k)
step_begins empty_step h = (refl, refl)
step_begins (step b i) h = (refl, refl)

optional_tight : {u w : List ℕ} {y : Option ℤ} {n : Marks} → IsOptional u w y n → is_next (is_of class.Blank) w ≡ false → is_next (is_of class.Blank) u ≡ false
optional_tight no_int k = k
optional_tight (int {s} {t} {r} {z} {m} i b) k = tight begins_int s (int_begins s t z m i) refl refl refl refl

begun_given : {t u w r : List ℕ} {y : Option ℤ} {z : ℤ} {n o : Marks} (start : Read (Option ℤ)) → IsBlank t u → IsOptional u w y n → IsStep w r z o → Next closes r →
    slice_begun start t ≡ sliced start y n z o r
begun_given {t} {u} {w} {r} {y} {z} {n} {o} start b p st h =
    let k = step_begins st h in
    ap (λ x. option_and_then (slice_end start) (bound_at x)) (skipped b (optional_tight p k.1))
    ∙ ap (option_and_then (slice_end start)) (optional_given p k.0 k.1)
    ∙ end_given start y n st h

slice_given : {s t u w r : List ℕ} {x y : Option ℤ} {z : ℤ} {m n o : Marks} → IsOptional s (58 ∷ t) x m → IsBlank t u → IsOptional u w y n → IsStep w r z o → Next closes r →
    numbered_at s ≡ given (selector.Slice (record { start = x; end = y; step = z })) (plural (joined (joined m n) o)) r
unfolding numbered_at
slice_given {s} no_int b p st h = begun_given (no_bound s) b p st h
slice_given {t = t'} (int {s} {t} {r} {z} {m} i k) b p st h =
    ap (λ c. cond c (option_and_then index_or_slice (index_at s)) (option_and_then (slice_begun (no_bound s)) (after_byte 58 s))) (int_begins s t z m i)
    ∙ ap (option_and_then index_or_slice) (int_from i)
    ∙ ap (λ q. chosen (after_byte 58 q) (slice_begun (record { value = Some z; marks = m; rest = t })) (Some (index_of (record { value = z; marks = m; rest = t })))) (skipped k refl)
    ∙ begun_given (record { value = Some z; marks = m; rest = t }) b p st h

index_given : (s r : List ℕ) (z : ℤ) (m : Marks) → IsInt s r z m → Next closes r → numbered_at s ≡ given (selector.Index z) m r
unfolding numbered_at
index_given s r z m i h =
    ap (λ c. cond c (option_and_then index_or_slice (index_at s)) (option_and_then (slice_begun (no_bound s)) (after_byte 58 s))) (int_begins s r z m i)
    ∙ ap (option_and_then index_or_slice) (int_from i)
    ∙ ap (λ q. chosen q (slice_begun (record { value = Some z; marks = m; rest = r })) (Some (index_of (record { value = z; marks = m; rest = r })))) (no_byte closes 58 (skip_blanks r) h refl)

selector_number : (below : Reader Term) (s : List ℕ) → is_next begins_slice s ≡ true → selector_of below s ≡ numbered_at s
unfolding selector_of
selector_number below [] h = cc
selector_number below (x ∷ xs) h = rw (apart begins_slice x 39 h refl) (rw (apart begins_slice x 34 h refl) (rw (apart begins_slice x 42 h refl) (rw (apart begins_slice x 63 h refl) refl)))

pub selector_index : (below : Reader Term) (s r : List ℕ) (z : ℤ) (m : Marks) → IsInt s r z m → Next closes r → selector_of below s ≡ given (selector.Index z) m r
selector_index below s r z m i h = selector_number below s (starts s (int_begins s r z m i)) ∙ index_given s r z m i h
  where
    starts : (s : List ℕ) → is_next begins_int s ≡ true → is_next begins_slice s ≡ true
    starts [] e = e
    starts (x ∷ xs) e = int_in_slice x e

pub selector_slice : (below : Reader Term) {s t u w r : List ℕ} {x y : Option ℤ} {z : ℤ} {m n o : Marks} → IsOptional s (58 ∷ t) x m → IsBlank t u → IsOptional u w y n → IsStep w r z o → Next closes r →
    selector_of below s ≡ given (selector.Slice (record { start = x; end = y; step = z })) (plural (joined (joined m n) o)) r
selector_slice below {s} q b p st h = selector_number below s (slice_starts q) ∙ slice_given q b p st h

-- ---- short segments, operators, words

pub shorthand_given : {s r : List ℕ} {vs : List Selector} {m : Marks} → IsShorthand s r vs m → shorthand_at s ≡ given vs m r
unfolding shorthand_at
shorthand_given wildcard = refl
shorthand_given (shorthand {s} {r} {name = n} e) =
    ap (λ c. chosen c (λ t. Some (list_of_one (wildcard_of t))) (option_map (λ n. list_of_one (named n)) (name_at s))) (no_byte (is_of class.Name) 42 s (name_begins s r n e) refl)
    ∙ ap (option_map (λ (n : List ℕ × List ℕ). list_of_one (named n))) (name_from s r n e)

pub operator_given : {u w : List ℕ} {b : Comparison} → IsOperator u w b → after_byte 61 w ≡ None → comparison_at u ≡ Some (b, w)
unfolding comparison_at
operator_given equal h = refl
operator_given unequal h = refl
operator_given less_or_equal h = refl
operator_given greater_or_equal h = refl
operator_given {w = w} less h = ap (λ c. chosen c (λ t. Some (by.LessOrEqual, t)) (Some (by.Less, w))) h
operator_given {w = w} greater h = ap (λ c. chosen c (λ t. Some (by.GreaterOrEqual, t)) (Some (by.Greater, w))) h

pub operator_begins : {u w : List ℕ} {b : Comparison} → IsOperator u w b → (is_next follows_term u ≡ true) × (is_next (is_of class.Blank) u ≡ false)
operator_begins equal = (refl, refl)
operator_begins unequal = (refl, refl)
operator_begins less_or_equal = (refl, refl)
operator_begins greater_or_equal = (refl, refl)
operator_begins less = (refl, refl)
operator_begins greater = (refl, refl)

-- no "=" stands at the front of blanks and a term
pub no_equal : {w a : List ℕ} → IsBlank w a → is_next begins_term a ≡ true → after_byte 61 w ≡ None
no_equal {w} nothing h = no_byte begins_term 61 w h refl
no_equal (blank {b} {s} e more) h = no_byte (is_of class.Blank) 61 (b ∷ s) e refl

int_not_low : (b : ℕ) → begins_int b ≡ true → is_ascii_lowercase b ≡ false
int_not_low b h = grind (arith, common_steps, h)

pub term_number : (below : Reader Term) (s : List ℕ) → is_next begins_int s ≡ true → term_of below s ≡ option_map (with_value (λ n. term.Literal (operand.Int n))) (literal_at s)
unfolding term_of
term_number below [] h = cc
term_number below (x ∷ xs) h =
    rw (apart begins_int x 36 h refl) (rw (apart begins_int x 64 h refl) (rw (apart begins_int x 39 h refl) (rw (apart begins_int x 34 h refl) (rw (int_not_low x h) refl))))

pub term_word : (below : Reader Term) (s : List ℕ) → is_next is_ascii_lowercase s ≡ true → term_of below s ≡ word_of below s
unfolding term_of
term_word below [] h = cc
term_word below (x ∷ xs) h =
    rw (apart is_ascii_lowercase x 36 h refl) (rw (apart is_ascii_lowercase x 64 h refl) (rw (apart is_ascii_lowercase x 39 h refl) (rw (apart is_ascii_lowercase x 34 h refl) (rw h refl))))

pub item_compared : (below : Reader Term) (s : List ℕ) → is_next begins_term s ≡ true → item_of below s ≡ compared_of below s
unfolding item_of
item_compared below [] h = cc
item_compared below (x ∷ xs) h = rw (apart begins_term x 33 h refl) (rw (apart begins_term x 40 h refl) refl)

-- a word that is no call
pub keyword_given : (below : Reader Term) (s r word : List ℕ) (one : Read Term) → IsWord s r word → after_byte 40 r ≡ None → keyword_of word r ≡ Some one → term_of below s ≡ Some one
unfolding word_of
keyword_given below s r word one e h k =
    let f = word_from s r word e in
    term_word below s f.0
    ∙ ap (λ (c : List ℕ × List ℕ). chosen (after_byte 40 c.1) (λ t. option_map (called (length s) c.0) (arguments_of below t)) (keyword_of c.0 c.1)) f.1
    ∙ ap (λ q. chosen q (λ t. option_map (called (length s) word) (arguments_of below t)) (keyword_of word r)) h ∙ k

pub tested_given : (reader : Reader Term) (s r : List ℕ) (v : Term) (x : Test) (m : Marks) → reader s ≡ given v m r → test_of v ≡ Some x → tested reader s ≡ given x (ill_unless (is_test v) (length s) m) r
unfolding tested
tested_given reader s r v x m e k =
    ap (option_and_then (as_test (length s))) e ∙ ap (option_map (tested_as (length s) (record { value = v; marks = m; rest = r }))) k
