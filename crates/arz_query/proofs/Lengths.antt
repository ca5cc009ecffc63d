-- What follows a part is no longer than what it begins, and what parts begin with.
use Rattle.std.proofs.Common.{◌≡◌, ℕ, ◌≤◌, ◌<◌, ◌==◌, ◌||◌, List, [], ◌∷◌, length, Bool, true, false, ℤ, Option, None, refl, ap, arith}
use Rattle.std.specs.Char.{is_ascii_lowercase}
use Rattle.arz_query.specs.Lexical.{is_of, is_next, after_byte}
use Rattle.arz_query.specs.Grammar.{IsOptional, IsStep, IsOperator, IsShorthand, IsSelector, AreSelectors, IsSelection, IsSegment, AreSegments, IsExpr, AreAlls, IsAll, AreItems, IsItem, IsGroup, IsTerm, AreArguments, AreExprs, no_int, int, no_step, empty_step, step, equal, unequal, less_or_equal, greater_or_equal, less, greater, wildcard, shorthand, no_segment, segment, child, short_child, descendant, short_descendant, selection, last_selector, more_selectors, single_quoted, double_quoted, every, index, slice, filter, one_all, any, last_all, more_alls, one_item, all, last_item, more_items, alone, comparison, group, not_group, not_alone, parentheses, from_root, from_current, single_text, double_text, number, true_word, false_word, null_word, function, no_argument, arguments, last_expr, more_exprs}
use Rattle.arz_query.specs.Reading.{begins_int, begins_segment}
use Rattle.arz_query.specs.declared.words.Class.TheVariants as class
use Rattle.arz_query.specs.declared.pieces.Marks.{Marks}
use Rattle.arz_query.specs.declared.terms.Term.{Term}
use Rattle.arz_query.specs.declared.query.Segment.{Segment}
use Rattle.arz_query.specs.declared.query.Selector.{Selector}
use Rattle.arz_query.specs.declared.query.Test.{Test}
use Rattle.arz_query.specs.declared.query.Comparison.{Comparison}
use Rattle.arz_query.proofs.Tokens.{name_shorter, word_shorter, string_shorter, name_begins, word_begins, no_byte}
use Rattle.arz_query.proofs.Figures.{int_shorter, number_shorter, int_begins, number_begins}
use Rattle.arz_query.proofs.Shorter.{blank_shorter}

pub optional_shorter : {s r : List ℕ} {x : Option ℤ} {m : Marks} → IsOptional s r x m → length r ≤ length s
optional_shorter no_int = omega arith
optional_shorter (int {s} {t} {r} {z} {m} i b) = omega (arith, int_shorter s t z m i, blank_shorter b)

pub step_shorter : {s r : List ℕ} {z : ℤ} {m : Marks} → IsStep s r z m → length r ≤ length s
step_shorter (no_step k) = omega arith
step_shorter empty_step = omega arith
step_shorter (step {s} {t} {r} {z} {m} b i) = omega (arith, int_shorter t r z m i, blank_shorter b)

pub operator_shorter : {s r : List ℕ} {c : Comparison} → IsOperator s r c → length r < length s
operator_shorter equal = omega arith
operator_shorter unequal = omega arith
operator_shorter less_or_equal = omega arith
operator_shorter greater_or_equal = omega arith
operator_shorter less = omega arith
operator_shorter greater = omega arith

shorthand_shorter : {s r : List ℕ} {vs : List Selector} {m : Marks} → IsShorthand s r vs m → length r ≤ length s
shorthand_shorter wildcard = omega arith
shorthand_shorter (shorthand {s} {r} {name = n} e) = name_shorter s r n e

mutual
  pub segments_shorter : {s r : List ℕ} {vs : List Segment} {m : Marks} → AreSegments s r vs m → length r ≤ length s
  segments_shorter no_segment = omega arith
  segments_shorter (segment b d rest) = omega (arith, blank_shorter b, segment_shorter d, segments_shorter rest)

  pub segment_shorter : {s r : List ℕ} {v : Segment} {m : Marks} → IsSegment s r v m → length r < length s
  segment_shorter (child d) = omega (arith, selection_shorter d)
  segment_shorter (short_child d) = omega (arith, shorthand_shorter d)
  segment_shorter (descendant d) = omega (arith, selection_shorter d)
  segment_shorter (short_descendant d) = omega (arith, shorthand_shorter d)

  pub selection_shorter : {s r : List ℕ} {vs : List Selector} {m : Marks} → IsSelection s r vs m → length r ≤ length s
  selection_shorter (selection b d c) = omega (arith, blank_shorter b, selectors_shorter d, blank_shorter c)

  pub selectors_shorter : {s r : List ℕ} {vs : List Selector} {m : Marks} → AreSelectors s r vs m → length r ≤ length s
  selectors_shorter (last_selector d) = selector_shorter d
  selectors_shorter (more_selectors d b c rest) = omega (arith, selector_shorter d, blank_shorter b, blank_shorter c, selectors_shorter rest)

  pub selector_shorter : {s r : List ℕ} {v : Selector} {m : Marks} → IsSelector s r v m → length r ≤ length s
  selector_shorter (single_quoted {s} {r} {name = n} e) = omega (arith, string_shorter 39 s r n e)
  selector_shorter (double_quoted {s} {r} {name = n} e) = omega (arith, string_shorter 34 s r n e)
  selector_shorter every = omega arith
  selector_shorter (index {s} {r} {z} {m} i) = int_shorter s r z m i
  selector_shorter (slice o b p st) = omega (arith, optional_shorter o, blank_shorter b, optional_shorter p, step_shorter st)
  selector_shorter (filter b d k) = omega (arith, blank_shorter b, expr_shorter d)

  pub expr_shorter : {s r : List ℕ} {v : Term} {m : Marks} → IsExpr s r v m → length r ≤ length s
  expr_shorter (one_all d) = all_shorter d
  expr_shorter (any d k) = alls_shorter d

  pub alls_shorter : {s r : List ℕ} {xs : List Test} {m : Marks} → AreAlls s r xs m → length r ≤ length s
  alls_shorter (last_all d k) = all_shorter d
  alls_shorter (more_alls d k b c rest) = omega (arith, all_shorter d, blank_shorter b, blank_shorter c, alls_shorter rest)

  pub all_shorter : {s r : List ℕ} {v : Term} {m : Marks} → IsAll s r v m → length r ≤ length s
  all_shorter (one_item d) = item_shorter d
  all_shorter (all d k) = items_shorter d

  pub items_shorter : {s r : List ℕ} {xs : List Test} {m : Marks} → AreItems s r xs m → length r ≤ length s
  items_shorter (last_item d k) = item_shorter d
  items_shorter (more_items d k b c rest) = omega (arith, item_shorter d, blank_shorter b, blank_shorter c, items_shorter rest)

  pub item_shorter : {s r : List ℕ} {v : Term} {m : Marks} → IsItem s r v m → length r ≤ length s
  item_shorter (alone d) = term_shorter d
  item_shorter (comparison d b op c e) = omega (arith, term_shorter d, blank_shorter b, operator_shorter op, blank_shorter c, term_shorter e)
  item_shorter (group d) = omega (arith, group_shorter d)
  item_shorter (not_group b d) = omega (arith, blank_shorter b, group_shorter d)
  item_shorter (not_alone b d k) = omega (arith, blank_shorter b, term_shorter d)

  pub group_shorter : {s r : List ℕ} {x : Test} {m : Marks} → IsGroup s r x m → length r ≤ length s
  group_shorter (parentheses b d k c) = omega (arith, blank_shorter b, expr_shorter d, blank_shorter c)

  pub term_shorter : {s r : List ℕ} {v : Term} {m : Marks} → IsTerm s r v m → length r ≤ length s
  term_shorter (from_root d) = omega (arith, segments_shorter d)
  term_shorter (from_current d) = omega (arith, segments_shorter d)
  term_shorter (single_text {s} {r} {text = t} e) = omega (arith, string_shorter 39 s r t e)
  term_shorter (double_text {s} {r} {text = t} e) = omega (arith, string_shorter 34 s r t e)
  term_shorter (number {s} {r} {z} {m} e) = number_shorter s r z m e
  term_shorter (true_word {s} {r} e) = word_shorter s r _ e
  term_shorter (false_word {s} {r} e) = word_shorter s r _ e
  term_shorter (null_word {s} {r} e) = word_shorter s r _ e
  term_shorter (function {s} {t} {r} {name = n} e d) = omega (arith, word_shorter s (40 ∷ t) n e, arguments_shorter d)

  pub arguments_shorter : {s r : List ℕ} {vs : List Term} {m : Marks} → AreArguments s r vs m → length r ≤ length s
  arguments_shorter (no_argument b) = omega (arith, blank_shorter b)
  arguments_shorter (arguments b d c) = omega (arith, blank_shorter b, exprs_shorter d, blank_shorter c)

  pub exprs_shorter : {s r : List ℕ} {vs : List Term} {m : Marks} → AreExprs s r vs m → length r ≤ length s
  exprs_shorter (last_expr d) = expr_shorter d
  exprs_shorter (more_exprs d b c rest) = omega (arith, expr_shorter d, blank_shorter b, blank_shorter c, exprs_shorter rest)

-- ---- first bytes

pub segment_begins : {s r : List ℕ} {v : Segment} {m : Marks} → IsSegment s r v m → is_next begins_segment s ≡ true
segment_begins (child d) = refl
segment_begins (short_child d) = refl
segment_begins (descendant d) = refl
segment_begins (short_descendant d) = refl

pub shorthand_begins : {s r : List ℕ} {vs : List Selector} {m : Marks} → IsShorthand s r vs m → (after_byte 91 s ≡ None) × (after_byte 46 s ≡ None)
shorthand_begins wildcard = (refl, refl)
shorthand_begins (shorthand {s} {r} {name = n} e) = (no_byte (is_of class.Name) 91 s (name_begins s r n e) refl, no_byte (is_of class.Name) 46 s (name_begins s r n e) refl)

abbrev pub begins_term : ℕ → Bool
begins_term b = begins_int b || (is_ascii_lowercase b || (b == 36 || (b == 64 || (b == 39 || b == 34))))

abbrev pub begins_item : ℕ → Bool
begins_item b = begins_term b || (b == 33 || b == 40)

abbrev pub begins_slice : ℕ → Bool
begins_slice b = begins_int b || b == 58

abbrev pub begins_selector : ℕ → Bool
begins_selector b = begins_slice b || (b == 39 || (b == 34 || (b == 42 || b == 63)))

wider : (p q : ℕ → Bool) (s : List ℕ) → ((b : ℕ) → p b ≡ true → q b ≡ true) → is_next p s ≡ true → is_next q s ≡ true
wider p q [] h e = e
wider p q (x ∷ xs) h e = h x e

int_in_term : (b : ℕ) → begins_int b ≡ true → begins_term b ≡ true
int_in_term b h = rw h refl

low_in_term : (b : ℕ) → is_ascii_lowercase b ≡ true → begins_term b ≡ true
low_in_term b h = go (begins_int b)
  where
    go : (t : Bool) → (t || (is_ascii_lowercase b || (b == 36 || (b == 64 || (b == 39 || b == 34))))) ≡ true
    go true = refl
    go false = rw h refl

int_in_selector : (b : ℕ) → begins_int b ≡ true → begins_selector b ≡ true
int_in_selector b h = rw h refl

pub int_in_slice : (b : ℕ) → begins_int b ≡ true → begins_slice b ≡ true
int_in_slice b h = rw h refl

pub slice_starts : {s t : List ℕ} {x : Option ℤ} {m : Marks} → IsOptional s (58 ∷ t) x m → is_next begins_slice s ≡ true
slice_starts no_int = refl
slice_starts (int {s} {t = u} {r} {z} {m} i b) = wider begins_int begins_slice s int_in_slice (int_begins s u z m i)

slice_in_selector : (b : ℕ) → begins_slice b ≡ true → begins_selector b ≡ true
slice_in_selector b h = ap (λ t. t || (b == 39 || (b == 34 || (b == 42 || b == 63)))) h

pub selector_begins : {s r : List ℕ} {v : Selector} {m : Marks} → IsSelector s r v m → is_next begins_selector s ≡ true
selector_begins (single_quoted e) = refl
selector_begins (double_quoted e) = refl
selector_begins every = refl
selector_begins (index {s} {r} {z} {m} i) = wider begins_int begins_selector s int_in_selector (int_begins s r z m i)
selector_begins (slice {s} o b p st) = wider begins_slice begins_selector s slice_in_selector (slice_starts o)
selector_begins (filter b d k) = refl

pub term_begins : {s r : List ℕ} {v : Term} {m : Marks} → IsTerm s r v m → is_next begins_term s ≡ true
term_begins (from_root d) = refl
term_begins (from_current d) = refl
term_begins (single_text e) = refl
term_begins (double_text e) = refl
term_begins (number {s} {r} {z} {m} e) = wider begins_int begins_term s int_in_term (number_begins s r z m e)
term_begins (true_word {s} {r} e) = wider is_ascii_lowercase begins_term s low_in_term (word_begins s r _ e)
term_begins (false_word {s} {r} e) = wider is_ascii_lowercase begins_term s low_in_term (word_begins s r _ e)
term_begins (null_word {s} {r} e) = wider is_ascii_lowercase begins_term s low_in_term (word_begins s r _ e)
term_begins (function {s} {t} {name = w} e d) = wider is_ascii_lowercase begins_term s low_in_term (word_begins s (40 ∷ t) w e)

term_in_item : (b : ℕ) → begins_term b ≡ true → begins_item b ≡ true
term_in_item b h = ap (λ t. t || (b == 33 || b == 40)) h

pub item_begins : {s r : List ℕ} {v : Term} {m : Marks} → IsItem s r v m → is_next begins_item s ≡ true
item_begins (alone {s} d) = wider begins_term begins_item s term_in_item (term_begins d)
item_begins (comparison {s} d b op c e) = wider begins_term begins_item s term_in_item (term_begins d)
item_begins (group d) = refl
item_begins (not_group b d) = refl
item_begins (not_alone b d k) = refl

pub items_begin : {s r : List ℕ} {xs : List Test} {m : Marks} → AreItems s r xs m → is_next begins_item s ≡ true
items_begin (last_item d k) = item_begins d
items_begin (more_items d k b c rest) = item_begins d

pub all_begins : {s r : List ℕ} {v : Term} {m : Marks} → IsAll s r v m → is_next begins_item s ≡ true
all_begins (one_item d) = item_begins d
all_begins (all d k) = items_begin d

pub alls_begin : {s r : List ℕ} {xs : List Test} {m : Marks} → AreAlls s r xs m → is_next begins_item s ≡ true
alls_begin (last_all d k) = all_begins d
alls_begin (more_alls d k b c rest) = all_begins d

pub expr_begins : {s r : List ℕ} {v : Term} {m : Marks} → IsExpr s r v m → is_next begins_item s ≡ true
expr_begins (one_all d) = all_begins d
expr_begins (any d k) = alls_begin d

pub exprs_begin : {s r : List ℕ} {vs : List Term} {m : Marks} → AreExprs s r vs m → is_next begins_item s ≡ true
exprs_begin (last_expr d) = expr_begins d
exprs_begin (more_exprs d b c rest) = expr_begins d

pub selectors_begin : {s r : List ℕ} {vs : List Selector} {m : Marks} → AreSelectors s r vs m → is_next begins_selector s ≡ true
selectors_begin (last_selector d) = selector_begins d
selectors_begin (more_selectors d b c rest) = selector_begins d
