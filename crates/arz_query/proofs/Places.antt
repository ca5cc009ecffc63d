-- A flaw lies in the part that has it, so that of two parts the first one's flaw comes first.
use Rattle.std.proofs.Common.{◌≡◌, ℕ, ◌≤◌, List, [], ◌∷◌, length, Bool, true, false, ℤ, Option, Some, None, ap, subst, arith, nat_lt, cond, ◌⊎◌, inl, inr}
use Rattle.arz_query.specs.Words.{joined, first_flaw}
use Rattle.arz_query.specs.Typing.{ill_unless, call_of, is_test as is_test_of, is_value as is_value_of}
use Rattle.arz_query.specs.Answers.{IsInside}
use Rattle.arz_query.specs.Grammar.{IsInt, in_range, past_range, IsNumber, whole_number, past_number, fraction, IsOptional, IsStep, IsShorthand, IsSelector, AreSelectors, IsSelection, IsSegment, AreSegments, IsExpr, AreAlls, IsAll, AreItems, IsItem, IsGroup, IsTerm, AreArguments, AreExprs, IsQuery, query, no_int, int, no_step, empty_step, step, wildcard, shorthand, no_segment, segment, child, short_child, descendant, short_descendant, selection, last_selector, more_selectors, single_quoted, double_quoted, every, index, slice, filter, one_all, any, last_all, more_alls, one_item, all, last_item, more_items, alone, comparison, group, not_group, not_alone, parentheses, from_root, from_current, single_text, double_text, number, true_word, false_word, null_word, function, no_argument, arguments, last_expr, more_exprs}
use Rattle.arz_query.specs.declared.pieces.Flaw.{Flaw}
use Rattle.arz_query.specs.declared.pieces.FlawKind.{FlawKind}
use Rattle.arz_query.specs.declared.pieces.FlawKind.TheVariants.{IllTyped}
use Rattle.arz_query.specs.declared.pieces.Marks.{Marks}
use Rattle.arz_query.specs.declared.terms.Term.{Term}
use Rattle.arz_query.specs.declared.query.Segment.{Segment}
use Rattle.arz_query.specs.declared.query.Selector.{Selector}
use Rattle.arz_query.specs.declared.query.Test.{Test}
use Rattle.arz_query.proofs.Inverse.{some_is}
use Rattle.arz_query.proofs.Tokens.{word_shorter}
use Rattle.arz_query.proofs.Figures.{int_shorter, number_shorter}
use Rattle.arz_query.proofs.Shorter.{blank_shorter}
use Rattle.arz_query.proofs.Lengths.{operator_shorter, segments_shorter, segment_shorter, selectors_shorter, selector_shorter, expr_shorter, alls_shorter, all_shorter, items_shorter, item_shorter, term_shorter, exprs_shorter, arguments_shorter, optional_shorter, step_shorter}

nowhere : (s r : List ℕ) (single : Bool) → IsInside s r (record { flaw = None; single = single })
nowhere s r single f e = cc

at_start : (s r : List ℕ) (kind : FlawKind) (single : Bool) → length r ≤ length s → IsInside s r (record { flaw = Some (record { kind = kind; left = length s }); single = single })
at_start s r kind single h f e = let left : length s ≡ f.left = ap (λ (g : Flaw). g.left) (some_is e) in (subst (λ n. length r ≤ n) left h, subst (λ n. n ≤ length s) left (omega arith))

wider : (s t u r : List ℕ) (m : Marks) → length t ≤ length s → length r ≤ length u → IsInside t u m → IsInside s r m
wider s t u r m h k is f e = let p = is f e in (omega (arith, p.0, p.1), omega (arith, p.0, p.1))

one_of : (a b : Option Flaw) (f : Flaw) → first_flaw a b ≡ Some f → (a ≡ Some f) ⊎ (b ≡ Some f)
one_of None b f e = inr e
one_of (Some x) None f e = inl e
one_of (Some x) (Some y) f e = go (nat_lt x.left y.left) e
  where
    go : (t : Bool) → cond t (Some y) (Some x) ≡ Some f → (Some x ≡ Some f) ⊎ (Some y ≡ Some f)
    go true e = inr e
    go false e = inl e

both : (s t u r : List ℕ) (m n : Marks) → length r ≤ length t → length u ≤ length s → IsInside s t m → IsInside u r n → IsInside s r (joined m n)
both s t u r m n h k a b f e =
    elim (one_of m.flaw n.flaw f e) [
      | inl w ↦ let p = a f w in (omega (arith, p.0, p.1), p.1)
      | inr w ↦ let p = b f w in (p.0, omega (arith, p.0, p.1))
    ]

ill : (b : Bool) (s r : List ℕ) (m : Marks) → length r ≤ length s → IsInside s r m → IsInside s r (ill_unless b (length s) m)
ill true s r m h is f e = is f e
ill false s r m h is f e =
    elim (one_of (Some (record { kind = IllTyped; left = length s })) m.flaw f e) [
      | inl w ↦ at_start s r IllTyped true h f w
      | inr w ↦ is f w
    ]

int_inside : {s r : List ℕ} {z : ℤ} {m : Marks} → IsInt s r z m → IsInside s r m
int_inside (in_range {s} {r} w h) = nowhere s r true
int_inside (past_range {s} {r} {ds} {n} w h) = at_start s r _ true (int_shorter s r _ _ (past_range w h))

number_inside : {s r : List ℕ} {z : ℤ} {m : Marks} → IsNumber s r z m → IsInside s r m
number_inside (whole_number {s} {r} w h k) = nowhere s r true
number_inside (past_number {s} {r} w h k) = at_start s r _ true (number_shorter s r _ _ (past_number w h k))
number_inside (fraction {s} {t} {r} w f) = at_start s r _ true (number_shorter s r _ _ (fraction w f))

optional_inside : {s r : List ℕ} {x : Option ℤ} {m : Marks} → IsOptional s r x m → IsInside s r m
optional_inside (no_int {s}) = nowhere s s true
optional_inside (int {s} {t} {r} {z} {m} i b) = wider s s t r m (omega arith) (blank_shorter b) (int_inside i)

step_inside : {s r : List ℕ} {z : ℤ} {m : Marks} → IsStep s r z m → IsInside s r m
step_inside (no_step {r} k) = nowhere r r true
step_inside (empty_step {r}) = nowhere (58 ∷ r) r true
step_inside (step {s} {t} {r} {z} {m} b i) = wider (58 ∷ s) t r r m (omega (arith, blank_shorter b)) (omega arith) (int_inside i)

shorthand_inside : {s r : List ℕ} {vs : List Selector} {m : Marks} → IsShorthand s r vs m → IsInside s r m
shorthand_inside (wildcard {r}) = nowhere (42 ∷ r) r false
shorthand_inside (shorthand {s} {r} e) = nowhere s r true

mutual
  pub segments_inside : {s r : List ℕ} {vs : List Segment} {m : Marks} → AreSegments s r vs m → IsInside s r m
  segments_inside (no_segment {s}) = nowhere s s true
  segments_inside (segment {s} {t} {u} {r} {v} {vs} {m} {n} b d rest) =
      wider s t r r (joined m n) (blank_shorter b) (omega arith)
      (both t u u r m n (segments_shorter rest) (omega (arith, segment_shorter d)) (segment_inside d) (segments_inside rest))

  segment_inside : {s r : List ℕ} {v : Segment} {m : Marks} → IsSegment s r v m → IsInside s r m
  segment_inside (child {s} {r} {vs} {m} d) = wider (91 ∷ s) s r r m (omega arith) (omega arith) (selection_inside d)
  segment_inside (short_child {s} {r} {vs} {m} d) = wider (46 ∷ s) s r r m (omega arith) (omega arith) (shorthand_inside d)
  segment_inside (descendant {s} {r} {vs} {m} d) = wider (46 ∷ 46 ∷ 91 ∷ s) s r r m (omega arith) (omega arith) (selection_inside d)
  segment_inside (short_descendant {s} {r} {vs} {m} d) = wider (46 ∷ 46 ∷ s) s r r m (omega arith) (omega arith) (shorthand_inside d)

  selection_inside : {s r : List ℕ} {vs : List Selector} {m : Marks} → IsSelection s r vs m → IsInside s r m
  selection_inside (selection {s} {t} {u} {r} {vs} {m} b d c) = wider s t u r m (blank_shorter b) (omega (arith, blank_shorter c)) (selectors_inside d)

  selectors_inside : {s r : List ℕ} {vs : List Selector} {m : Marks} → AreSelectors s r vs m → IsInside s r m
  selectors_inside (last_selector d) = selector_inside d
  selectors_inside (more_selectors {s} {t} {u} {w} {r} {v} {vs} {m} {n} d b c rest) =
      both s t w r m n (omega (arith, blank_shorter b, blank_shorter c, selectors_shorter rest)) (omega (arith, selector_shorter d, blank_shorter b, blank_shorter c)) (selector_inside d) (selectors_inside rest)

  selector_inside : {s r : List ℕ} {v : Selector} {m : Marks} → IsSelector s r v m → IsInside s r m
  selector_inside (single_quoted {s} {r} e) = nowhere (39 ∷ s) r true
  selector_inside (double_quoted {s} {r} e) = nowhere (34 ∷ s) r true
  selector_inside (every {r}) = nowhere (42 ∷ r) r false
  selector_inside (index i) = int_inside i
  selector_inside (slice {s} {t} {u} {w} {r} {x} {y} {z} {m} {n} {o} a b c d) =
      let i = optional_shorter a in
      let j = blank_shorter b in
      let k = optional_shorter c in
      let l = step_shorter d in
      both s w w r (joined m n) o l (omega arith) (both s (58 ∷ t) u w m n (omega arith) (omega arith) (optional_inside a) (optional_inside c)) (step_inside d)
  selector_inside (filter {s} {t} {r} {v} {x} {m} b d k) =
      wider (63 ∷ s) t r r (ill_unless (is_test_of v) (length t) m) (omega (arith, blank_shorter b)) (omega arith) (ill (is_test_of v) t r m (expr_shorter d) (expr_inside d))

  expr_inside : {s r : List ℕ} {v : Term} {m : Marks} → IsExpr s r v m → IsInside s r m
  expr_inside (one_all d) = all_inside d
  expr_inside (any d k) = alls_inside d

  alls_inside : {s r : List ℕ} {xs : List Test} {m : Marks} → AreAlls s r xs m → IsInside s r m
  alls_inside (last_all {s} {r} {v} {x} {m} d k) = ill (is_test_of v) s r m (all_shorter d) (all_inside d)
  alls_inside (more_alls {s} {t} {u} {w} {r} {v} {x} {xs} {m} {n} d k b c rest) =
      both s t w r (ill_unless (is_test_of v) (length s) m) n (omega (arith, blank_shorter b, blank_shorter c, alls_shorter rest)) (omega (arith, all_shorter d, blank_shorter b, blank_shorter c))
      (ill (is_test_of v) s t m (all_shorter d) (all_inside d)) (alls_inside rest)

  all_inside : {s r : List ℕ} {v : Term} {m : Marks} → IsAll s r v m → IsInside s r m
  all_inside (one_item d) = item_inside d
  all_inside (all d k) = items_inside d

  items_inside : {s r : List ℕ} {xs : List Test} {m : Marks} → AreItems s r xs m → IsInside s r m
  items_inside (last_item {s} {r} {v} {x} {m} d k) = ill (is_test_of v) s r m (item_shorter d) (item_inside d)
  items_inside (more_items {s} {t} {u} {w} {r} {v} {x} {xs} {m} {n} d k b c rest) =
      both s t w r (ill_unless (is_test_of v) (length s) m) n (omega (arith, blank_shorter b, blank_shorter c, items_shorter rest)) (omega (arith, item_shorter d, blank_shorter b, blank_shorter c))
      (ill (is_test_of v) s t m (item_shorter d) (item_inside d)) (items_inside rest)

  item_inside : {s r : List ℕ} {v : Term} {m : Marks} → IsItem s r v m → IsInside s r m
  item_inside (alone d) = term_inside d
  item_inside (comparison {s} {t} {u} {w} {a} {r} {v} {o} {b} {m} {n} d l op c e) =
      let i = term_shorter d in
      let j = blank_shorter l in
      let h = operator_shorter op in
      let g = blank_shorter c in
      let k = term_shorter e in
      both s t a r (ill_unless (is_value_of v) (length s) m) (ill_unless (is_value_of o) (length a) n) (omega arith) (omega arith)
      (ill (is_value_of v) s t m i (term_inside d)) (ill (is_value_of o) a r n k (term_inside e))
  item_inside (group {s} {r} {x} {m} d) = wider (40 ∷ s) s r r m (omega arith) (omega arith) (group_inside d)
  item_inside (not_group {s} {t} {r} {x} {m} b d) = wider (33 ∷ s) t r r m (omega (arith, blank_shorter b)) (omega arith) (group_inside d)
  item_inside (not_alone {s} {t} {r} {v} {x} {m} b d k) =
      wider (33 ∷ s) t r r (ill_unless (is_test_of v) (length t) m) (omega (arith, blank_shorter b)) (omega arith) (ill (is_test_of v) t r m (term_shorter d) (term_inside d))

  group_inside : {s r : List ℕ} {x : Test} {m : Marks} → IsGroup s r x m → IsInside s r m
  group_inside (parentheses {s} {t} {u} {r} {v} {x} {m} b d k c) =
      wider s t u r (ill_unless (is_test_of v) (length t) m) (blank_shorter b) (omega (arith, blank_shorter c)) (ill (is_test_of v) t u m (expr_shorter d) (expr_inside d))

  term_inside : {s r : List ℕ} {v : Term} {m : Marks} → IsTerm s r v m → IsInside s r m
  term_inside (from_root {s} {r} {vs} {m} d) = wider (36 ∷ s) s r r m (omega arith) (omega arith) (segments_inside d)
  term_inside (from_current {s} {r} {vs} {m} d) = wider (64 ∷ s) s r r m (omega arith) (omega arith) (segments_inside d)
  term_inside (single_text {s} {r} e) = nowhere (39 ∷ s) r true
  term_inside (double_text {s} {r} e) = nowhere (34 ∷ s) r true
  term_inside (number e) = number_inside e
  term_inside (true_word {s} {r} e) = nowhere s r true
  term_inside (false_word {s} {r} e) = nowhere s r true
  term_inside (null_word {s} {r} e) = nowhere s r true
  term_inside (function {s} {t} {r} {name = w} {vs} {m} e d) =
      let i = word_shorter s (40 ∷ t) w e in
      let j = arguments_shorter d in
      ill (call_of w vs).1 s r m (omega arith) (wider s t r r m (omega arith) (omega arith) (arguments_inside d))

  arguments_inside : {s r : List ℕ} {vs : List Term} {m : Marks} → AreArguments s r vs m → IsInside s r m
  arguments_inside (no_argument {s} {r} b) = nowhere s r true
  arguments_inside (arguments {s} {t} {u} {r} {vs} {m} b d c) = wider s t u r m (blank_shorter b) (omega (arith, blank_shorter c)) (exprs_inside d)

  exprs_inside : {s r : List ℕ} {vs : List Term} {m : Marks} → AreExprs s r vs m → IsInside s r m
  exprs_inside (last_expr d) = expr_inside d
  exprs_inside (more_exprs {s} {t} {u} {w} {r} {v} {vs} {m} {n} d b c rest) =
      both s t w r m n (omega (arith, blank_shorter b, blank_shorter c, exprs_shorter rest)) (omega (arith, expr_shorter d, blank_shorter b, blank_shorter c)) (expr_inside d) (exprs_inside rest)

pub query_inside : (text : List ℕ) (vs : List Segment) (m : Marks) → IsQuery text vs m → IsInside text [] m
query_inside text vs m (query {s} d) = wider (36 ∷ s) s [] [] m (omega arith) (omega arith) (segments_inside d)
