-- What is in the grammar is read, whatever follows: expressions and whole queries.
use Rattle.std.proofs.Common.{◌≡◌, ℕ, suc, ◌-◌, ◌≤◌, ◌<◌, ◌==◌, List, [], ◌∷◌, length, true, false, cond, Option, Some, None, option_map, option_and_then, refl, ap, ◌∙◌, arith, codes}
use Rattle.arz_query.specs.Words.{Read, Reader, joined, chosen, with_value, with_rest, with_front, no_more, more_at, items_at}
use Rattle.arz_query.specs.Lexical.{after_byte, after_pair, is_next, is_of, skip_blanks}
use Rattle.arz_query.specs.Typing.{as_test, tested_as, test_of, is_test, ill_unless}
use Rattle.arz_query.specs.Grammar.{IsBlank, IsSelector, AreSelectors, IsSelection, IsSegment, AreSegments, IsExpr, AreAlls, IsAll, AreItems, IsItem, IsGroup, IsTerm, AreArguments, AreExprs, IsQuery, query, no_segment, segment, child, short_child, descendant, short_descendant, selection, last_selector, more_selectors, single_quoted, double_quoted, every, index, slice, filter, one_all, any, last_all, more_alls, one_item, all, last_item, more_items, alone, comparison, group, not_group, not_alone, parentheses, from_root, from_current, single_text, double_text, number, true_word, false_word, null_word, function, no_argument, arguments, last_expr, more_exprs}
use Rattle.arz_query.specs.Reading.{begins_segment, named, filtered, tested, selector_of, comma, closed_by, selection_closed, selection_of, shorthand_at, descendant_of, segment_of, segment_start, segments_of, literal, nodes, keyword_of, closed, arguments_of, called, word_of, term_of, comparison_at, compared, other_of, compared_with, compared_of, group_of, negated, negated_of, item_of, chain_all, chained, all_of, any_of, expr_at, whole, reading}
use Rattle.arz_query.specs.declared.words.Class.TheVariants as class
use Rattle.arz_query.specs.declared.pieces.Marks.{Marks}
use Rattle.arz_query.specs.declared.terms.Term.{Term}
use Rattle.arz_query.specs.declared.terms.Term.TheVariants as term
use Rattle.arz_query.specs.declared.query.Segment.{Segment}
use Rattle.arz_query.specs.declared.query.Segment.TheVariants.{Child}
use Rattle.arz_query.specs.declared.query.Selector.{Selector}
use Rattle.arz_query.specs.declared.query.Operand.TheVariants as operand
use Rattle.arz_query.specs.declared.query.Test.{Test}
use Rattle.arz_query.specs.declared.query.Test.TheVariants.{Any, All}
use Rattle.arz_query.specs.declared.query.Start.TheVariants.{Root, Current}
use Rattle.arz_query.proofs.Inverse.{skipped}
use Rattle.arz_query.specs.Reading.{descendant as descendant_at}
use Rattle.arz_query.proofs.Lists.{taken, some_room}
use Rattle.arz_query.proofs.Tokens.{word_shorter, word_from, string_from, single, double, no_byte, tight}
use Rattle.arz_query.proofs.Figures.{number_begins, number_given}
use Rattle.arz_query.proofs.Shorter.{blank_shorter}
use Rattle.arz_query.proofs.Lengths.{operator_shorter, segment_shorter, selector_shorter, all_shorter, item_shorter, expr_shorter, term_shorter, segment_begins, shorthand_begins, begins_term, begins_item, begins_selector, term_begins, items_begin, alls_begin, expr_begins, selectors_begin, exprs_begin}
use Rattle.arz_query.proofs.Follow.{given, items, behind_mark, last_given, more_given, ends_more, closes, follows_all, follows_item, follows_term, Next, to_all, to_item, to_term, after_blanks, next_after, no_pair, pair_given, comma_given, no_comma, no_operator, no_segment_start, no_call}
use Rattle.arz_query.proofs.CompleteParts.{selector_index, selector_slice, shorthand_given, operator_given, operator_begins, no_equal, term_number, term_word, item_compared, keyword_given, tested_given}

-- ---- small steps

blank_free : (s : List ℕ) → is_next begins_item s ≡ true → is_next (is_of class.Blank) s ≡ false
blank_free s h = tight begins_item s h refl refl refl refl

term_free : (s : List ℕ) → is_next begins_term s ≡ true → is_next (is_of class.Blank) s ≡ false
term_free s h = tight begins_term s h refl refl refl refl

selector_free : (s : List ℕ) → is_next begins_selector s ≡ true → is_next (is_of class.Blank) s ≡ false
selector_free s h = tight begins_selector s h refl refl refl refl

segment_free : (s : List ℕ) → is_next begins_segment s ≡ true → is_next (is_of class.Blank) s ≡ false
segment_free s h = tight begins_segment s h refl refl refl refl

start_given : {s t : List ℕ} → IsBlank s t → is_next begins_segment t ≡ true → segment_start s ≡ Some t
unfolding segment_start
start_given {s} {t} b h = ap (λ (x : List ℕ). cond (is_next begins_segment x) (Some x) None) (skipped b (segment_free t h)) ∙ ap (λ c. cond c (Some t) None) h

-- what closes is no argument's or selector's comma
no_comma_then : {t r : List ℕ} (b : ℕ) → IsBlank t (b ∷ r) → is_of class.Blank b ≡ false → (b == 44) ≡ false → comma t ≡ None
no_comma_then b k h e = no_comma b k h e

closed_given : {V : Type 0} (v : V) (m : Marks) (u r : List ℕ) → IsBlank u (41 ∷ r) → closed (record { value = v; marks = m; rest = u }) ≡ given v m r
closed_given {V} v m u r b = ap (λ x. option_map (with_rest (let o : Read V = record { value = v; marks = m; rest = u } in o)) (after_byte 41 x)) (after_blanks 41 b refl)

-- several tests, where the list of them is read
chain_given : (mark : ℕ) (make : List Test → Test) (item : Reader Term) (s t w r : List ℕ) (v : Term) (x : Test) (xs : List Test) (m n : Marks) (k : ℕ) → length s ≡ suc k →
    item s ≡ given v m t → test_of v ≡ Some x → after_pair mark t ≡ Some w → items k (after_pair mark) (tested item) w ≡ given xs n r →
    option_and_then (chained mark make item s) (item s) ≡ given (term.Logical (make (x ∷ xs))) (joined (ill_unless (is_test v) (length s) m) n) r
chain_given mark make item s t w r v x xs m n k fuel e is c rest =
    let one : Read Term = record { value = v; marks = m; rest = t } in
    let first : Read Test = tested_as (length s) one x in
    ap (option_and_then (chained mark make item s)) e
    ∙ ap (λ q. chosen q (λ t. option_and_then (chain_all mark make item s) (as_test (length s) one)) (Some one)) c
    ∙ ap (λ q. option_and_then (chain_all mark make item s) (option_map (tested_as (length s) one) q)) is
    ∙ ap (option_map (λ (more : Read (List Test)). with_value (λ ts. term.Logical (make ts)) (with_front (x ∷ []) first.marks more)))
    (behind_mark (length s) k (after_pair mark) (tested item) t w fuel c ∙ rest)

alone_given : (mark : ℕ) (make : List Test → Test) (item : Reader Term) (s r : List ℕ) (v : Term) (m : Marks) → item s ≡ given v m r → after_pair mark r ≡ None →
    option_and_then (chained mark make item s) (item s) ≡ given v m r
alone_given mark make item s r v m e c =
    let one : Read Term = record { value = v; marks = m; rest = r } in
    ap (option_and_then (chained mark make item s)) e
    ∙ ap (λ q. chosen q (λ t. option_and_then (chain_all mark make item s) (as_test (length s) one)) (Some one)) c

-- with room for one more
from_room : (n : ℕ) (s : List ℕ) (o : Option (Read Term)) → 0 < n → any_of (expr_at (n - 1)) s ≡ o → expr_at n s ≡ o
from_room n s o room e = some_room n s room ∙ e

mutual
  unfolding segment_of selection_of items_at selector_of any_of all_of item_of negated_of compared_of group_of segments_of keyword_of word_of term_of arguments_of

  pub segments_given : {s r : List ℕ} {vs : List Segment} {m : Marks} → AreSegments s r vs m → (k : ℕ) → length s ≤ k → segment_start r ≡ None → (f : ℕ) → length s ≤ f →
      more_at f segment_start (segment_of (expr_at k)) s ≡ given vs m r
  segments_given {s} no_segment k room ends f fuel = ends_more f segment_start (segment_of (expr_at k)) s ends
  segments_given (segment {s} {t} {u} {r} {v} {vs} {m} {n} b d rest) k room ends f fuel =
      let short = segment_shorter d in
      let shorter = blank_shorter b in
      let item = segment_given d k (omega arith) in
      behind_mark f (f - 1) segment_start (segment_of (expr_at k)) s t (omega arith) (start_given b (segment_begins d))
      ∙ ap (option_and_then (taken (f - 1) segment_start (segment_of (expr_at k)))) item
      ∙ ap (option_map (with_front (v ∷ []) m)) (segments_given rest k (omega arith) ends (f - 1) (omega arith))

  pub segment_given : {s r : List ℕ} {v : Segment} {m : Marks} → IsSegment s r v m → (k : ℕ) → length s ≤ k → segment_of (expr_at k) s ≡ given v m r
  segment_given (child d) k room = ap (option_map (with_value Child)) (selection_given d k (omega arith))
  segment_given (short_child {s} {r} {vs} {m} d) k room =
      ap (λ c. chosen c (descendant_of (expr_at k)) (option_map (with_value Child) (shorthand_at s))) (shorthand_begins d).1
      ∙ ap (option_map (with_value Child)) (shorthand_given d)
  segment_given (descendant d) k room = ap (option_map descendant_at) (selection_given d k (omega arith))
  segment_given (short_descendant {s} d) k room =
      ap (λ c. option_map descendant_at (chosen c (selection_of (expr_at k)) (shorthand_at s))) (shorthand_begins d).0
      ∙ ap (option_map descendant_at) (shorthand_given d)

  pub selection_given : {s r : List ℕ} {vs : List Selector} {m : Marks} → IsSelection s r vs m → (k : ℕ) → length s ≤ k → selection_of (expr_at k) s ≡ given vs m r
  selection_given (selection {s} {t} {u} {r} {vs} {m} b d c) k room =
      let shorter = blank_shorter b in
      ap (λ x. option_and_then (selection_closed s) (items (length x) comma (selector_of (expr_at k)) x)) (skipped b (selector_free t (selectors_begin d)))
      ∙ ap (option_and_then (selection_closed s)) (selectors_given d k (omega arith) (next_after closes 93 c refl refl) (no_comma 93 c refl refl) (length t) (omega arith))
      ∙ ap (λ x. option_map (closed_by s (record { value = vs; marks = m; rest = u })) (after_byte 93 x)) (after_blanks 93 c refl)

  selectors_given : {s r : List ℕ} {vs : List Selector} {m : Marks} → AreSelectors s r vs m → (k : ℕ) → length s ≤ k → Next closes r → comma r ≡ None → (f : ℕ) → length s ≤ f →
      items f comma (selector_of (expr_at k)) s ≡ given vs m r
  selectors_given (last_selector {s} {r} {v} {m} d) k room next ends f fuel = last_given f comma (selector_of (expr_at k)) s r v m (selector_given d k room next) ends
  selectors_given (more_selectors {s} {t} {u} {w} {r} {v} {vs} {m} {n} d b c rest) k room next ends f fuel =
      let one = selector_shorter d in
      let two = blank_shorter b in
      let three = blank_shorter c in
      more_given f (f - 1) comma (selector_of (expr_at k)) s t w r v vs m n (omega arith)
      (selector_given d k room (next_after closes 44 b refl refl)) (comma_given b c (selector_free w (selectors_begin rest)))
      (selectors_given rest k (omega arith) next ends (f - 1) (omega arith))

  selector_given : {s r : List ℕ} {v : Selector} {m : Marks} → IsSelector s r v m → (k : ℕ) → length s ≤ k → Next closes r → selector_of (expr_at k) s ≡ given v m r
  selector_given (single_quoted {s} {r} {name = n} e) k room next = ap (option_map named) (string_from 39 single s r n e)
  selector_given (double_quoted {s} {r} {name = n} e) k room next = ap (option_map named) (string_from 34 double s r n e)
  selector_given every k room next = refl
  selector_given (index {s} {r} {z} {m} i) k room next = selector_index (expr_at k) s r z m i next
  selector_given (slice o b p st) k room next = selector_slice (expr_at k) o b p st next
  selector_given (filter {s} {t} {r} {v} {x} {m} b d is) k room next =
      let shorter = blank_shorter b in
      ap (λ y. option_map filtered (tested (expr_at k) y)) (skipped b (blank_free t (expr_begins d)))
      ∙ ap (option_map filtered) (tested_given (expr_at k) t r v x m (from_room k t (given v m r) (omega arith) (any_given d (k - 1) (omega arith) next)) is)

  any_given : {s r : List ℕ} {v : Term} {m : Marks} → IsExpr s r v m → (k : ℕ) → length s ≤ k → Next closes r → any_of (expr_at k) s ≡ given v m r
  any_given (one_all {s} {r} {v} {m} d) k room next =
      alone_given 124 Any (all_of (expr_at k)) s r v m (all_given d k room (to_all r next)) (no_pair 124 closes r next refl)
  any_given (any (last_all d is) k') k room next = cc
  any_given (any (more_alls {s} {t} {u} {w} {r} {v} {x} {xs} {m} {n} d is b c rest) k') k room next =
      let one = all_shorter d in
      let two = blank_shorter b in
      let three = blank_shorter c in
      chain_given 124 Any (all_of (expr_at k)) s t w r v x xs m n (length s - 1) (omega arith)
      (all_given d k room (next_after follows_all 124 b refl refl)) is (pair_given 124 b refl (λ x. refl) c (blank_free w (alls_begin rest)))
      (alls_given rest k (omega arith) next (length s - 1) (omega arith))

  alls_given : {s r : List ℕ} {xs : List Test} {m : Marks} → AreAlls s r xs m → (k : ℕ) → length s ≤ k → Next closes r → (f : ℕ) → length s ≤ f →
      items f (after_pair 124) (tested (all_of (expr_at k))) s ≡ given xs m r
  alls_given (last_all {s} {r} {v} {x} {m} d is) k room next f fuel =
      last_given f (after_pair 124) (tested (all_of (expr_at k))) s r x (ill_unless (is_test v) (length s) m)
      (tested_given (all_of (expr_at k)) s r v x m (all_given d k room (to_all r next)) is) (no_pair 124 closes r next refl)
  alls_given (more_alls {s} {t} {u} {w} {r} {v} {x} {xs} {m} {n} d is b c rest) k room next f fuel =
      let one = all_shorter d in
      let two = blank_shorter b in
      let three = blank_shorter c in
      more_given f (f - 1) (after_pair 124) (tested (all_of (expr_at k))) s t w r x xs (ill_unless (is_test v) (length s) m) n (omega arith)
      (tested_given (all_of (expr_at k)) s t v x m (all_given d k room (next_after follows_all 124 b refl refl)) is)
      (pair_given 124 b refl (λ x. refl) c (blank_free w (alls_begin rest))) (alls_given rest k (omega arith) next (f - 1) (omega arith))

  all_given : {s r : List ℕ} {v : Term} {m : Marks} → IsAll s r v m → (k : ℕ) → length s ≤ k → Next follows_all r → all_of (expr_at k) s ≡ given v m r
  all_given (one_item {s} {r} {v} {m} d) k room next =
      alone_given 38 All (item_of (expr_at k)) s r v m (item_given d k room (to_item r next)) (no_pair 38 follows_all r next refl)
  all_given (all (last_item d is) k') k room next = cc
  all_given (all (more_items {s} {t} {u} {w} {r} {v} {x} {xs} {m} {n} d is b c rest) k') k room next =
      let one = item_shorter d in
      let two = blank_shorter b in
      let three = blank_shorter c in
      chain_given 38 All (item_of (expr_at k)) s t w r v x xs m n (length s - 1) (omega arith)
      (item_given d k room (next_after follows_item 38 b refl refl)) is (pair_given 38 b refl (λ x. refl) c (blank_free w (items_begin rest)))
      (items_given rest k (omega arith) next (length s - 1) (omega arith))

  items_given : {s r : List ℕ} {xs : List Test} {m : Marks} → AreItems s r xs m → (k : ℕ) → length s ≤ k → Next follows_all r → (f : ℕ) → length s ≤ f →
      items f (after_pair 38) (tested (item_of (expr_at k))) s ≡ given xs m r
  items_given (last_item {s} {r} {v} {x} {m} d is) k room next f fuel =
      last_given f (after_pair 38) (tested (item_of (expr_at k))) s r x (ill_unless (is_test v) (length s) m)
      (tested_given (item_of (expr_at k)) s r v x m (item_given d k room (to_item r next)) is) (no_pair 38 follows_all r next refl)
  items_given (more_items {s} {t} {u} {w} {r} {v} {x} {xs} {m} {n} d is b c rest) k room next f fuel =
      let one = item_shorter d in
      let two = blank_shorter b in
      let three = blank_shorter c in
      more_given f (f - 1) (after_pair 38) (tested (item_of (expr_at k))) s t w r x xs (ill_unless (is_test v) (length s) m) n (omega arith)
      (tested_given (item_of (expr_at k)) s t v x m (item_given d k room (next_after follows_item 38 b refl refl)) is)
      (pair_given 38 b refl (λ x. refl) c (blank_free w (items_begin rest))) (items_given rest k (omega arith) next (f - 1) (omega arith))

  item_given : {s r : List ℕ} {v : Term} {m : Marks} → IsItem s r v m → (k : ℕ) → length s ≤ k → Next follows_item r → item_of (expr_at k) s ≡ given v m r
  item_given (alone {s} {r} {v} {m} d) k room next =
      let one : Read Term = record { value = v; marks = m; rest = r } in
      item_compared (expr_at k) s (term_begins d)
      ∙ ap (option_and_then (compared_with (expr_at k) (length s))) (term_given d k room (to_term r next))
      ∙ ap (λ q. chosen q (other_of (expr_at k) (length s) one) (Some one)) (no_operator r next)
  item_given (comparison {s} {t} {u} {w} {a} {r} {v} {o} {b} {m} {n} d l op c e) k room next =
      let one : Read Term = record { value = v; marks = m; rest = t } in
      let starts = operator_begins op in
      let i = term_shorter d in
      let j = blank_shorter l in
      let h = operator_shorter op in
      let g = blank_shorter c in
      let after : skip_blanks t ≡ u = skipped l starts.1 in
      item_compared (expr_at k) s (term_begins d)
      ∙ ap (option_and_then (compared_with (expr_at k) (length s))) (term_given d k room (ap (is_next follows_term) after ∙ starts.0))
      ∙ ap (λ y. chosen (comparison_at y) (other_of (expr_at k) (length s) one) (Some one)) after
      ∙ ap (λ q. chosen q (other_of (expr_at k) (length s) one) (Some one)) (operator_given op (no_equal c (term_begins e)))
      ∙ ap (λ y. option_map (compared (length s) one b (length y)) (term_of (expr_at k) y)) (skipped c (term_free a (term_begins e)))
      ∙ ap (option_map (compared (length s) one b (length a))) (term_given e k (omega arith) (to_term r next))
  item_given (group d) k room next = ap (option_map (with_value term.Logical)) (group_given d k (omega arith))
  item_given (not_group {s} {t} b d) k room next =
      let shorter = blank_shorter b in
      ap (λ y. option_map negated (chosen (after_byte 40 y) (group_of (expr_at k)) (tested (term_of (expr_at k)) y))) (after_blanks 40 b refl)
      ∙ ap (option_map negated) (group_given d k (omega arith))
  item_given (not_alone {s} {t} {r} {v} {x} {m} b d is) k room next =
      let shorter = blank_shorter b in
      ap (λ y. option_map negated (chosen (after_byte 40 y) (group_of (expr_at k)) (tested (term_of (expr_at k)) y))) (skipped b (term_free t (term_begins d)))
      ∙ ap (λ q. option_map negated (chosen q (group_of (expr_at k)) (tested (term_of (expr_at k)) t))) (no_byte begins_term 40 t (term_begins d) refl)
      ∙ ap (option_map negated) (tested_given (term_of (expr_at k)) t r v x m (term_given d k (omega arith) (to_term r next)) is)

  group_given : {s r : List ℕ} {x : Test} {m : Marks} → IsGroup s r x m → (k : ℕ) → length s < k → group_of (expr_at k) s ≡ given x m r
  group_given (parentheses {s} {t} {u} {r} {v} {x} {m} b d is c) k room =
      let shorter = blank_shorter b in
      ap (λ y. option_and_then closed (tested (expr_at k) y)) (skipped b (blank_free t (expr_begins d)))
      ∙ ap (option_and_then closed) (tested_given (expr_at k) t u v x m (from_room k t (given v m u) (omega arith) (any_given d (k - 1) (omega arith) (next_after closes 41 c refl refl))) is)
      ∙ closed_given x (ill_unless (is_test v) (length t) m) u r c

  term_given : {s r : List ℕ} {v : Term} {m : Marks} → IsTerm s r v m → (k : ℕ) → length s ≤ k → Next follows_term r → term_of (expr_at k) s ≡ given v m r
  term_given (from_root {s} {r} d) k room next = ap (option_map (nodes Root)) (segments_given d k (omega arith) (no_segment_start r next) (length s) (omega arith))
  term_given (from_current {s} {r} d) k room next = ap (option_map (nodes Current)) (segments_given d k (omega arith) (no_segment_start r next) (length s) (omega arith))
  term_given (single_text {s} {r} {text = x} e) k room next = ap (option_map (λ (t : List ℕ × List ℕ). literal (operand.Text t.0) t.1)) (string_from 39 single s r x e)
  term_given (double_text {s} {r} {text = x} e) k room next = ap (option_map (λ (t : List ℕ × List ℕ). literal (operand.Text t.0) t.1)) (string_from 34 double s r x e)
  term_given (number {s} {r} {z} {m} e) k room next = term_number (expr_at k) s (number_begins s r z m e) ∙ ap (option_map (with_value (λ n. term.Literal (operand.Int n)))) (number_given e)
  term_given (true_word {s} {r} e) k room next = keyword_given (expr_at k) s r (codes "true") (literal (operand.Flag true) r) e (no_call r next) refl
  term_given (false_word {s} {r} e) k room next = keyword_given (expr_at k) s r (codes "false") (literal (operand.Flag false) r) e (no_call r next) refl
  term_given (null_word {s} {r} e) k room next = keyword_given (expr_at k) s r (codes "null") (literal operand.Null r) e (no_call r next) refl
  term_given (function {s} {t} {r} {name = w} {vs} {m} e d) k room next =
      let shorter = word_shorter s (40 ∷ t) w e in
      let f = word_from s (40 ∷ t) w e in
      term_word (expr_at k) s f.0
      ∙ ap (λ (c : List ℕ × List ℕ). chosen (after_byte 40 c.1) (λ t. option_map (called (length s) c.0) (arguments_of (expr_at k) t)) (keyword_of c.0 c.1)) f.1
      ∙ ap (option_map (called (length s) w)) (arguments_given d k (omega arith))

  arguments_given : {s r : List ℕ} {vs : List Term} {m : Marks} → AreArguments s r vs m → (k : ℕ) → length s < k → arguments_of (expr_at k) s ≡ given vs m r
  arguments_given (no_argument {s} {r} b) k room =
      ap (λ y. chosen (after_byte 41 y) (λ t. Some (no_more t)) (option_and_then closed (items (length y) comma (expr_at k) y))) (after_blanks 41 b refl)
  arguments_given (arguments {s} {t} {u} {r} {vs} {m} b d c) k room =
      let shorter = blank_shorter b in
      ap (λ y. chosen (after_byte 41 y) (λ t. Some (no_more t)) (option_and_then closed (items (length y) comma (expr_at k) y))) (skipped b (blank_free t (exprs_begin d)))
      ∙ ap (λ q. chosen q (λ t. Some (no_more t)) (option_and_then closed (items (length t) comma (expr_at k) t))) (no_byte begins_item 41 t (exprs_begin d) refl)
      ∙ ap (option_and_then closed) (exprs_given d k (omega arith) (next_after closes 41 c refl refl) (no_comma 41 c refl refl) (length t) (omega arith))
      ∙ closed_given vs m u r c

  exprs_given : {s r : List ℕ} {vs : List Term} {m : Marks} → AreExprs s r vs m → (k : ℕ) → length s < k → Next closes r → comma r ≡ None → (f : ℕ) → length s ≤ f →
      items f comma (expr_at k) s ≡ given vs m r
  exprs_given (last_expr {s} {r} {v} {m} d) k room next ends f fuel = last_given f comma (expr_at k) s r v m (from_room k s (given v m r) (omega arith) (any_given d (k - 1) (omega arith) next)) ends
  exprs_given (more_exprs {s} {t} {u} {w} {r} {v} {vs} {m} {n} d b c rest) k room next ends f fuel =
      let one = expr_shorter d in
      let two = blank_shorter b in
      let three = blank_shorter c in
      more_given f (f - 1) comma (expr_at k) s t w r v vs m n (omega arith)
      (from_room k s (given v m t) (omega arith) (any_given d (k - 1) (omega arith) (next_after closes 44 b refl refl))) (comma_given b c (blank_free w (exprs_begin rest)))
      (exprs_given rest k (omega arith) next ends (f - 1) (omega arith))

-- a whole text of the grammar is read as what it spells
pub query_given : {s : List ℕ} {vs : List Segment} {m : Marks} → IsQuery s vs m → reading s ≡ given vs m []
unfolding reading segments_of segment_start
query_given (query {s} {vs} {m} d) =
    ap (option_and_then whole) (segments_given d (length (36 ∷ s)) (omega arith) refl (length s) (omega arith))
