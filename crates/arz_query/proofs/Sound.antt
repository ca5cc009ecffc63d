-- What is read is in the grammar.
use Rattle.std.proofs.Common.{◌≡◌, ℕ, ◌==◌, ◌||◌, List, [], ◌∷◌, length, Bool, true, false, ℤ, pos, Option, Some, None, option_map, option_and_then, inl, inr, refl, sym, subst, arith, unwrap_or}
use Rattle.arz_query.specs.Words.{Read, Reader, fine, chosen, with_value, with_rest, items_at}
use Rattle.arz_query.specs.Lexical.{after_byte, is_next, skip_blanks, quoted_at}
use Rattle.arz_query.specs.Numbers.{index_at}
use Rattle.arz_query.specs.Typing.{as_test, tested_as, test_of}
use Rattle.arz_query.specs.Grammar as g
use Rattle.arz_query.specs.Grammar.{IsBlank, IsStep, IsShorthand, IsSelector, AreSelectors, IsSelection, IsSegment, AreSegments, IsExpr, AreAlls, IsAll, AreItems, IsItem, IsGroup, IsTerm, AreArguments, AreExprs, IsQuery}
use Rattle.arz_query.specs.Reading.{bound_at, step_at, some_bound, no_bound, begins_int, slice_of, slice_end, slice_begun, slice_step, index_or_slice, index_of, numbered_at, named, wildcard, filtered, tested, selector_of, comma, closed_by, selection_closed, selection_of, shorthand_at, descendant, descendant_of, dotted_of, segment_of, segment_start, segments_of}
use Rattle.arz_query.specs.declared.terms.Term.{Term}
use Rattle.arz_query.specs.declared.query.Segment.{Segment}
use Rattle.arz_query.specs.declared.query.Segment.TheVariants.{Child}
use Rattle.arz_query.specs.declared.query.Selector.{Selector}
use Rattle.arz_query.specs.declared.query.Test.{Test}
use Rattle.arz_query.proofs.Inverse.{and_then, mapped, chosen_by, cond_by, byte_is, some_is, blanks_of, no_blank}
use Rattle.arz_query.proofs.Tokens.{string_to}
use Rattle.arz_query.proofs.Figures.{int_to}
use Rattle.arz_query.proofs.SoundParts.{Sound, items_sound, many_sound, comma_is, start_is, byte_behind, is_byte, at_byte, at_rest, bound_sound, shorthand_sound}

-- ---- index and slice

abbrev Selected : List ℕ → Read Selector → Type 0
Selected s o = IsSelector s o.rest o.value o.marks

-- the slice, from its second ":" or its end on
slice_ends : {s t u : List ℕ} (start end : Read (Option ℤ)) → g.IsOptional s (58 ∷ t) start.value start.marks → IsBlank t u → g.IsOptional u end.rest end.value end.marks →
    g.is_blank end.rest ≡ false → (one : Read Selector) → slice_end start end ≡ Some one → Selected s one
unfolding step_at
slice_ends {s} {t} {u} start end opened behind ended tight one e =
    elim (chosen_by (after_byte 58 end.rest) (slice_step start end) (Some (slice_of start end (no_bound end.rest))) one e) [
      | inl p ↦
          let q = mapped (slice_of start end) (step_at p.0) one p.1.1 in
          let made : (step : Read (Option ℤ)) → IsStep end.rest step.rest (unwrap_or step.value (pos 1)) step.marks → slice_of start end step ≡ one → Selected s one =
          λ step is e. subst (λ o. Selected s o) e (g.slice opened behind ended is) in
          elim (cond_by (is_next begins_int (skip_blanks p.0)) (option_map some_bound (index_at (skip_blanks p.0))) (Some (no_bound p.0)) q.0 q.1.0) [
            | inl w ↦
                let i = mapped some_bound (index_at (skip_blanks p.0)) q.0 w.1 in
                made q.0 (subst (λ (o : Read (Option ℤ)). IsStep end.rest o.rest (unwrap_or o.value (pos 1)) o.marks) i.1.1
                (at_rest (λ y. IsStep y i.0.rest i.0.value i.0.marks) 58 end.rest p.0 p.1.0 (g.step (blanks_of p.0) (int_to (skip_blanks p.0) i.0 i.1.0)))) q.1.1
            | inr w ↦
                made q.0 (subst (λ (o : Read (Option ℤ)). IsStep end.rest o.rest (unwrap_or o.value (pos 1)) o.marks) (some_is w.1)
                (at_rest (λ y. IsStep y p.0 (pos 1) fine) 58 end.rest p.0 p.1.0 g.empty_step)) q.1.1
          ]
      | inr p ↦ subst (λ o. Selected s o) (some_is p.1) (g.slice opened behind ended (g.no_step tight))
    ]

-- what was read as [ int S ] leaves no blank behind a text that begins with none
bound_tight : (s : List ℕ) (one : Read (Option ℤ)) → g.is_blank s ≡ false → bound_at s ≡ Some one → g.is_blank one.rest ≡ false
unfolding bound_at
bound_tight s one tight e =
    elim (cond_by (is_next begins_int s) (option_map (λ o. with_rest (some_bound o) (skip_blanks o.rest)) (index_at s)) (Some (no_bound s)) one e) [
      | inl p ↦
          let q = mapped (λ o. with_rest (some_bound o) (skip_blanks o.rest)) (index_at s) one p.1 in
          subst (λ (o : Read (Option ℤ)). g.is_blank o.rest ≡ false) q.1.1 (no_blank q.0.rest)
      | inr p ↦ subst (λ (o : Read (Option ℤ)). g.is_blank o.rest ≡ false) (some_is p.1) tight
    ]

slice_begins : {s t : List ℕ} (start : Read (Option ℤ)) → g.IsOptional s (58 ∷ t) start.value start.marks → (one : Read Selector) → slice_begun start t ≡ Some one → Selected s one
slice_begins {s} {t} start opened one e =
    let q = and_then (slice_end start) (bound_at (skip_blanks t)) one e in
    slice_ends start q.0 opened (blanks_of t) (bound_sound (skip_blanks t) q.0 q.1.0) (bound_tight (skip_blanks t) q.0 (no_blank t) q.1.0) one q.1.1

numbered_sound : Sound numbered_at IsSelector
unfolding numbered_at
numbered_sound s one e =
    elim (cond_by (is_next begins_int s) (option_and_then index_or_slice (index_at s)) (option_and_then (slice_begun (no_bound s)) (after_byte 58 s)) one e) [
      | inl p ↦
          let q = and_then index_or_slice (index_at s) one p.1 in
          elim (chosen_by (after_byte 58 (skip_blanks q.0.rest)) (slice_begun (some_bound q.0)) (Some (index_of q.0)) one q.1.1) [
            | inl w ↦ slice_begins (some_bound q.0) (g.int (int_to s q.0 q.1.0) (byte_behind 58 q.0.rest w.0 w.1.0)) one w.1.1
            | inr w ↦ subst (λ o. Selected s o) (some_is w.1) (g.index (int_to s q.0 q.1.0))
          ]
      | inr p ↦
          let q = and_then (slice_begun (no_bound s)) (after_byte 58 s) one p.1 in
          let opened : g.IsOptional s (58 ∷ q.0) None fine = subst (λ x. g.IsOptional s x None fine) (byte_is 58 s q.0 q.1.0) g.no_int in
          slice_begins (no_bound s) opened one q.1.1
    ]

-- ---- tests

pub record Tested (reader : Reader Term) (s : List ℕ) (one : Read Test) : Type 0 where
  pub term : Read Term
  pub read : reader s ≡ Some term
  pub test : Test
  pub is : test_of term.value ≡ Some test
  pub made : tested_as (length s) term test ≡ one

pub tested_is : (reader : Reader Term) (s : List ℕ) (one : Read Test) → tested reader s ≡ Some one → Tested reader s one
unfolding tested
tested_is reader s one e =
    let q = and_then (as_test (length s)) (reader s) one e in
    let w = mapped (tested_as (length s) q.0) (test_of q.0.value) one q.1.1 in
    record { term = q.0; read = q.1.0; test = w.0; is = w.1.0; made = w.1.1 }

-- ---- selectors, where expressions below are in the grammar

pub by_quote : (Is : ℕ → Type 0) (x : ℕ) → (x == 39 || x == 34) ≡ true → Is 39 → Is 34 → Is x
by_quote Is x h single double = go (x == 39) refl
  where
    go : (b : Bool) → (x == 39) ≡ b → Is x
    go true e = subst Is (sym (is_byte x 39 e)) single
    go false e = subst Is (sym (is_byte x 34 (grind (arith, h, e)))) double

selector_sound : (below : Reader Term) → Sound below IsExpr → Sound (selector_of below) IsSelector
unfolding selector_of
selector_sound below h [] one e = cc
selector_sound below h (x ∷ xs) one e =
    elim (cond_by (x == 39 || x == 34) (option_map named (quoted_at x xs)) _ one e) [
      | inl p ↦
          let q = mapped named (quoted_at x xs) one p.1 in
          subst (λ o. Selected (x ∷ xs) o) q.1.1
          (by_quote (λ y. quoted_at y xs ≡ Some q.0 → Selected (y ∷ xs) (named q.0)) x p.0 (λ k. g.single_quoted (string_to 39 xs q.0.1 q.0.0 k)) (λ k. g.double_quoted (string_to 34 xs q.0.1 q.0.0 k)) q.1.0)
      | inr n ↦ elim (cond_by (x == 42) (Some (wildcard xs)) _ one n.1) [
        | inl p ↦ at_byte (λ y. Selected y one) x 42 xs p.0 (subst (λ o. Selected (42 ∷ xs) o) (some_is p.1) g.every)
        | inr n ↦ elim (cond_by (x == 63) (option_map filtered (tested below (skip_blanks xs))) (numbered_at (x ∷ xs)) one n.1) [
          | inl p ↦
              let q = mapped filtered (tested below (skip_blanks xs)) one p.1 in
              let t = tested_is below (skip_blanks xs) q.0 q.1.0 in
              at_byte (λ y. Selected y one) x 63 xs p.0
              (subst (λ o. Selected (63 ∷ xs) o) q.1.1
              (subst (λ o. Selected (63 ∷ xs) (filtered o)) t.made (g.filter (blanks_of xs) (h (skip_blanks xs) t.term t.read) t.is)))
          | inr n ↦ numbered_sound (x ∷ xs) one n.1
        ]
      ]
    ]

selectors_sound : (below : Reader Term) → Sound below IsExpr → Sound (items_at comma (selector_of below)) AreSelectors
selectors_sound below h =
    items_sound comma (selector_of below) AreSelectors
    (λ s one e. g.last_selector (selector_sound below h s one e))
    (λ s t r one vs n e c are. let k = comma_is one.rest t c in g.more_selectors (selector_sound below h s one e) k.front k.back are)

selection_sound : (below : Reader Term) → Sound below IsExpr → Sound (selection_of below) IsSelection
unfolding selection_of
selection_sound below h s one e =
    let q = and_then (selection_closed s) (items_at comma (selector_of below) (skip_blanks s)) one e in
    let c = mapped (closed_by s q.0) (after_byte 93 (skip_blanks q.0.rest)) one q.1.1 in
    subst (λ (o : Read (List Selector)). IsSelection s o.rest o.value o.marks) c.1.1
    (g.selection (blanks_of s) (selectors_sound below h (skip_blanks s) q.0 q.1.0) (byte_behind 93 q.0.rest c.0 c.1.0))

-- ---- segments

abbrev Segmented : List ℕ → Read Segment → Type 0
Segmented s o = IsSegment s o.rest o.value o.marks

segment_sound : (below : Reader Term) → Sound below IsExpr → Sound (segment_of below) IsSegment
unfolding segment_of
segment_sound below h s one e =
    elim (chosen_by (after_byte 91 s) (λ t. option_map (with_value Child) (selection_of below t)) (option_and_then (dotted_of below) (after_byte 46 s)) one e) [
      | inl p ↦
          let q = mapped (with_value Child) (selection_of below p.0) one p.1.1 in
          at_rest (λ y. Segmented y one) 91 s p.0 p.1.0 (subst (λ o. Segmented (91 ∷ p.0) o) q.1.1 (g.child (selection_sound below h p.0 q.0 q.1.0)))
      | inr p ↦
          let d = and_then (dotted_of below) (after_byte 46 s) one p.1 in
          at_rest (λ y. Segmented y one) 46 s d.0 d.1.0 (dotted d.0 d.1.1)
    ]
  where
    dotted : (t : List ℕ) → dotted_of below t ≡ Some one → Segmented (46 ∷ t) one
    dotted t e =
        elim (chosen_by (after_byte 46 t) (descendant_of below) (option_map (with_value Child) (shorthand_at t)) one e) [
          | inl p ↦
              let k = mapped descendant (chosen (after_byte 91 p.0) (selection_of below) (shorthand_at p.0)) one p.1.1 in
              at_rest (λ y. Segmented (46 ∷ y) one) 46 t p.0 p.1.0
              (subst (λ o. Segmented (46 ∷ 46 ∷ p.0) o) k.1.1
              (elim (chosen_by (after_byte 91 p.0) (selection_of below) (shorthand_at p.0) k.0 k.1.0) [
                | inl z ↦ at_rest (λ y. Segmented (46 ∷ 46 ∷ y) (descendant k.0)) 91 p.0 z.0 z.1.0 (g.descendant (selection_sound below h z.0 k.0 z.1.1))
                | inr z ↦ g.short_descendant (shorthand_sound p.0 k.0 z.1)
              ]))
          | inr p ↦
              let k = mapped (with_value Child) (shorthand_at t) one p.1 in
              subst (λ o. Segmented (46 ∷ t) o) k.1.1 (g.short_child (shorthand_sound t k.0 k.1.0))
        ]

pub segments_sound : (below : Reader Term) → Sound below IsExpr → Sound (segments_of below) AreSegments
unfolding segments_of
segments_sound below h s =
    many_sound segment_start (segment_of below) AreSegments (λ s. g.no_segment)
    (λ s t r one vs n c e are. g.segment (start_is s t c) (segment_sound below h t one e) are) (length s) s
