-- What is known of the queries of a filter that begin at the root.
use Rattle.std.proofs.Common.{◌≡◌, ℕ, ℤ, List, [], ◌∷◌, ◌++◌, map, Bool, refl, sym, ap, subst, ◌∙◌, append_assoc, append-nil, take, drop, ◌+◌, Result, Ok, Err, OnOk}
use Rattle.std.proofs.lemmas.List.{map-append, take-append-drop}
use Rattle.std.proofs.lemmas.Grind.{flat_map-append}
use Rattle.std.specs.List.{flat_map}
use Rattle.arz_json.specs.declared.tree.Json.{Json}
use Rattle.arz_query.specs.declared.query.Start.{Start}
use Rattle.arz_query.specs.declared.query.Segment.{Segment}
use Rattle.arz_query.specs.declared.query.Selector.{Selector}
use Rattle.arz_query.specs.declared.query.Comparison.{Comparison}
use Rattle.arz_query.specs.declared.query.Test.{Test}
use Rattle.arz_query.specs.declared.query.Test.TheVariants.{Any, All, Not, Exists, Compare, Match, Search}
use Rattle.arz_query.specs.declared.query.Operand.{Operand}
use Rattle.arz_query.specs.declared.query.Operand.TheVariants.{Null, Flag, Int, Text, Query, Length, Count, Value}
use Rattle.arz_query.specs.declared.query.Operand.TheOpen.{Test-F, Operand-F}
use Rattle.arz_query.specs.declared.query.Operand.TheFolds.{para-roll-Test, para-roll-Operand, map-Test, map-Operand}
use Rattle.arz_query.specs.declared.query.Operand.TheViews as views
use Rattle.arz_path.specs.declared.nodes.Found.{Found}
use Rattle.arz_path.specs.Outcome.{given, outcome_map, Covers}
use Rattle.arz_path.specs.Selected.{Setting}
use Rattle.arz_path.specs.Seen.{found_seen, found_in, found_all}
use Rattle.arz_path.specs.Begins.{begun}
use Rattle.arz_path.specs.Absolute.{Queries, Finding, absolute, queries_in_test, queries_in_operand, queries_of_test, queries_of_tests, queries_of_operand, found_at, Fits, AreTold, after, Passed}
use Rattle.arz_path.proofs.Bridge.{found-spots}

-- ---- the queries of each part

paired : (ss : List Segment) → map (λ (p : Segment × Unit {0}). p.0) (map (λ s. (s, tt)) ss) ≡ ss
paired [] = refl
paired (s ∷ ss) = ap (λ (more : List Segment). s ∷ more) (paired ss)

each_test : (ts : List Test) → flat_map (λ (t : Test × Queries). t.1) (map (λ t. (t, queries_of_test t)) ts) ≡ queries_of_tests ts
unfolding queries_of_tests
each_test [] = refl
each_test (t ∷ ts) = ap (λ (more : Queries). queries_of_test t ++ more) (each_test ts)

level_test : (y : Test-F Operand Segment Selector Test) → queries_of_test (views.roll-Test y) ≡ queries_in_test (map-Test Operand Segment Selector Test (Operand × Queries) (Segment × Unit {0}) (Selector × Unit {0}) (Test × Queries) (λ o. (o, queries_of_operand o)) (λ x. (x, tt)) (λ x. (x, tt)) (λ t. (t, queries_of_test t)) y)
unfolding queries_of_test queries_of_operand
level_test y = para-roll-Test Queries (Unit {0}) (Unit {0}) Queries queries_in_operand (λ y. tt) (λ y. tt) queries_in_test y

level_operand : (y : Operand-F Operand Segment Selector Test) → queries_of_operand (views.roll-Operand y) ≡ queries_in_operand (map-Operand Operand Segment Selector Test (Operand × Queries) (Segment × Unit {0}) (Selector × Unit {0}) (Test × Queries) (λ o. (o, queries_of_operand o)) (λ x. (x, tt)) (λ x. (x, tt)) (λ t. (t, queries_of_test t)) y)
unfolding queries_of_test queries_of_operand
level_operand y = para-roll-Operand Queries (Unit {0}) (Unit {0}) Queries queries_in_operand (λ y. tt) (λ y. tt) queries_in_test y

pub queries-Any : (ts : List Test) → queries_of_test (Any ts) ≡ queries_of_tests ts
unfolding queries_of_test queries_of_operand
queries-Any ts = ap queries_of_test (sym (views.rolls-Any ts)) ∙ level_test (Test-F.Any ts) ∙ each_test ts

pub queries-All : (ts : List Test) → queries_of_test (All ts) ≡ queries_of_tests ts
unfolding queries_of_test queries_of_operand
queries-All ts = ap queries_of_test (sym (views.rolls-All ts)) ∙ level_test (Test-F.All ts) ∙ each_test ts

pub queries-Not : (t : Test) → queries_of_test (Not t) ≡ queries_of_test t
unfolding queries_of_test queries_of_operand
queries-Not t = ap queries_of_test (sym (views.rolls-Not t)) ∙ level_test (Test-F.Not t)

pub queries-Exists : (start : Start) (ss : List Segment) → queries_of_test (Exists start ss) ≡ absolute start ss
unfolding queries_of_test queries_of_operand
queries-Exists start ss = ap queries_of_test (sym (views.rolls-Exists start ss)) ∙ level_test (Test-F.Exists start ss) ∙ ap (absolute start) (paired ss)

pub queries-Compare : (a : Operand) (op : Comparison) (b : Operand) → queries_of_test (Compare a op b) ≡ queries_of_operand a ++ queries_of_operand b
unfolding queries_of_test queries_of_operand
queries-Compare a op b = ap queries_of_test (sym (views.rolls-Compare a op b)) ∙ level_test (Test-F.Compare a op b)

pub queries-Match : (a : Operand) (b : Operand) → queries_of_test (Match a b) ≡ queries_of_operand a ++ queries_of_operand b
unfolding queries_of_test queries_of_operand
queries-Match a b = ap queries_of_test (sym (views.rolls-Match a b)) ∙ level_test (Test-F.Match a b)

pub queries-Search : (a : Operand) (b : Operand) → queries_of_test (Search a b) ≡ queries_of_operand a ++ queries_of_operand b
unfolding queries_of_test queries_of_operand
queries-Search a b = ap queries_of_test (sym (views.rolls-Search a b)) ∙ level_test (Test-F.Search a b)

pub queries-Null : queries_of_operand Null ≡ []
unfolding queries_of_test queries_of_operand
queries-Null = ap queries_of_operand (sym views.rolls-Null) ∙ level_operand Operand-F.Null

pub queries-Flag : (b : Bool) → queries_of_operand (Flag b) ≡ []
unfolding queries_of_test queries_of_operand
queries-Flag b = ap queries_of_operand (sym (views.rolls-Flag b)) ∙ level_operand (Operand-F.Flag b)

pub queries-Int : (z : ℤ) → queries_of_operand (Int z) ≡ []
unfolding queries_of_test queries_of_operand
queries-Int z = ap queries_of_operand (sym (views.rolls-Int z)) ∙ level_operand (Operand-F.Int z)

pub queries-Text : (k : List ℕ) → queries_of_operand (Text k) ≡ []
unfolding queries_of_test queries_of_operand
queries-Text k = ap queries_of_operand (sym (views.rolls-Text k)) ∙ level_operand (Operand-F.Text k)

pub queries-Query : (start : Start) (ss : List Segment) → queries_of_operand (Query start ss) ≡ absolute start ss
unfolding queries_of_test queries_of_operand
queries-Query start ss = ap queries_of_operand (sym (views.rolls-Query start ss)) ∙ level_operand (Operand-F.Query start ss) ∙ ap (absolute start) (paired ss)

pub queries-Length : (o : Operand) → queries_of_operand (Length o) ≡ queries_of_operand o
unfolding queries_of_test queries_of_operand
queries-Length o = ap queries_of_operand (sym (views.rolls-Length o)) ∙ level_operand (Operand-F.Length o)

pub queries-Count : (start : Start) (ss : List Segment) → queries_of_operand (Count start ss) ≡ absolute start ss
unfolding queries_of_test queries_of_operand
queries-Count start ss = ap queries_of_operand (sym (views.rolls-Count start ss)) ∙ level_operand (Operand-F.Count start ss) ∙ ap (absolute start) (paired ss)

pub queries-Value : (start : Start) (ss : List Segment) → queries_of_operand (Value start ss) ≡ absolute start ss
unfolding queries_of_test queries_of_operand
queries-Value start ss = ap queries_of_operand (sym (views.rolls-Value start ss)) ∙ level_operand (Operand-F.Value start ss) ∙ ap (absolute start) (paired ss)

-- ---- what is told, query after query

-- all that was found, in what was told and what is still to be told
pub split : (n : ℕ) (fs : List Found) → map found_seen fs ≡ map found_seen (take n fs) ++ map found_seen (drop n fs)
split n fs = ap (map found_seen) (sym (take-append-drop n fs)) ∙ map-append found_seen (take n fs) (drop n fs)

after_none : (qs : Queries) → after qs [] ≡ []
after_none [] = refl
after_none (q ∷ qs) = refl

after_both : (qs rs : Queries) (fs : List Finding) → after (qs ++ rs) fs ≡ after rs (after qs fs)
after_both [] rs fs = refl
after_both (q ∷ qs) rs [] = sym (after_none rs)
after_both (q ∷ qs) rs (f ∷ fs) = after_both qs rs fs

module _ (s : Setting) where
  pub fits_none : (qs : Queries) → Fits s qs []
  fits_none [] = tt
  fits_none (q ∷ qs) = tt

  pub fits_first : (qs rs : Queries) (fs : List Finding) → Fits s (qs ++ rs) fs → Fits s qs fs
  fits_first [] rs fs h = tt
  fits_first (q ∷ qs) rs [] h = tt
  fits_first (q ∷ qs) rs (f ∷ fs) h = (h.0, fits_first qs rs fs h.1)

  pub fits_rest : (qs rs : Queries) (fs : List Finding) → Fits s (qs ++ rs) fs → Fits s rs (after qs fs)
  fits_rest [] rs fs h = h
  fits_rest (q ∷ qs) rs [] h = fits_none rs
  fits_rest (q ∷ qs) rs (f ∷ fs) h = fits_rest qs rs fs h.1

  -- what was told fits again
  fits_told : (qs : Queries) (fs more : List Finding) → AreTold s qs fs → Fits s qs (fs ++ more)
  fits_told [] fs more h = tt
  fits_told (q ∷ qs) [] more h = absurd h
  fits_told (q ∷ qs) (f ∷ fs) more h = (h.0, fits_told qs fs more h.1)

  told_both : (qs rs : Queries) (fs gs : List Finding) → AreTold s qs fs → AreTold s rs gs → AreTold s (qs ++ rs) (fs ++ gs)
  told_both [] rs [] gs h k = k
  told_both [] rs (f ∷ fs) gs h k = absurd h
  told_both (q ∷ qs) rs [] gs h k = absurd h
  told_both (q ∷ qs) rs (f ∷ fs) gs h k = (h.0, told_both qs rs fs gs h.1 k)

  pub passed_none : (a : List Finding × List Finding) → Passed s [] a a
  passed_none a = record { told = []; are_told = tt; behind = sym (append-nil a.0); ahead = refl }

  pub passed_both : (qs rs : Queries) (a b c : List Finding × List Finding) → Passed s qs a b → Passed s rs b c → Passed s (qs ++ rs) a c
  passed_both qs rs a b c h k = record {
    told = h.told ++ k.told;
    are_told = told_both qs rs h.told k.told h.are_told k.are_told;
    behind = k.behind ∙ ap (λ (fs : List Finding). fs ++ k.told) h.behind ∙ append_assoc a.0 h.told k.told;
    ahead = k.ahead ∙ ap (after rs) h.ahead ∙ sym (after_both qs rs a.1);
  }

  -- a query that was evaluated, or told again
  pub passed_one : (q : List Segment) (f : Finding) (a b : List Finding × List Finding) → Covers (found_at s q s.root) (given f) →
      b.0 ≡ a.0 ++ f ∷ [] → b.1 ≡ after (q ∷ []) a.1 → Passed s (q ∷ []) a b
  passed_one q f a b h behind ahead = record { told = f ∷ []; are_told = (h, tt); behind = behind; ahead = ahead }

  -- what fits the next query
  pub fits_next : (q : List Segment) (f : Finding) (fs gs : List Finding) → fs ≡ f ∷ gs → Fits s (q ∷ []) fs → Covers (found_at s q s.root) (given f)
  fits_next q f fs gs e h = let k = subst (Fits s (q ∷ [])) e h in k.0

  -- after a round, all that is known fits
  pub fits_again : (qs : Queries) (a b : List Finding × List Finding) → a.0 ≡ [] → Passed s qs a b → Fits s qs (b.0 ++ b.1)
  fits_again qs a b e h = subst (λ (fs : List Finding). Fits s qs (fs ++ b.1)) (sym (h.behind ∙ ap (λ (fs : List Finding). fs ++ h.told) e)) (fits_told qs h.told b.1 h.are_told)

-- ---- the same, where more was told of no pattern meanwhile

module _ (s s' : Setting) (e : s' ≡ s) where
  pub fits_then : (qs rs : Queries) (a b : List Finding × List Finding) → Fits s (qs ++ rs) a.1 → Passed s qs a b → Fits s' rs b.1
  fits_then qs rs a b h k = subst (λ z. Fits z rs b.1) (sym e) (subst (Fits s rs) (sym k.ahead) (fits_rest s qs rs a.1 h))

  pub passed_then : (qs rs : Queries) (a b c : List Finding × List Finding) → Passed s qs a b → Passed s' rs b c → Passed s (qs ++ rs) a c
  passed_then qs rs a b c h k = passed_both s qs rs a b c h (subst (λ z. Passed z rs b c) e k)

  -- a round begins
  pub fits_round : (qs : Queries) (a b : List Finding × List Finding) → b ≡ ([], a.0 ++ a.1) → Fits s qs (a.0 ++ a.1) → Fits s' qs b.1
  fits_round qs a b again h = subst (λ z. Fits z qs b.1) (sym e) (subst (λ (p : List Finding × List Finding). Fits s qs p.1) (sym again) h)

  -- and ends: all that is known fits
  pub fits_rounds : (qs : Queries) (a b c : List Finding × List Finding) → b ≡ ([], a.0 ++ a.1) → Passed s' qs b c → Fits s qs (c.0 ++ c.1)
  fits_rounds qs a b c again h = fits_again s qs b c (ap (λ (p : List Finding × List Finding). p.0) again) (subst (λ z. Passed z qs b c) e h)

-- ---- test after test

tests_both : (ts us : List Test) → queries_of_tests (ts ++ us) ≡ queries_of_tests ts ++ queries_of_tests us
unfolding queries_of_tests
tests_both ts us = flat_map-append queries_of_test ts us

tests_first : (t : Test) (ts : List Test) → queries_of_tests (t ∷ ts) ≡ queries_of_test t ++ queries_of_tests ts
unfolding queries_of_tests
tests_first t ts = refl

tests_one : (t : Test) → queries_of_tests (t ∷ []) ≡ queries_of_test t
unfolding queries_of_tests
tests_one t = append-nil (queries_of_test t)

tests_cut : (ts : List Test) (i : ℕ) → queries_of_tests ts ≡ queries_of_tests (take i ts) ++ queries_of_tests (drop i ts)
tests_cut ts i = ap queries_of_tests (sym (take-append-drop i ts)) ∙ tests_both (take i ts) (drop i ts)

pub tests_begin : (s : Setting) (ts : List Test) (a : List Finding × List Finding) → Passed s (queries_of_tests (take 0 ts)) a a
unfolding queries_of_tests
tests_begin s ts a = passed_none s a

pub tests_end : (s : Setting) (ts : List Test) (i : ℕ) (a b : List Finding × List Finding) → drop i ts ≡ [] → Passed s (queries_of_tests (take i ts)) a b → Passed s (queries_of_tests ts) a b
tests_end s ts i a b none h = subst (λ us. Passed s (queries_of_tests us) a b) (sym (append-nil (take i ts)) ∙ ap (λ (us : List Test). take i ts ++ us) (sym none) ∙ take-append-drop i ts) h

module _ (s s' : Setting) (e : s' ≡ s) (ts rest : List Test) (t : Test) (i : ℕ) (a b : List Finding × List Finding)
    (h : Passed s (queries_of_tests (take i ts)) a b) where
  pub tests_fit : drop i ts ≡ t ∷ rest → Fits s (queries_of_tests ts) a.1 → Fits s' (queries_of_test t) b.1
  tests_fit cut fits = fits_first s' (queries_of_test t) (queries_of_tests rest) b.1
      (subst (λ qs. Fits s' qs b.1) (ap queries_of_tests cut ∙ tests_first t rest)
      (fits_then s s' e (queries_of_tests (take i ts)) (queries_of_tests (drop i ts)) a b (subst (λ qs. Fits s qs a.1) (tests_cut ts i) fits) h))

  pub tests_step : (c : List Finding × List Finding) → take (i + 1) ts ≡ take i ts ++ t ∷ [] → Passed s' (queries_of_test t) b c → Passed s (queries_of_tests (take (i + 1) ts)) a c
  tests_step c more k = subst (λ qs. Passed s qs a c)
      (sym (ap queries_of_tests more ∙ tests_both (take i ts) (t ∷ []) ∙ ap (λ (qs : Queries). queries_of_tests (take i ts) ++ qs) (tests_one t)))
      (passed_then s s' e (queries_of_tests (take i ts)) (queries_of_test t) a b c h k)

-- ---- what a query inside a filter finds

pub found-from : (s : Setting) (current : Json) (start : Start) (ss : List Segment) → outcome_map found_in (found_all s current start ss) ≡ found_at s ss (begun start s.root current)
unfolding found_at
found-from s current start ss = found-spots s current start ss

pub on_ok : {X E : Type 0} {P : Type 0} (r : Result X E) → P → OnOk r P
on_ok (Ok x) h = h
on_ok (Err e) h = tt
