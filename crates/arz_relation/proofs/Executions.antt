-- The laws of asks and ends.
use Rattle.std.proofs.Common.{◌≡◌, ◌≢◌, ℕ, zero, suc, ◌+◌, ◌-◌, ◌*◌, ◌≤◌, max, List, [], ◌∷◌, ◌++◌, length, Bool, true, false, if◌then◌else◌, Some, None, ap, refl, sym, ◌∙◌, arith, subst, append-nil, length-append}
use Rattle.std.specs.Prelude.{slice_get}
use Rattle.arz_flow.specs.declared.answers.Ask.{Ask}
use Rattle.arz_flow.specs.declared.answers.Answer.{Answer}
use Rattle.arz_flow.specs.declared.bundle.Bundle.{Bundle}
use Rattle.arz_json.specs.Tree.{has_opaque}
use Rattle.arz_json.specs.declared.Json.TheVariants.{Object}
use Rattle.arz_relation.specs.Play.{Result, Completed, Broke, NoStep, Untold, Stuck, TooDeep, Budget, Play, Spent, Lost, Out, Ends, Gives}
use Rattle.arz_relation.specs.Cases.{Runs, script}
use Rattle.arz_relation.specs.declared.ends.End.{End}
use Rattle.arz_relation.specs.declared.ends.End.TheVariants.{Completed as EndCompleted, Broke as EndBroke, Out as EndOut, Stuck as EndStuck, TooDeep as EndTooDeep, Budget as EndBudget}
use Rattle.arz_relation.specs.Documents.{workflows_in, longest}
use Rattle.arz_relation.specs.Executions.{fits, HasPace, start, spot_of, execution, pace, fuel, whole, asks_of, end_of, end_of_result, TookAll, asks, end, Fitting, IsPrefixOf, is_told, IsTold}
use Rattle.arz_relation.specs.Laws.{OneEnd, AsManyAsks, OneMore, PrefixFits, ToldBefore}
use Rattle.arz_relation.specs.Stands.{Agrees, Comes}
use Rattle.arz_relation.specs.Verdicts.{Patterned}
use Rattle.arz_relation.proofs.Below.{Below, play_below}
use Rattle.arz_relation.proofs.Grows.{Grows, play_grows}
use Rattle.arz_relation.proofs.Extends.{Goes, Extends, play_extends}
use Rattle.arz_relation.proofs.Bounded.{Good, play_good}
use Rattle.arz_relation.proofs.Fuel.{reach_all, local, owes, outs, Fine, script_bounded, local_pos}

-- where no workflow has more than `d` dependencies
abbrev In_time : (d : ℕ) → ℕ → ℕ → ℕ → Play → Type 0
In_time d owed left up p = Good (264 + 66 * d) (local d) owes outs (Fine d) owed left up p

good_ends : (d o l u : ℕ) (p : Play) → u ≤ 264 → In_time d o l u p → HasPace (264 + 66 * d) p
good_ends d o l u Spent le g = g
good_ends d o l u Lost le g = tt
good_ends d o l u (Out q s) le g = g
good_ends d o l u (Ends c s) le g = g
good_ends d o l u (Gives r t) le g = (g.1, omega (arith, g.2, le))

pace_over : (m : ℕ) (p : Play) → HasPace m p → p ≢ Spent
pace_over m p h e = subst (HasPace m) e h

pub below_same : (p q : Play) → Below p q → p ≢ Spent → q ≡ p
below_same Spent q b n = absurd (n refl)
below_same Lost q b n = b
below_same (Out a s) q b n = b
below_same (Ends c s) q b n = b
below_same (Gives r s) q b n = b

nothing_left : (xs : List Ask) (ys : List Answer) → length xs + length ys ≡ 0 → (xs ≡ []) × (ys ≡ [])
nothing_left [] [] e = (refl, refl)
nothing_left (x ∷ xs) ys e = absurd (omega (arith, e))
nothing_left [] (y ∷ ys) e = absurd (omega (arith, e))

not_empty : (xs : List Answer) (x : Answer) (rest : List Answer) → xs ++ x ∷ rest ≡ [] → ⊥
not_empty [] x rest e = cc
not_empty (y ∷ xs) x rest e = cc

-- after the last answer
grown : (asked : List Ask) (p : Play) → Grows asked 0 p → p ≢ Spent → TookAll p × (asks_of p ≡ asked)
grown asked Spent g n = absurd (n refl)
grown asked Lost g n = absurd (omega (arith, g))
grown asked (Out q s) g n = let h = nothing_left g.added s.left g.count in (h.1, g.asks ∙ rw h.0 (append-nil asked))
grown asked (Ends c s) g n = let h = nothing_left g.added s.left g.count in (h.1, g.asks ∙ rw h.0 (append-nil asked))
grown asked (Gives r s) g n = let h = nothing_left g.added s.left g.count in (h.1, g.asks ∙ rw h.0 (append-nil asked))

abbrev is_out : End → Bool
is_out (EndOut q) = true
is_out (EndCompleted outputs) = false
is_out (EndBroke outputs) = false
is_out (EndStuck cause at) = false
is_out (EndTooDeep at) = false
is_out (EndBudget limit) = false

true_isnt_false : true ≡ false → ⊥
true_isnt_false e = absurd cc

some_same : (d e : End) → Some d ≡ Some e → d ≡ e
some_same d e h = cc

-- the end of a result is none for want of an answer
plain_isnt_out : (b : Bool) (q : Ask) (d e : End) → is_out d ≡ false → is_out e ≡ false → (if b then d else e) ≡ EndOut q → ⊥
plain_isnt_out true q d e x y same = true_isnt_false (sym (ap is_out same) ∙ x)
plain_isnt_out false q d e x y same = true_isnt_false (sym (ap is_out same) ∙ y)

result_isnt_out : (w : List ℕ) (o : Result) (q : Ask) → Some (end_of_result w o) ≡ Some (EndOut q) → ⊥
result_isnt_out w (Completed outputs) q e = plain_isnt_out (has_opaque (Object outputs)) q _ _ refl refl (some_same _ _ e)
result_isnt_out w (Broke outputs) q e = plain_isnt_out (has_opaque (Object outputs)) q _ _ refl refl (some_same _ _ e)

takes_one : (w : List ℕ) (q : Ask) (x : Answer) (p p' : Play) → Extends (x ∷ []) p p' → end_of w p ≡ Some (EndOut q) → fits q x ≡ true → p' ≢ Spent → TookAll p' × (asks_of p' ≡ asks_of p ++ q ∷ [])
takes_one w q x Spent p' h e f n = absurd cc
takes_one w q x Lost p' h e f n = absurd cc
takes_one w q x (Ends NoStep s) p' h e f n = absurd cc
takes_one w q x (Ends Untold s) p' h e f n = absurd cc
takes_one w q x (Ends (Stuck cause at) s) p' h e f n = absurd cc
takes_one w q x (Ends (TooDeep at) s) p' h e f n = absurd cc
takes_one w q x (Ends (Budget limit) s) p' h e f n = absurd cc
takes_one w q x (Gives o s) p' h e f n = absurd (result_isnt_out w o q e)
takes_one w q x (Out a s) p' h e f n =
    let same : a ≡ q = cc in
    let g : Goes (fits q x) (s.asked ++ q ∷ []) 0 p' = subst (λ z. Goes (fits z x) (s.asked ++ z ∷ []) 0 p') same h.1 in
    let g' : Goes true (s.asked ++ q ∷ []) 0 p' = subst (λ z. Goes z (s.asked ++ q ∷ []) 0 p') f g in
    grown (s.asked ++ q ∷ []) p' g' n

fuel_le : (b : Bundle) (m n : ℕ) → m ≤ n → fuel b m ≤ fuel b n
fuel_le b m n le = let e : n ≡ m + (n - m) = omega arith in rw e (omega arith)

begins : (asked : List Ask) (n : ℕ) (p : Play) → Grows asked n p → TookAll p → IsPrefixOf asked (asks_of p)
begins asked n Spent g t = absurd t
begins asked n Lost g t = absurd t
begins asked n (Out q s) g t = (g.added, sym g.asks)
begins asked n (Ends c s) g t = (g.added, sym g.asks)
begins asked n (Gives r s) g t = (g.added, sym g.asks)

-- a play that took its answers took one for each ask
counted : (n : ℕ) (p : Play) → Grows [] n p → TookAll p → length (asks_of p) ≡ n
counted n Spent g t = absurd t
counted n Lost g t = absurd t
counted n (Out q s) g t = omega (arith, g.count, ap length g.asks, ap length t)
counted n (Ends c s) g t = omega (arith, g.count, ap length g.asks, ap length t)
counted n (Gives r s) g t = omega (arith, g.count, ap length g.asks, ap length t)

goes_on : (ok : Bool) (asked : List Ask) (n : ℕ) (p : Play) → Goes ok asked n p → TookAll p → (ok ≡ true) × IsPrefixOf asked (asks_of p)
goes_on true asked n p g t = (refl, begins asked n p g t)
goes_on false asked n p g t = absurd (subst TookAll g t)

prefix : (w : List ℕ) (x : Answer) (rest : List Answer) (p p' : Play) → Extends (x ∷ rest) p p' → p ≢ Spent → TookAll p' → TookAll p × ((q : Ask) × (end_of w p ≡ Some (EndOut q)) × (fits q x ≡ true) × IsPrefixOf (asks_of p ++ q ∷ []) (asks_of p'))
prefix w x rest Spent p' h n t = absurd (n refl)
prefix w x rest Lost p' h n t = absurd (subst TookAll h t)
prefix w x rest (Ends c s) p' h n t = absurd (not_empty s.left x rest (subst TookAll h t))
prefix w x rest (Gives r s) p' h n t = absurd (not_empty s.left x rest (subst TookAll h t))
prefix w x rest (Out q s) p' h n t = let g = goes_on (fits q x) (s.asked ++ q ∷ []) (length rest) p' h.1 t in (h.0, (q, refl, g.0, g.1))

-- the item behind the first ones
item_behind : (xs : List Ask) (q : Ask) (ys : List Ask) (n : ℕ) → length xs ≡ n → slice_get ((xs ++ q ∷ []) ++ ys) n ≡ Some q
item_behind [] q ys zero e = refl
item_behind [] q ys (suc n) e = absurd (omega (arith, e))
item_behind (x ∷ xs) q ys zero e = absurd (omega (arith, e))
item_behind (x ∷ xs) q ys (suc n) e = item_behind xs q ys n (omega (arith, e))

number : (xs : List Ask) (q : Ask) (all : List Ask) (n : ℕ) → IsPrefixOf (xs ++ q ∷ []) all → length xs ≡ n → slice_get all n ≡ Some q
number xs q all n front e = subst (λ l. slice_get l n ≡ Some q) front.1 (item_behind xs q front.0 n e)

agrees_over : (x p : Play) → Agrees x p → p ≢ Spent → x ≢ Spent
agrees_over Spent p a over e = over (sym a)
agrees_over Lost p a over e = absurd cc
agrees_over (Out q s) p a over e = absurd cc
agrees_over (Ends c s) p a over e = absurd cc
agrees_over (Gives o s) p a over e = absurd cc

agrees_same : (x p : Play) → Agrees x p → is_told x ≡ true → x ≡ p
agrees_same Spent p a t = a
agrees_same Lost p a t = a
agrees_same (Out q s) p a t = a
agrees_same (Ends NoStep s) p a t = a
agrees_same (Ends Untold s) p a t = absurd cc
agrees_same (Ends (Stuck cause at) s) p a t = a
agrees_same (Ends (TooDeep at) s) p a t = a
agrees_same (Ends (Budget limit) s) p a t = a
agrees_same (Gives o s) p a t = a

-- a play that needed no untold pattern over more answers needed none over fewer
told_extended : (xs : List Answer) (p p' : Play) → Extends xs p p' → is_told p' ≡ true → is_told p ≡ true
told_extended xs Spent p' h t = refl
told_extended xs Lost p' h t = refl
told_extended xs (Out q s) p' h t = refl
told_extended xs (Ends NoStep s) p' h t = refl
told_extended xs (Ends Untold s) p' h t = sym (ap is_told h) ∙ t
told_extended xs (Ends (Stuck cause at) s) p' h t = refl
told_extended xs (Ends (TooDeep at) s) p' h t = refl
told_extended xs (Ends (Budget limit) s) p' h t = refl
told_extended xs (Gives o s) p' h t = refl

module _ (told : Patterned) where
  enough : (b : Bundle) (r : List Answer) → In_time (longest (workflows_in b.arazzo)) 1 (length r) 64 (whole told b r)
  enough b r =
      let d = longest (workflows_in b.arazzo) in
      let all = reach_all d 1 in
      play_good (264 + 66 * d) (local d) owes outs (Fine d) (script told b)
      (λ g v n a t fine le gap. script_bounded told b d (264 + 66 * d) (omega arith) (omega arith) g v n a t fine le gap)
      (local_pos d) (fuel b (length r)) (Runs b.workflow b.inputs 1 (spot_of b.workflow)) (start r) (omega arith) (omega (arith, all)) (omega arith) (omega (arith, all))

  paced : (b : Bundle) (r : List Answer) → HasPace (pace b) (whole told b r)
  paced b r = good_ends (longest (workflows_in b.arazzo)) 1 (length r) 64 (whole told b r) (omega arith) (enough b r)

  over_whole : (b : Bundle) (r : List Answer) → whole told b r ≢ Spent
  over_whole b r = pace_over (pace b) (whole told b r) (paced b r)

  same_above : (b : Bundle) (r : List Answer) (n : ℕ) → fuel b (length r) ≤ n → execution told b r n ≡ whole told b r
  same_above b r n le = below_same (whole told b r) (execution told b r n) (play_below (script told b) (fuel b (length r)) n _ (start r) le) (over_whole b r)

  same_over : (b : Bundle) (r : List Answer) (n : ℕ) → execution told b r n ≢ Spent → execution told b r n ≡ whole told b r
  same_over b r n over =
      let m = max n (fuel b (length r)) in
      sym (below_same (execution told b r n) (execution told b r m) (play_below (script told b) n m _ (start r) (omega arith)) over) ∙ same_above b r m (omega arith)

  pub one_end : OneEnd told
  one_end b r = (over_whole b r, same_above b r, same_over b r, paced b r)

  pub one_more : OneMore told
  one_more b r q x fit e f =
      let n = fuel b (length (r ++ x ∷ [])) in
      let n_le : fuel b (length r) ≤ n = longer in
      let ext : Extends (x ∷ []) (execution told b r n) (whole told b (r ++ x ∷ [])) = play_extends (script told b) (x ∷ []) n _ (start r) in
      let ext' : Extends (x ∷ []) (whole told b r) (whole told b (r ++ x ∷ [])) = subst (λ p. Extends (x ∷ []) p (whole told b (r ++ x ∷ []))) (same_above b r n n_le) ext in
      takes_one b.workflow q x (whole told b r) (whole told b (r ++ x ∷ [])) ext' e f (over_whole b (r ++ x ∷ []))
    where
      longer : fuel b (length r) ≤ fuel b (length (r ++ x ∷ []))
      longer = fuel_le b (length r) (length (r ++ x ∷ [])) (omega (arith, length-append r (x ∷ [])))

  pub as_many : AsManyAsks told
  as_many b r fit = counted (length r) (whole told b r) (play_grows (script told b) (fuel b (length r)) (Runs b.workflow b.inputs 1 (spot_of b.workflow)) (start r)) fit

  pub prefix_fits : PrefixFits told
  prefix_fits b p x rest fit =
      let n = fuel b (length (p ++ x ∷ rest)) in
      let n_le : fuel b (length p) ≤ n = fuel_le b (length p) (length (p ++ x ∷ rest)) (omega (arith, length-append p (x ∷ rest))) in
      let ext : Extends (x ∷ rest) (execution told b p n) (whole told b (p ++ x ∷ rest)) = play_extends (script told b) (x ∷ rest) n _ (start p) in
      let ext' : Extends (x ∷ rest) (whole told b p) (whole told b (p ++ x ∷ rest)) = subst (λ z. Extends (x ∷ rest) z (whole told b (p ++ x ∷ rest))) (same_above b p n n_le) ext in
      let h = prefix b.workflow x rest (whole told b p) (whole told b (p ++ x ∷ rest)) ext' (over_whole b p) fit in
      (h.0, (h.1.0, h.1.1, number (asks told b p) h.1.0 (asks told b (p ++ x ∷ rest)) (length p) h.1.3 (as_many b p h.0), h.1.2, h.1.3))

  -- what some fuel comes to is what the whole comes to, where all that it needs of patterns is told
  pub comes_whole : (b : Bundle) (r : List Answer) (p : Play) → Comes told b r p → p ≢ Spent → IsTold told b r → whole told b r ≡ p
  comes_whole b r p c over is =
      let same = same_over b r c.0 (agrees_over (execution told b r c.0) p c.1 over) in
      agrees_same (whole told b r) p (subst (λ x. Agrees x p) same c.1) is

  -- an end that some fuel comes to is the end
  pub end_whole : (b : Bundle) (r : List Answer) (n : ℕ) (e : End) → end_of b.workflow (execution told b r n) ≡ Some e → end told b r ≡ Some e
  end_whole b r n e h = sym (ap (end_of b.workflow) (same_over b r n (λ s. some_none e (sym h ∙ ap (end_of b.workflow) s)))) ∙ h
    where
      some_none : (x : End) → Some x ≡ None → ⊥
      some_none x f = absurd cc

  before_first : (b : Bundle) → TookAll (whole told b []) × (asks_of (whole told b []) ≡ [])
  before_first b = grown [] (whole told b []) (play_grows (script told b) (fuel b 0) (Runs b.workflow b.inputs 1 (spot_of b.workflow)) (start [])) (over_whole b [])

  -- before the first answer nothing was answered
  pub no_asks : (b : Bundle) → asks told b [] ≡ []
  no_asks b = (before_first b).1

  -- no answers fit
  pub none_fit : (b : Bundle) → Fitting told b []
  none_fit b = (before_first b).0

  -- what is told over more answers was told over fewer
  pub told_before : ToldBefore told
  told_before b r more is =
      let n = fuel b (length (r ++ more)) in
      let n_le : fuel b (length r) ≤ n = fuel_le b (length r) (length (r ++ more)) (omega (arith, length-append r more)) in
      let ext : Extends more (execution told b r n) (whole told b (r ++ more)) = play_extends (script told b) more n _ (start r) in
      told_extended more (whole told b r) (whole told b (r ++ more)) (subst (λ p. Extends more p (whole told b (r ++ more))) (same_above b r n n_le) ext) is
