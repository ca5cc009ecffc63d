-- How an execution stands after each turn.
use Rattle.std.proofs.Common.{◌≡◌, ◌≢◌, ℕ, suc, ◌≤◌, List, [], ◌∷◌, ◌++◌, refl, sym, subst, arith, append_assoc, append-nil, ◌∙◌}
use Rattle.arz_flow.specs.declared.answers.Ask.{Ask}
use Rattle.arz_flow.specs.declared.answers.Answer.{Answer}
use Rattle.arz_world.specs.declared.Request.{Request}
use Rattle.arz_world.specs.declared.Reply.{Reply}
use Rattle.arz_flow.specs.declared.bundle.Bundle.{Bundle}
use Rattle.arz_flow.specs.declared.answers.Ask.TheVariants.{Send, Wait}
use Rattle.arz_flow.specs.declared.answers.Answer.TheVariants.{Reply as Replied, Served}
use Rattle.arz_scope.specs.declared.facts.Completion.{Completion}
use Rattle.arz_relation.specs.Play.{Result, Halt, NoStep, Untold, Stuck, TooDeep, Budget, Seen, State, seen, Play, Spent, Lost, Out, Ends, Gives, Script, Give, Stops, Sends, Waits, Plays, Records, then_play, follow, play}
use Rattle.arz_relation.specs.Cases.{Case, Runs, script, give}
use Rattle.arz_relation.specs.Executions.{spot_of, execution, whole, IsTold}
use Rattle.arz_relation.specs.Verdicts.{Patterned}
use Rattle.arz_relation.specs.Stands.{nothing_yet, Past, state, seen_of, turned, asked_more, done_more, Follow, unwinds, from_here, Agrees, Comes, Stands}
use Rattle.arz_relation.proofs.Below.{Below, below_refl, then_below, follow_below, play_below}
use Rattle.arz_relation.proofs.Executions.{below_same, comes_whole}

pub give_same : (f : Case → State → Play) (p : Play) → then_play p (λ r t. follow f (give r (seen t)) t) ≡ p
give_same f Spent = refl
give_same f Lost = refl
give_same f (Out q s) = refl
give_same f (Ends c s) = refl
give_same f (Gives r s) = refl

agrees_refl : (p : Play) → Agrees p p
agrees_refl Spent = refl
agrees_refl Lost = refl
agrees_refl (Out q s) = refl
agrees_refl (Ends NoStep s) = refl
agrees_refl (Ends Untold s) = tt
agrees_refl (Ends (Stuck cause at) s) = refl
agrees_refl (Ends (TooDeep at) s) = refl
agrees_refl (Ends (Budget limit) s) = refl
agrees_refl (Gives o s) = refl

-- what agrees with the want of a pattern wants it itself, and agrees with all
agrees_any : (x p : Play) (s : State) → Agrees x (Ends Untold s) → Agrees x p
agrees_any Spent p s a = absurd cc
agrees_any Lost p s a = absurd cc
agrees_any (Out q t) p s a = absurd cc
agrees_any (Ends NoStep t) p s a = absurd cc
agrees_any (Ends Untold t) p s a = tt
agrees_any (Ends (Stuck cause at) t) p s a = absurd cc
agrees_any (Ends (TooDeep at) t) p s a = absurd cc
agrees_any (Ends (Budget limit) t) p s a = absurd cc
agrees_any (Gives o t) p s a = absurd cc

ends_over : (h : Halt) (s : State) → Ends h s ≢ Spent
ends_over h s e = absurd cc

out_over : (a : Ask) (s : State) → Out a s ≢ Spent
out_over a s e = absurd cc

module _ (told : Patterned) where
  unwinds_below : (b : Bundle) (n m : ℕ) (ks : List Follow) (p q : Play) → n ≤ m → Below p q → Below (unwinds told b n ks p) (unwinds told b m ks q)
  unwinds_below b n m [] p q le h = h
  unwinds_below b n m (k ∷ ks) p q le h =
      unwinds_below b n m ks _ _ le (then_below p q _ _ h (λ o t. follow_below (play (script told b) n) (play (script told b) m) (λ y u. play_below (script told b) n m y u le) (k o (seen t)) t))

  -- what stands where one turn more leads to it
  leads : (b : Bundle) (c d : Script Case) (ks ls : List Follow) (p q : Past) (r : List Answer) → ((rest : List Answer) (n : ℕ) → Below (from_here told b n d ls (state rest q)) (from_here told b (suc n) c ks (state rest p))) → Stands told b c ks p r → Stands told b d ls q r
  leads b c d ks ls p q r h st = record {
    goes = λ rest n over.
        let same = below_same _ _ (h rest n) over in
        let over' : from_here told b (suc n) c ks (state rest p) ≢ Spent = rw same over in
        subst (λ z. Comes told b (r ++ rest) z) same (st.goes rest (suc n) over');
  }

  -- a case whose result is the result
  pub case_stands : (b : Bundle) (g : Case) (ks : List Follow) (p : Past) (r : List Answer) → Stands told b (Plays g give) ks p r → Stands told b (script told b g (seen_of p)) ks (turned p) r
  case_stands b g ks p r st = leads b (Plays g give) (script told b g (seen_of p)) ks ks p (turned p) r (λ rest n.
      rw (give_same (play (script told b) (suc n)) (play (script told b) (suc n) g (state rest p))) (unwinds_below b n (suc n) ks _ _ (omega arith) (below_refl _))) st

  -- a case that something else follows: one open run more
  pub call_stands : (b : Bundle) (g : Case) (k : Follow) (ks : List Follow) (p : Past) (r : List Answer) → Stands told b (Plays g k) ks p r → Stands told b (script told b g (seen_of p)) (k ∷ ks) (turned p) r
  call_stands b g k ks p r st = leads b (Plays g k) (script told b g (seen_of p)) ks (k ∷ ks) p (turned p) r (λ rest n.
      unwinds_below b n (suc n) ks _ _ (omega arith)
      (then_below (play (script told b) (suc n) g (state rest p)) (play (script told b) (suc n) g (state rest p)) _ _ (below_refl _) (λ o t. follow_below (play (script told b) n) (play (script told b) (suc n)) (λ y u. play_below (script told b) n (suc n) y u (omega arith)) (k o (seen t)) t))) st

  -- a run that is over: one open run less
  pub pop_stands : (b : Bundle) (o : Result) (k : Follow) (ks : List Follow) (p : Past) (r : List Answer) → Stands told b (Give o) (k ∷ ks) p r → Stands told b (k o (seen_of p)) ks p r
  pop_stands b o k ks p r st = record { goes = λ rest n over. st.goes rest n over }

  pub record_stands : (b : Bundle) (d : Completion) (c : Script Case) (ks : List Follow) (p : Past) (r : List Answer) → Stands told b (Records d c) ks p r → Stands told b c ks (done_more p d) r
  record_stands b d c ks p r st = record { goes = λ rest n over. st.goes rest n over }

  pub reply_stands : (b : Bundle) (q : Request) (y : Reply) (k : Reply → Seen → Script Case) (ks : List Follow) (p : Past) (r : List Answer) → Stands told b (Sends q k) ks p r → Stands told b (k y (seen_of (asked_more p (Send q)))) ks (asked_more p (Send q)) (r ++ Replied y ∷ [])
  reply_stands b q y k ks p r st = record {
    goes = λ rest n over.
        subst (λ l. Comes told b l (from_here told b n (k y (seen_of (asked_more p (Send q)))) ks (state rest (asked_more p (Send q))))) (sym (append_assoc r (Replied y ∷ []) rest)) (st.goes (Replied y ∷ rest) n over);
  }

  pub served_stands : (b : Bundle) (w : ℕ) (k : Seen → Script Case) (ks : List Follow) (p : Past) (r : List Answer) → Stands told b (Waits w k) ks p r → Stands told b (k (seen_of (asked_more p (Wait w)))) ks (asked_more p (Wait w)) (r ++ Served ∷ [])
  served_stands b w k ks p r st = record {
    goes = λ rest n over.
        subst (λ l. Comes told b l (from_here told b n (k (seen_of (asked_more p (Wait w)))) ks (state rest (asked_more p (Wait w))))) (sym (append_assoc r (Served ∷ []) rest)) (st.goes (Served ∷ rest) n over);
  }

  pub start_stands : (b : Bundle) → Stands told b (Plays (Runs b.workflow b.inputs 1 (spot_of b.workflow)) give) [] nothing_yet []
  start_stands b = record { goes = λ rest n over. (n, rw (give_same (play (script told b) n) (execution told b rest n)) (agrees_refl (execution told b rest n))) }

  -- where everything ends, it ends under all open runs
  stops_unwinds : (b : Bundle) (n : ℕ) (ks : List Follow) (h : Halt) (s : State) → unwinds told b n ks (Ends h s) ≡ Ends h s
  stops_unwinds b n [] h s = refl
  stops_unwinds b n (k ∷ ks) h s = stops_unwinds b n ks h s

  pub stops_stands : (b : Bundle) (h : Halt) (ks : List Follow) (p : Past) (r : List Answer) → Stands told b (Stops h) ks p r → Stands told b (Stops h) [] p r
  stops_stands b h ks p r st = record {
    goes = λ rest n over.
        let same = stops_unwinds b n ks h (state rest p) in
        subst (λ z. Comes told b (r ++ rest) z) same (st.goes rest n (rw same over));
  }

  -- where a pattern isn't told, the execution may be said to stand anywhere
  pub untold_stands : (b : Bundle) (d : Script Case) (ks ls : List Follow) (p q : Past) (r : List Answer) → Stands told b (Stops Untold) ks p r → Stands told b d ls q r
  untold_stands b d ks ls p q r st = record {
    goes = λ rest n over.
        let ended = stops_stands b Untold ks p r st in
        let c = ended.goes rest n (ends_over Untold (state rest p)) in
        (c.0, agrees_any (execution told b (r ++ rest) c.0) (from_here told b n d ls (state rest q)) (state rest p) c.1);
  }

  -- where no answer is left, the execution lacks one, under all open runs
  out_unwinds : (b : Bundle) (n : ℕ) (ks : List Follow) (q : Ask) (s : State) → unwinds told b n ks (Out q s) ≡ Out q s
  out_unwinds b n [] q s = refl
  out_unwinds b n (k ∷ ks) q s = out_unwinds b n ks q s

  here_whole : (b : Bundle) (r : List Answer) (p : Play) → Comes told b (r ++ []) p → p ≢ Spent → IsTold told b r → whole told b r ≡ p
  here_whole b r p c over is = comes_whole told b r p (subst (λ l. Comes told b l p) (append-nil r) c) over is

  -- an execution that stands at a send is out of answers there, where all that it needs of patterns is told; so below
  pub sends_whole : (b : Bundle) (q : Request) (k : Reply → Seen → Script Case) (ks : List Follow) (p : Past) (r : List Answer) → Stands told b (Sends q k) ks p r → IsTold told b r → whole told b r ≡ Out (Send q) (state [] p)
  sends_whole b q k ks p r st is =
      let same = out_unwinds b 0 ks (Send q) (state [] p) in
      here_whole b r (Out (Send q) (state [] p)) (subst (Comes told b (r ++ [])) same (st.goes [] 0 (λ e. out_over (Send q) (state [] p) (sym same ∙ e)))) (out_over (Send q) (state [] p)) is

  -- likewise at a wait
  pub waits_whole : (b : Bundle) (w : ℕ) (k : Seen → Script Case) (ks : List Follow) (p : Past) (r : List Answer) → Stands told b (Waits w k) ks p r → IsTold told b r → whole told b r ≡ Out (Wait w) (state [] p)
  waits_whole b w k ks p r st is =
      let same = out_unwinds b 0 ks (Wait w) (state [] p) in
      here_whole b r (Out (Wait w) (state [] p)) (subst (Comes told b (r ++ [])) same (st.goes [] 0 (λ e. out_over (Wait w) (state [] p) (sym same ∙ e)))) (out_over (Wait w) (state [] p)) is

  -- an execution that stands at a result, with no run open, has come to it
  pub gives_whole : (b : Bundle) (o : Result) (p : Past) (r : List Answer) → Stands told b (Give o) [] p r → IsTold told b r → whole told b r ≡ Gives o (state [] p)
  gives_whole b o p r st is = here_whole b r (Gives o (state [] p)) (st.goes [] 0 (gives_over o (state [] p))) (gives_over o (state [] p)) is
    where
      gives_over : (a : Result) (s : State) → Gives a s ≢ Spent
      gives_over a s e = absurd cc

  -- an execution that stands where everything ends has come to that
  pub stops_whole : (b : Bundle) (h : Halt) (ks : List Follow) (p : Past) (r : List Answer) → Stands told b (Stops h) ks p r → IsTold told b r → whole told b r ≡ Ends h (state [] p)
  stops_whole b h ks p r st is =
      let ended = stops_stands b h ks p r st in
      here_whole b r (Ends h (state [] p)) (ended.goes [] 0 (ends_over h (state [] p))) (ends_over h (state [] p)) is
