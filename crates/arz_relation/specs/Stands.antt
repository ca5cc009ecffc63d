-- Where an execution stands: what is left to do after some answers, whatever answers follow.
use Rattle.std.specs.Prelude.{ℕ, ◌+◌, ◌≡◌, ◌≢◌, max, List, [], ◌∷◌, ◌++◌}
use Rattle.arz_flow.specs.declared.answers.Ask.{Ask}
use Rattle.arz_flow.specs.declared.answers.Answer.{Answer}
use Rattle.arz_flow.specs.declared.bundle.Bundle.{Bundle}
use Rattle.arz_scope.specs.declared.facts.Completion.{Completion}
use Rattle.arz_scope.specs.Scopes.{with_completion}
use Rattle.arz_relation.specs.Play.{Result, Seen, State, seen, NoStep, Untold, Stuck, TooDeep, Budget, Play, Spent, Lost, Out, Ends, Gives, Script, then_play, follow, play}
use Rattle.arz_relation.specs.Cases.{Case, script}
use Rattle.arz_relation.specs.Executions.{execution}
use Rattle.arz_relation.specs.Verdicts.{Patterned}

-- what the answers so far have made
pub record Past : Type 0 where
  pub asked : List Ask
  pub done : List Completion
  pub turns : ℕ
  pub most : ℕ

abbrev pub nothing_yet : Past
nothing_yet = record { asked = []; done = []; turns = 0; most = 0 }

abbrev pub state : List Answer → Past → State
state rest p = record { left = rest; asked = p.asked; done = p.done; turns = p.turns; most = p.most }

abbrev pub seen_of : Past → Seen
seen_of p = record { asked = p.asked; done = p.done }

abbrev pub turned : Past → Past
turned p = record { asked = p.asked; done = p.done; turns = p.turns + 1; most = p.most }

abbrev pub asked_more : Past → Ask → Past
asked_more p q = record { asked = p.asked ++ q ∷ []; done = p.done; turns = 0; most = max p.most p.turns }

abbrev pub done_more : Past → Completion → Past
done_more p c = record { asked = p.asked; done = with_completion c p.done; turns = p.turns; most = p.most }

-- what follows a run's result
abbrev pub Follow : Type 0
Follow = Result → Seen → Script Case

-- what the open runs add to a play of the innermost, which comes first
abbrev pub unwinds : Patterned → Bundle → ℕ → List Follow → Play → Play
unwinds told b n [] p = p
unwinds told b n (k ∷ ks) p = unwinds told b n ks (then_play p (λ o t. follow (play (script told b) n) (k o (seen t)) t))

abbrev pub from_here : Patterned → Bundle → ℕ → Script Case → List Follow → State → Play
from_here told b n c ks s = unwinds told b n ks (follow (play (script told b) n) c s)

-- these are one play, unless the first needed a pattern of which nothing is told
abbrev pub Agrees : Play → Play → Type 0
Agrees Spent p = Spent ≡ p
Agrees Lost p = Lost ≡ p
Agrees (Out q s) p = Out q s ≡ p
Agrees (Ends NoStep s) p = Ends NoStep s ≡ p
Agrees (Ends Untold s) p = Unit {0}
Agrees (Ends (Stuck cause at) s) p = Ends (Stuck cause at) s ≡ p
Agrees (Ends (TooDeep at) s) p = Ends (TooDeep at) s ≡ p
Agrees (Ends (Budget limit) s) p = Ends (Budget limit) s ≡ p
Agrees (Gives o s) p = Gives o s ≡ p

-- the execution over these answers comes to this, where all that it needs of patterns is told
abbrev pub Comes : Patterned → Bundle → List Answer → Play → Type 0
Comes told b r p = (n : ℕ) × Agrees (execution told b r n) p

-- after the answers r the execution goes on as this script does, under the open runs
pub record Stands (told : Patterned) (b : Bundle) (c : Script Case) (ks : List Follow) (p : Past) (r : List Answer) : Type 0 where
  pub goes : (rest : List Answer) (n : ℕ) → from_here told b n c ks (state rest p) ≢ Spent → Comes told b (r ++ rest) (from_here told b n c ks (state rest p))
