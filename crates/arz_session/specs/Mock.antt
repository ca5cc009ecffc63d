-- What a run over given replies comes to.
use Rattle.std.specs.Prelude.{ℕ, ◌≡◌, ◌+◌, List, [], ◌∷◌, ◌++◌, map, true, Some}
use Rattle.arz_world.specs.declared.Reply.{Reply}
use Rattle.arz_flow.specs.declared.answers.Ask.{Ask}
use Rattle.arz_flow.specs.declared.answers.Answer.{Answer}
use Rattle.arz_flow.specs.declared.answers.Answer.TheVariants.{Reply as Replied}
use Rattle.arz_flow.specs.declared.answers.End.{End}
use Rattle.arz_flow.specs.declared.answers.End.TheVariants.{Out}
use Rattle.arz_flow.specs.Verdicts.{Patterned, asks_patterns}
use Rattle.arz_rx.specs.Patterns.{PatternsView, Rose}
use Rattle.arz_flow.specs.declared.bundle.Bundle.{Bundle}
use Rattle.arz_flow.specs.Lines.{ask_text}
use Rattle.arz_flow.specs.Executions.{asks, end, Fitting, IsTold}
use Rattle.arz_session.specs.declared.session.Line.{Line}
use Rattle.arz_session.specs.declared.session.How.TheVariants.{Mock}
use Rattle.arz_session.specs.declared.session.Outcome.{Outcome}
use Rattle.arz_session.specs.declared.session.Outcome.TheVariants.{Ended, Pattern}
use Rattle.arz_session.specs.declared.session.Session.{Session}

-- the line of an ask that got a given reply
abbrev pub line_of : (number : ℕ) → Ask → Reply → Line
line_of n q y = record { n = n; ask = ask_text q; status = Some y.status; how = Mock }

-- one line for each ask and its reply, with their numbers
abbrev pub lines_from : (number : ℕ) → List Ask → List Reply → List Line
lines_from n [] ys = []
lines_from n (q ∷ qs) [] = []
lines_from n (q ∷ qs) (y ∷ ys) = line_of n q y ∷ lines_from (n + 1) qs ys

abbrev pub lines_of : List Ask → List Reply → List Line
lines_of qs ys = lines_from 1 qs ys

abbrev pub answers : List Reply → List Answer
answers replies = map Replied replies

-- ---- what a run comes to, where `told` is what is told of patterns

module _ (told : Patterned) (b : Bundle) (replies : List Reply) (all_lines : List Line) where
  -- the execution over a front of the replies, each of which was taken, has this end; all of them were where it lacks an answer
  pub record HasEnded (e : End) : Type 0 where
    pub used : List Reply
    pub left : List Reply
    pub front : used ++ left ≡ replies
    pub fitting : Fitting told b (answers used)
    pub end : end told b (answers used) ≡ Some e
    pub all : (q : Ask) → e ≡ Out q → left ≡ []
    pub lines : all_lines ≡ lines_of (asks told b (answers used)) used

  -- a front of the replies was taken, and for a criterion of the next ask a pattern was too big
  pub record IsCut : Type 0 where
    pub used : List Reply
    pub reply : Reply
    pub left : List Reply
    pub front : used ++ reply ∷ left ≡ replies
    pub fitting : Fitting told b (answers used)
    pub ask : Ask
    pub next : end told b (answers used) ≡ Some (Out ask)
    pub lines : all_lines ≡ lines_of (asks told b (answers used) ++ ask ∷ []) (used ++ reply ∷ [])

  abbrev pub Comes : Outcome → Type 0
  Comes (Ended e) = HasEnded e
  Comes Pattern = IsCut

-- what the run over these replies comes to, where all that it needs of patterns is told
abbrev pub IsMock : Patterned → Bundle → List Reply → Session → Type 0
IsMock told b replies s = IsTold told b (answers replies) → Comes told b replies s.lines s.outcome

-- a pattern was too big only where the count rose, and a criterion needs one
abbrev pub OnlyWhereRose : Bundle → (old new : PatternsView) → Outcome → Type 0
OnlyWhereRose b old new (Ended e) = Unit {0}
OnlyWhereRose b old new Pattern = Rose old.too_big new.too_big × (asks_patterns b ≡ true)
