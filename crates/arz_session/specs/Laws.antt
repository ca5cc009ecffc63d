-- Statements of the laws of runs over given replies, where `told` is what is told of patterns.
use Rattle.std.specs.Prelude.{◌≡◌, ◌≤◌, List, [], ◌++◌, length, Some}
use Rattle.arz_world.specs.declared.Reply.{Reply}
use Rattle.arz_flow.specs.declared.answers.Ask.{Ask}
use Rattle.arz_flow.specs.declared.answers.End.{End}
use Rattle.arz_flow.specs.declared.answers.End.TheVariants.{Out}
use Rattle.arz_flow.specs.declared.bundle.Bundle.{Bundle}
use Rattle.arz_flow.specs.Executions.{end, Fitting, IsTold}
use Rattle.arz_flow.specs.Valid.{IsValid, steps_limit}
use Rattle.arz_flow.specs.Verdicts.{Patterned}
use Rattle.arz_session.specs.Mock.{answers}

-- the execution takes a front of the replies and comes to an end, and takes all of them where it lacks an answer
pub record HasEndOver (told : Patterned) (b : Bundle) (replies : List Reply) : Type 0 where
  pub used : List Reply
  pub left : List Reply
  pub front : used ++ left ≡ replies
  pub fitting : Fitting told b (answers used)
  pub came : End
  pub over : end told b (answers used) ≡ Some came
  pub all : (q : Ask) → came ≡ Out q → left ≡ []
  -- at most one reply for each step
  pub few : length used ≤ steps_limit

-- Over any replies, the execution of a valid bundle has such an end, where all that it needs of patterns is told.
abbrev pub EndsOver : Patterned → Type 0
EndsOver told = (b : Bundle) (replies : List Reply) → IsValid b → IsTold told b (answers replies) → HasEndOver told b replies
