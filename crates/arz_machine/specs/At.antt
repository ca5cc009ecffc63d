-- Where the machine stands in an execution, where `told` is what is told of patterns.
use Rattle.std.specs.Prelude.{ℕ, ◌≡◌, ◌≤◌, false, List, length, Option, Some}
use Rattle.arz_flow.specs.declared.answers.Ask.TheVariants.{Send}
use Rattle.arz_flow.specs.declared.answers.Answer.{Answer}
use Rattle.arz_flow.specs.declared.answers.End.{End}
use Rattle.arz_flow.specs.declared.answers.End.TheVariants.{Out}
use Rattle.arz_flow.specs.declared.bundle.Bundle.{Bundle}
use Rattle.arz_scope.specs.declared.facts.Fact.{Fact}
use Rattle.arz_flow.specs.Documents.{steps_of}
use Rattle.arz_flow.specs.Verdicts.{Patterned}
use Rattle.arz_machine.specs.declared.machine.Machine.{Machine}
use Rattle.arz_machine.specs.declared.machine.Next.{Next}
use Rattle.arz_machine.specs.declared.machine.Next.TheVariants.{Send as NextSend, Ended as NextEnded}
use Rattle.arz_machine.specs.Resting.{rest_of}
use Rattle.arz_machine.specs.Rests.{lacks_answer, Rests}
use Rattle.arz_machine.specs.States.{Rest, Sends, Ended}

-- all that a machine holds: its bundle, the facts so far, the index of the step, and where it rests
pub record Standing : Type 0 where
  pub bundle : Bundle
  pub facts : List Fact
  pub step : ℕ
  pub rest : Rest

abbrev pub standing : Machine → Standing
standing m = record { bundle = m.run.bundle.now; facts = m.run.facts; step = m.step; rest = rest_of m.state }

-- the machine has taken these answers
pub record At (told : Patterned) (m : Standing) (b : Bundle) (r : List Answer) : Type 0 where
  pub bundle : m.bundle ≡ b
  pub count : length r ≡ m.step
  pub within : m.step ≤ length (steps_of b b.workflow)
  pub rests : Rests told b m.facts m.step m.rest r

-- where a machine rests whose next is this
abbrev pub rest_told : Next → Rest
rest_told (NextSend q) = Sends q.now
rest_told (NextEnded e) = Ended e.now

-- whether this is the end that the next of a machine tells of
abbrev pub Tells : Next → Option End → Type 0
Tells (NextSend q) e = e ≡ Some (Out (Send q.now))
Tells (NextEnded x) e = (e ≡ Some x.now) × (lacks_answer x.now ≡ false)
