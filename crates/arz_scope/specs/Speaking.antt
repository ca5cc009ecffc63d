-- What the expressions of a run speak of, as one value (Arazzo 1.0.1, 4.7).
use Rattle.std.specs.Prelude.{List, [], ◌∷◌, Option, Some, None, refl}
use Rattle.std.specs.Coded.{Coded, code_by, coded×, coded_list, coded_option}
use Rattle.arz_json.specs.contracts.tree.Json as json
use Rattle.arz_json.specs.contracts.tree.Member as member
use Rattle.arz_json.specs.declared.Json.{Json}
use Rattle.arz_json.specs.declared.Member.{Member}
use Rattle.arz_world.specs.contracts.messages.Reply as reply
use Rattle.arz_world.specs.contracts.messages.Request as request
use Rattle.arz_world.specs.declared.Reply.{Reply}
use Rattle.arz_world.specs.declared.Request.{Request}
use Rattle.arz_scope.specs.contracts.facts.Completion as completion
use Rattle.arz_scope.specs.contracts.facts.Fact as fact
use Rattle.arz_scope.specs.declared.facts.Completion.{Completion}
use Rattle.arz_scope.specs.declared.facts.Fact.{Fact}
use Rattle.arz_scope.specs.Scopes.{Surroundings, Attempt, Nothing, Exchange, Inner, with_fact, with_completion}

-- the description, the inputs and the facts of a run, and the completions; where an attempt is spoken of, its request and
-- reply, or the outputs of its inner run
pub record Speaking : Type 0 where
  pub description : Json
  pub inputs : List Member
  pub facts : List Fact
  pub done : List Completion
  pub exchange : Option (Request × Reply)
  pub inner : Option (List Member)

abbrev pub run_of : Speaking → Surroundings
run_of s = record { description = s.description; inputs = s.inputs; facts = s.facts; done = s.done }

abbrev pub attempt_of : Option (Request × Reply) → Option (List Member) → Attempt
attempt_of (Some e) inner = Exchange e.0 e.1
attempt_of None (Some outputs) = Inner outputs
attempt_of None None = Nothing

-- the facts, and one that comes after them
abbrev pub facts_after : Option Fact → List Fact → List Fact
facts_after None facts = facts
facts_after (Some fact) facts = with_fact fact facts

-- the completions, and those that come after them in order
abbrev pub completions_after : List Completion → List Completion → List Completion
completions_after [] done = done
completions_after (c ∷ cs) done = completions_after cs (with_completion c done)

-- ---- how a value is stored

abbrev pub exchange_code : Coded (Request × Reply)
exchange_code = coded× request.the_row.coded reply.the_row.coded

abbrev pub speaking_code : Coded Speaking
speaking_code =
    code_by (Json × (List Member × (List Fact × (List Completion × (Option (Request × Reply) × Option (List Member))))))
    (coded× json.the_row.coded (coded× (coded_list member.the_row.coded) (coded× (coded_list fact.the_row.coded) (coded× (coded_list completion.the_row.coded) (coded× (coded_option exchange_code) (coded_option (coded_list member.the_row.coded)))))))
    (λ s. (s.description, (s.inputs, (s.facts, (s.done, (s.exchange, s.inner))))))
    (λ p. record { description = p.0; inputs = p.1.0; facts = p.1.1.0; done = p.1.1.1.0; exchange = p.1.1.1.1.0; inner = p.1.1.1.1.1 })
    (λ _. refl)
