-- What the code's words for what a run looks back at mean.
use Rattle.std.specs.Prelude.{List, Option, Some, None}
use Rattle.std.specs.Option.{option_copied, ForSome}
use Rattle.arz_json.specs.declared.Json.{Json}
use Rattle.arz_json.specs.declared.Member.{Member}
use Rattle.arz_world.specs.declared.Reply.{Reply}
use Rattle.arz_world.specs.declared.Request.{Request}
use Rattle.arz_scope.specs.declared.facts.Completion.{Completion}
use Rattle.arz_scope.specs.declared.facts.Fact.{Fact}
use Rattle.arz_scope.specs.declared.remembered.Remembered.{Remembered}
use Rattle.arz_scope.specs.declared.remembered.Tried.{Tried}
use Rattle.arz_scope.specs.declared.remembered.Tried.TheVariants as tried
use Rattle.arz_scope.specs.Shallow.{AreShallow, HaveShallow, AreDoneShallow}
use Rattle.arz_scope.specs.Speaking.{Speaking, facts_after, completions_after}

abbrev pub facts_in : Remembered → List Fact
facts_in m = facts_after (option_copied m.fact) m.facts.now

abbrev pub done_in : Remembered → List Completion
done_in m = completions_after m.newly.now m.done.now

abbrev pub exchange_in : Tried → Option (Request × Reply)
exchange_in tried.Nothing = None
exchange_in (tried.Exchange e) = Some e.now
exchange_in (tried.Inner outputs) = None

abbrev pub inner_in : Tried → Option (List Member)
inner_in tried.Nothing = None
inner_in (tried.Exchange e) = None
inner_in (tried.Inner outputs) = Some outputs.now

-- what expressions speak of there
abbrev pub spoken : Json → List Member → Remembered → Tried → Speaking
spoken description inputs m t = record {
  description = description;
  inputs = inputs;
  facts = facts_in m;
  done = done_in m;
  exchange = exchange_in t;
  inner = inner_in t;
}

-- each tree that is remembered is shallow
pub record IsShallowMemory (m : Remembered) : Type 0 where
  pub facts : HaveShallow m.facts.now
  pub fact : ForSome (option_copied m.fact) (λ f. AreShallow f.outputs)
  pub done : AreDoneShallow m.done.now
  pub newly : AreDoneShallow m.newly.now
