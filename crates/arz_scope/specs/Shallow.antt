-- Trees that nest no deeper than one that is read from a text, inside of what a run holds.
use Rattle.std.specs.Prelude.{List, All}
pub use Rattle.arz_json.specs.Shallow.{IsShallow, AreShallow}
pub use Rattle.arz_world.specs.Shallow.{SendsShallow}
use Rattle.arz_scope.specs.declared.facts.Completion.{Completion}
use Rattle.arz_scope.specs.declared.facts.Fact.{Fact}

-- each output of each fact is shallow
abbrev pub HaveShallow : List Fact → Type 0
HaveShallow facts = All (λ f. AreShallow f.outputs) facts

-- the inputs and the outputs of a completion are shallow
abbrev pub IsShallowCompletion : Completion → Type 0
IsShallowCompletion c = AreShallow c.inputs × AreShallow c.outputs

abbrev pub AreDoneShallow : List Completion → Type 0
AreDoneShallow done = All IsShallowCompletion done
