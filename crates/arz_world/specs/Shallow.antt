-- Trees that nest no deeper than one that is read from a text, inside of a request.
use Rattle.std.specs.Prelude.{All}
use Rattle.std.specs.Option.{ForSome}
use Rattle.arz_json.specs.Shallow.{IsShallow}
use Rattle.arz_world.specs.declared.messages.Request.{Request}

-- each value that a request was made of, and its payload, is shallow
pub record SendsShallow (q : Request) : Type 0 where
  pub values : All (λ s. IsShallow s.value) q.values
  pub payload : ForSome q.payload IsShallow
