-- ---- for private clauses: trees and their places as the code holds them
use Rattle.std.specs.Prelude.{List}
use Rattle.arz_json.specs.declared.tree.Json.{Json}
use Rattle.arz_json.specs.declared.place.Token.{Token}
use Rattle.arz_openapi.specs.declared.behind.Step.{Step}
use Rattle.arz_openapi.specs.declared.behind.Spot as behind

abbrev pub seen_step : Step → Token × Json
seen_step s = (s.token, s.tree.now)

abbrev pub seen_spot : behind.Spot → List Token × Json
seen_spot s = (s.tokens, s.tree.now)
