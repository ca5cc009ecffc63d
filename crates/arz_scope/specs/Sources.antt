-- The type of a source description that names none (Arazzo 1.0.1, 4.6.3).
use Rattle.std.specs.Prelude.{codes}
use Rattle.arz_json.specs.declared.Json.{Json}
use Rattle.arz_json.specs.declared.Json.TheVariants.{Text}

abbrev pub openapi : Json
openapi = Text (codes "openapi")
