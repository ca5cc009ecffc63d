-- What the expressions of a case stand for: parts of one object.
use Rattle.std.specs.Prelude.{codes, Option, Some, None, option_and_then}
use Rattle.arz_json.specs.Look.{member_in}
use Rattle.arz_json.specs.declared.Json.{Json}
use Rattle.arz_expr.specs.declared.syntax.Base.{Base}
use Rattle.arz_expr.specs.declared.syntax.Base.TheVariants as base

abbrev pub base_value : Json → Base → Option Json
base_value root (base.Input name) = member_in name root
base_value root (base.ResponseHeader name) = option_and_then (member_in name) (member_in (codes "header") root)
base_value root base.StatusCode = member_in (codes "statusCode") root
base_value root base.ResponseBody = member_in (codes "body") root
base_value root _ = None
