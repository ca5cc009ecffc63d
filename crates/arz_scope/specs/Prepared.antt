-- The trees that the expressions of an attempt read, made of its request and reply.
use Rattle.std.specs.Prelude.{◌≡◌, ◌++◌, ℕ, pos, List, Option, codes}
use Rattle.arz_json.specs.declared.Json.{Json}
use Rattle.arz_json.specs.declared.Json.TheVariants.{Int, Text}
use Rattle.arz_world.specs.declared.Reply.{Reply}
use Rattle.arz_world.specs.declared.Request.{Request}
use Rattle.arz_scope.specs.Bodies.{header_field, body_value}
use Rattle.arz_world.specs.Requests.{authority}
use Rattle.arz_scope.specs.Shallow.{IsShallow, SendsShallow}
use Rattle.arz_scope.specs.Fields.{field_named}
use Rattle.arz_scope.specs.declared.fields.Field.{Field}

-- `http://`, the value of the Host line, and the target
abbrev pub url_of : Request → List ℕ
url_of q = codes "http://" ++ authority q.server ++ q.target

-- what each of the trees is
pub record IsPrepared (q : Request) (y : Reply) (url method status : Json) (fields : List Field) (body : Option Json) : Type 0 where
  pub request_is_shallow : SendsShallow q
  pub url_is : url ≡ Text (url_of q)
  pub method_is : method ≡ Text q.method
  pub status_is : status ≡ Int (pos y.status)
  pub status_is_shallow : IsShallow status
  pub fields_are : (name : List ℕ) → field_named fields name ≡ header_field y name
  pub body_is : body ≡ body_value y
