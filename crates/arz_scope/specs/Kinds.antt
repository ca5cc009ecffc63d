-- How a body is read, as the code sees it.
use Rattle.std.specs.Prelude.{◌||◌, not, Bool, codes}
use Rattle.std.specs.Str.{str_eq_ignore_ascii_case}
use Rattle.arz_world.specs.declared.Header.{Header}
use Rattle.arz_scope.specs.Bodies.{Kind, AsJson, AsText, Unread, has_name}
use Rattle.arz_scope.specs.declared.bodies.BodyKind.{BodyKind}
use Rattle.arz_scope.specs.declared.bodies.BodyKind.TheVariants as body

-- a kind as the code holds it, seen as the definitions have it
abbrev pub kind_seen : BodyKind → Kind
kind_seen body.Json = AsJson
kind_seen body.Text = AsText
kind_seen body.Unread = Unread

-- the line names no other coding than `identity`
abbrev pub is_plain_line : Header → Bool
is_plain_line h = not (has_name (codes "content-encoding") h) || str_eq_ignore_ascii_case h.value (codes "identity")
