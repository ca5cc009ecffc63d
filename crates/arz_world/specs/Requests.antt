-- The bytes of a request (RFC 9112, 2.1 and 3).
use Rattle.std.specs.Prelude.{ℕ, ◌==◌, List, [], ◌∷◌, ◌++◌, codes, if◌then◌else◌, Option, Some, None}
use Rattle.std.specs.List.{flat_map}
use Rattle.std.specs.Fmt.{decimal}
use Rattle.arz_world.specs.declared.messages.Header.{Header}
use Rattle.arz_world.specs.declared.messages.Request.{Request}
use Rattle.arz_world.specs.declared.messages.Server.{Server}

-- CR LF
abbrev pub line_end : List ℕ
line_end = 13 ∷ 10 ∷ []

-- METHOD TARGET HTTP/1.1 (RFC 9112, 3)
abbrev pub request_line : Request → List ℕ
request_line q = q.method ++ codes " " ++ q.target ++ codes " HTTP/1.1" ++ line_end

-- NAME: VALUE (RFC 9112, 5)
abbrev pub header_line : Header → List ℕ
header_line h = h.name ++ codes ": " ++ h.value ++ line_end

abbrev pub body_of : Option (List ℕ) → List ℕ
body_of None = []
body_of (Some body) = body

-- the request line, the header lines in order, the empty line and the body
abbrev pub request_bytes : Request → List ℕ
request_bytes q = request_line q ++ flat_map header_line q.headers ++ line_end ++ body_of q.body

-- `:PORT`, where it isn't the default (RFC 9110, 4.2.1)
abbrev pub port_suffix : ℕ → List ℕ
port_suffix port = if port == 80 then [] else codes ":" ++ decimal port

-- the value of the Host line (RFC 9110, 7.2)
abbrev pub authority : Server → List ℕ
authority server = server.host ++ port_suffix server.port
