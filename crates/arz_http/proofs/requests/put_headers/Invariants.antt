use Rattle.std.proofs.Common.{◌≡◌, ◌++◌, drop}
use Rattle.std.specs.List.{flat_map}
use Rattle.arz_world.specs.Requests.{header_line}
use Rattle.arz_http.proofs.requests.put_headers.Given as goal

abbrev pub invariant-loop-header : goal.invariant-loop-header
invariant-loop-header l = l.bytes.items ++ flat_map header_line (drop l.header-index l.headers) ≡ l.initial.bytes.items ++ flat_map header_line l.headers
