use Rattle.std.proofs.Common.{◌≡◌, ◌-◌, ◌^◌, min, length, take}
use Rattle.std.specs.List.{flat_map}
use Rattle.arz_world.specs.Requests.{header_line}
use Rattle.arz_request.proofs.size.headers_size.Given as goal

abbrev pub invariant-loop-header : goal.invariant-loop-header
invariant-loop-header l = l.size ≡ min (length (flat_map header_line (take l.header-index l.headers))) (2 ^ 64 - 1)
