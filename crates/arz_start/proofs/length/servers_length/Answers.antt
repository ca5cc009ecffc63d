use Rattle.std.proofs.Common.{ℕ, ◌+◌, List, length, drop, ap₂, arith}
use Rattle.std.proofs.lemmas.List.{drop_all}
use Rattle.arz_json.specs.declared.Json.TheVariants.{Text}
use Rattle.arz_wire.specs.Spelling.{spelling, counted}
use Rattle.arz_start.specs.Lengths.{member_bytes}
use Rattle.arz_start.specs.StartTree.{server_of}
use Rattle.arz_start.proofs.Lengths.{measures_same, item_bytes, mapped_bytes}
use Rattle.arz_start.proofs.length.servers_length.Goals as goal

pub loop-server-preserved : goal.loop-server-preserved
loop-server-preserved c =
    let s = c.server-item.result in
    let m = server_of s in
    let i = c.loop-server.server-index in
    let a = c.loop-server.invariant.0 in
    let sized = measures_same c.member_length.result _ (member_bytes m) (c.member_length.ensures _ c.text_length-value.ensures)
    (ap₂ (λ (n t : List ℕ). length (counted n) + length (spelling (Text t))) c.as_str-in-loop-server.ensures c.as_str.ensures) in (
      a + member_bytes m,
      c.sum-total.ensures a (member_bytes m) c.loop-server.invariant.1 sized,
      omega (arith, c.loop-server.invariant.2, item_bytes server_of c.args.servers.now i s c.loop-server-test.true c.server-item.is),
    )

pub returns : goal.returns
returns c =
    let i = c.loop-server.server-index in
    measures_same c.loop-server.total c.loop-server.invariant.0 _ c.loop-server.invariant.1
    (mapped_bytes server_of c.args.servers.now (drop i c.args.servers.now) c.loop-server.invariant.0 (drop_all i c.args.servers.now c.loop-server-test.false) c.loop-server.invariant.2)
