use Rattle.std.proofs.Common.{string_bytes}
use Rattle.arz_operation.proofs.Filling.{goes-on}
use Rattle.arz_operation.proofs.servers.push_filled.Goals as goal

pub cuts-preserved : goal.cuts-preserved
cuts-preserved c =
    let cut = c.in-Some.cut in (
      goes-on c.args.variables.now _ (string_bytes c.cuts.out) _ (string_bytes c.push_value.new.out) c.cuts.rest.now cut.before.now cut.name.now cut.rest.now
          c.cuts.invariant.0 (c.in-Some.ensures.parts c.args.variables.now) c.in_ok-push_str.ensures.bytes c.in_ok-push_value.ensures,
      c.in-Some.ensures.smaller.1,
    )
