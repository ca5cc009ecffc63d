use Rattle.std.proofs.Common.{sym, ◌∙◌}
use Rattle.arz_target.proofs.Ports.{port}
use Rattle.arz_target.proofs.urls.read_port.Goals as goal

pub returns-then-is_port : goal.returns-then-is_port
returns-then-is_port c =
    c.ok.ensures.value
    ∙ port c.args.digits.now c.parse.result (rw c.as_bytes.ensures.value at (sym c.is_port.ensures ∙ c.if-is_port.true)) c.parse.ensures.value.0
