use Rattle.std.proofs.Common.{}
use Rattle.arz_request.proofs.headers.push_length.Goals as goal

pub returns : goal.returns
returns c = rw (c.as_bytes.ensures.value, c.in_ok-digits.ensures) at c.push_line.ensures
