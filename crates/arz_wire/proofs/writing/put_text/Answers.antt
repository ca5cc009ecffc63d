use Rattle.std.proofs.Common.{subst, IsUtf8}
use Rattle.std.proofs.lemmas.Str.{is_utf8-from_IsUtf8}
use Rattle.arz_wire.proofs.writing.put_text.Goals as goal

pub returns-in_err-put_number-clause-text : goal.returns-in_err-put_number-clause-text
returns-in_err-put_number-clause-text c = is_utf8-from_IsUtf8 c.args.text.now (subst IsUtf8 c.as_bytes-bytes.ensures.value c.as_bytes-bytes.ensures.utf8)

pub returns-clause-text : goal.returns-clause-text
returns-clause-text c = is_utf8-from_IsUtf8 c.args.text.now (subst IsUtf8 c.as_bytes-bytes.ensures.value c.as_bytes-bytes.ensures.utf8)
