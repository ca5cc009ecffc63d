use Rattle.std.proofs.lemmas.Str.{IsUtf8-string_bytes}
use Rattle.arz_style.proofs.styles.lay.Goals as goal

pub returns-clause-text : goal.returns-clause-text
returns-clause-text c = rw (c.from_std.ensures, c.into_bytes.ensures.value) (IsUtf8-string_bytes c.if-not-is_empty.out)
