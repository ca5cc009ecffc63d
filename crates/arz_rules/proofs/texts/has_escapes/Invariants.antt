use Rattle.std.proofs.Common.{◌≡◌, drop, false}
use Rattle.arz_rules.specs.Texts.{are_escapes}
use Rattle.arz_rules.proofs.texts.has_escapes.Given as goal

abbrev pub invariant-loop-byte : goal.invariant-loop-byte
invariant-loop-byte l = are_escapes false l.bytes ≡ are_escapes l.after_tilde (drop l.byte-index l.bytes)
