use Rattle.std.proofs.Common.{◌≡◌, string_bytes, false, ◌++◌}
use Rattle.std.specs.Str.Iter.{chars_rest}
use Rattle.arz_rx.specs.Mapping.{mapped_from}
use Rattle.arz_rx.proofs.mapping.with_dots_written_out.Given as goal

-- what is written so far, and what is to come of the rest, is the whole
abbrev pub invariant-loop-c : goal.invariant-loop-c
invariant-loop-c l =
    mapped_from false false l.text ≡ string_bytes l.pattern ++ mapped_from l.escaped l.inside (chars_rest l.c-iterator)
