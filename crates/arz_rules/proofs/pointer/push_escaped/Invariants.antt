use Rattle.std.proofs.Common.{◌≡◌, string_bytes, ◌++◌}
use Rattle.std.specs.Str.Iter.{chars_rest}
use Rattle.arz_rules.specs.Pointer.{escaped}
use Rattle.arz_rules.proofs.pointer.push_escaped.Given as goal

-- what is written so far, and what is to come of the rest, is the whole
abbrev pub invariant-loop-c : goal.invariant-loop-c
invariant-loop-c l =
    string_bytes l.initial.out ++ escaped l.name ≡ string_bytes l.out ++ escaped (chars_rest l.c-iterator)
