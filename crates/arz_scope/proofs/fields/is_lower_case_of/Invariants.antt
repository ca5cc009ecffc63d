use Rattle.std.proofs.Common.{◌≡◌, length, drop}
use Rattle.std.specs.Str.{bytes_eq, str_to_ascii_lowercase}
use Rattle.arz_scope.proofs.fields.is_lower_case_of.Given as goal

abbrev pub invariant-loop-i : goal.invariant-loop-i
invariant-loop-i l =
    (length l.text ≡ length l.other)
    × (bytes_eq (str_to_ascii_lowercase l.other) l.text ≡ bytes_eq (str_to_ascii_lowercase (drop l.i l.other)) (drop l.i l.text))
