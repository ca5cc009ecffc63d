use Rattle.std.proofs.Common.{◌≡◌, ◌++◌, drop, string_bytes}
use Rattle.std.specs.List.{flat_map}
use Rattle.arz_style.proofs.writing.push_others.Given as goal

abbrev pub invariant-loop-text : goal.invariant-loop-text
invariant-loop-text l =
    string_bytes l.out ++ flat_map (λ t. l.separator ++ t) (drop l.text-index l.texts)
    ≡ string_bytes l.initial.out ++ flat_map (λ t. l.separator ++ t) l.texts
