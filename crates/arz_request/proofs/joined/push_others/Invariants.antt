use Rattle.std.proofs.Common.{◌≡◌, ◌++◌, map, take, string_bytes}
use Rattle.std.specs.List.{flat_map}
use Rattle.arz_request.proofs.joined.push_others.Given as goal

abbrev pub invariant-loop-text : goal.invariant-loop-text
invariant-loop-text l =
    string_bytes l.out ≡ string_bytes l.initial.out ++ flat_map (λ t. l.separator ++ t) (map (λ t. t.now) (take l.text-index l.texts))
