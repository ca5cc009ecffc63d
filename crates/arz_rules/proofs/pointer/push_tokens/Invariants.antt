use Rattle.std.proofs.Common.{◌≡◌, string_bytes, ◌++◌, drop}
use Rattle.arz_rules.specs.Pointer.{pointer_text}
use Rattle.arz_rules.proofs.pointer.push_tokens.Given as goal

abbrev pub invariant-loop-token : goal.invariant-loop-token
invariant-loop-token l =
    string_bytes l.initial.out ++ pointer_text l.tokens ≡ string_bytes l.out ++ pointer_text (drop l.token-index l.tokens)
