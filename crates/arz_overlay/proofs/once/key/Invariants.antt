use Rattle.std.proofs.Common.{◌≡◌, ◌++◌, drop}
use Rattle.arz_overlay.specs.Applied.{key_of}
use Rattle.arz_overlay.proofs.once.key.Given as goal

abbrev pub invariant-loop-token : goal.invariant-loop-token
invariant-loop-token l = l.key.items ++ key_of (drop l.token-index l.tokens) ≡ key_of l.tokens
