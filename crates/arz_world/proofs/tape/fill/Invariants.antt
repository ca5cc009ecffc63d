use Rattle.std.proofs.Common.{◌≡◌, drop}
use Rattle.arz_world.specs.Replay.{filled}
use Rattle.arz_world.proofs.tape.fill.Given as goal

abbrev pub invariant-loop-span : goal.invariant-loop-span
invariant-loop-span l = filled l.byte (drop l.span-index l.spans) l.image.items ≡ filled l.byte l.spans l.fn.image.items
