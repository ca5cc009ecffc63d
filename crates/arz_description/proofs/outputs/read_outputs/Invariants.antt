use Rattle.std.proofs.Common.{◌≡◌, take}
use Rattle.arz_description.specs.Parts.{outputs_of}
use Rattle.arz_description.proofs.outputs.read_outputs.Given as goal

abbrev pub invariant-loop-member : goal.invariant-loop-member
invariant-loop-member l = l.outputs ≡ outputs_of (take l.member-index l.members)
