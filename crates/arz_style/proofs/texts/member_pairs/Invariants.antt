use Rattle.std.proofs.Common.{◌≡◌, drop}
use Rattle.arz_style.specs.Texts.{pairs_of}
use Rattle.arz_style.proofs.Fronts.{front}
use Rattle.arz_style.proofs.texts.member_pairs.Given as goal

abbrev pub invariant-loop-member : goal.invariant-loop-member
invariant-loop-member l = pairs_of l.escape l.members ≡ front l.pairs.items (pairs_of l.escape (drop l.member-index l.members))
