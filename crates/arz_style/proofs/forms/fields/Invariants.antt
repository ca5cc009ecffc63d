use Rattle.std.proofs.Common.{◌≡◌, drop}
use Rattle.arz_style.specs.Forms.{fields_of}
use Rattle.arz_style.proofs.Fronts.{front}
use Rattle.arz_style.proofs.forms.fields.Given as goal

abbrev pub invariant-loop-member : goal.invariant-loop-member
invariant-loop-member l = fields_of l.members ≡ front l.pairs.items (fields_of (drop l.member-index l.members))
