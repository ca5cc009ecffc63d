use Rattle.std.proofs.Common.{codes, sym}
use Rattle.arz_json.proofs.Parts.{IsWithin-member_in}
use Rattle.arz_scope.proofs.lookups.source_kind.Goals as goal

pub returns-in-Some-clause-shallow : goal.returns-in-Some-clause-shallow
returns-in-Some-clause-shallow c =
    λ w. IsWithin-member_in 127 (codes "type") c.in_ok-source.source.now c.in-Some.kind.now (sym c.in-Some.ensures) (c.in_ok-source.ensures.shallow w)
