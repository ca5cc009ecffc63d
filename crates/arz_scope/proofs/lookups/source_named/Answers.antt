use Rattle.std.proofs.Common.{codes, subst, sym}
use Rattle.std.specs.Prelude.{All}
use Rattle.arz_scope.specs.Shallow.{IsShallow}
use Rattle.arz_scope.proofs.Depths.{items-shallow}
use Rattle.arz_scope.proofs.lookups.source_named.Goals as goal

pub returns-clause-shallow : goal.returns-clause-shallow
returns-clause-shallow c =
    λ w. c.among_sources.ensures.shallow (subst (All IsShallow) (sym c.items_at.ensures) (items-shallow (codes "sourceDescriptions") c.args.description.now w))
