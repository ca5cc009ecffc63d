use Rattle.std.proofs.Common.{◌≡◌, drop}
use Rattle.arz_rules.specs.Place.{least, lesser, tokens_in}
use Rattle.arz_openapi.specs.Rules.{behind_members}
use Rattle.arz_openapi.proofs.behind.first_behind_paths.Given as goal

abbrev pub invariant-loop-member : goal.invariant-loop-member
invariant-loop-member l = least (behind_members l.root l.member-items) ≡ lesser (tokens_in l.best) (least (behind_members l.root (drop l.member-index l.member-items)))
