use Rattle.std.proofs.Common.{◌≡◌, drop}
use Rattle.arz_rules.specs.Place.{least, lesser, tokens_in}
use Rattle.arz_rules.specs.Sets.{has, bad_names_in}
use Rattle.arz_bundle.proofs.naming.first_other_name.Given as goal

abbrev pub invariant-loop-member : goal.invariant-loop-member
invariant-loop-member l = least (bad_names_in (has l.set) l.members) ≡ lesser (tokens_in l.best) (least (bad_names_in (has l.set) (drop l.member-index l.members)))
