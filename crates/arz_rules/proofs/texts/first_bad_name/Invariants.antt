use Rattle.std.proofs.Common.{◌≡◌, drop}
use Rattle.arz_rules.specs.Place.{least, lesser, tokens_in}
use Rattle.arz_rules.specs.Texts.{is_name}
use Rattle.arz_rules.specs.Sets.{bad_names_in}
use Rattle.arz_rules.proofs.texts.first_bad_name.Given as goal

abbrev pub invariant-loop-member : goal.invariant-loop-member
invariant-loop-member l = least (bad_names_in is_name l.members) ≡ lesser (tokens_in l.best) (least (bad_names_in is_name (drop l.member-index l.members)))
