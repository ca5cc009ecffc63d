use Rattle.std.proofs.Common.{◌≡◌, map, drop}
use Rattle.arz_rules.specs.Place.{least, lesser, tokens_in}
use Rattle.arz_rules.specs.Sets.{has}
use Rattle.arz_openapi.specs.Rules.{repeated, none_taken}
use Rattle.arz_openapi.specs.Sites.{seen}
use Rattle.arz_openapi.proofs.ids.first_repeat.Given as goal

abbrev pub invariant-loop-site : goal.invariant-loop-site
invariant-loop-site l = least (repeated none_taken (map seen l.sites)) ≡ lesser (tokens_in l.best) (least (repeated (has l.ids) (map seen (drop l.site-index l.sites))))
