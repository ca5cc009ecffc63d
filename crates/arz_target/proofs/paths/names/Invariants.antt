use Rattle.std.proofs.Common.{◌≡◌, ◌++◌, map, length, IsUtf8}
use Rattle.arz_target.specs.Templates.{names}
use Rattle.arz_target.proofs.paths.names.Given as goal

-- what was found and the names of what is left make the whole
abbrev pub invariant-cuts : goal.invariant-cuts
invariant-cuts l = record { found : map (λ t. t.now) l.found.items ++ names l.rest ≡ names l.path; text : IsUtf8 l.rest }

abbrev pub decreases-cuts : goal.decreases-cuts
decreases-cuts l = length l.rest
