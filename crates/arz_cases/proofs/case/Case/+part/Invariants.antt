use Rattle.std.proofs.Common.{◌+◌, ◌*◌}
use Rattle.arz_cases.proofs.case.Case.+part.Given as goal

abbrev pub decreases-add_part : goal.decreases-add_part
decreases-add_part l = 2 * l.levels

abbrev pub decreases-add_parts : goal.decreases-add_parts
decreases-add_parts l = 2 * l.levels + 1

abbrev pub decreases-add_described : goal.decreases-add_described
decreases-add_described l = 2 * l.levels + 1
