use Rattle.arz_overlay.proofs.Targets.{queries_are_those_of_the_grammar}
use Rattle.arz_overlay.proofs.laws.queries_are_those_of_the_grammar.Goals as goal

pub returns : goal.returns
returns c = queries_are_those_of_the_grammar
