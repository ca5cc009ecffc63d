use Rattle.arz_expr.specs.Grammar.{Reads}
use Rattle.arz_expr.specs.Reading.{reading}
use Rattle.arz_expr.proofs.Options.{from_some}
use Rattle.arz_expr.proofs.Endings.{reading-sound, reading-complete}
use Rattle.arz_expr.proofs.laws.reading_is_by_the_grammar.Goals as goal

pub returns : goal.returns
returns c = λ text e. (λ h. from_some (reading text) (Reads text) e (reading-sound text) h, reading-complete text e)
