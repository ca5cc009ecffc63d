use Rattle.arz_real.proofs.Meanings.{answers}
use Rattle.arz_real.proofs.regex_patterns.RegexPatternsPatterns.search.Goals as goal

pub returns-else-matches-clause-answer : goal.returns-else-matches-clause-answer
returns-else-matches-clause-answer c = answers c.args.pattern.now c.args.text.now c.search-answer.result c.search-answer.ensures
