use Rattle.arz_real.proofs.kept.Kept.first_search.Goals as goal

pub returns : goal.returns
returns c = c.search-answer.ensures c.args.pattern.now c.in_ok-compiled.ensures
