use Rattle.arz_real.proofs.kept.Kept.search.Goals as goal

pub returns-in-Some : goal.returns-in-Some
returns-in-Some c = c.search.ensures c.args.pattern.now c.in-Some.ensures
