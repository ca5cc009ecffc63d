use Rattle.std.proofs.Common.{◌∙◌, arith}
use Rattle.std.proofs.lemmas.Str.Pattern.{find_char}
use Rattle.arz_target.proofs.Slashes.{slash-at, authority-at, path-at, authority-all, path-none}
use Rattle.arz_target.proofs.urls.at_slash.Goals as goal

pub returns-in-Some-clause-authority : goal.returns-in-Some-clause-authority
returns-in-Some-clause-authority c =
    let text = c.args.text.now in
    let found = rw c.in-Some.is at (find_char 47 text c.find.result c.find.ensures.cases (omega arith)) in
    c.split_at.ensures.front ∙ authority-at text c.in-Some.at (slash-at text c.in-Some.at found.0 found.1 found.2)

pub returns-in-Some-clause-path : goal.returns-in-Some-clause-path
returns-in-Some-clause-path c =
    let text = c.args.text.now in
    let found = rw c.in-Some.is at (find_char 47 text c.find.result c.find.ensures.cases (omega arith)) in
    c.split_at.ensures.back ∙ path-at text c.in-Some.at (slash-at text c.in-Some.at found.0 found.1 found.2)

pub returns-in-None-clause-authority : goal.returns-in-None-clause-authority
returns-in-None-clause-authority c = authority-all c.args.text.now (rw c.in-None.is at (find_char 47 c.args.text.now c.find.result c.find.ensures.cases (omega arith)))

pub returns-in-None-clause-path : goal.returns-in-None-clause-path
returns-in-None-clause-path c = path-none c.args.text.now (rw c.in-None.is at (find_char 47 c.args.text.now c.find.result c.find.ensures.cases (omega arith)))
