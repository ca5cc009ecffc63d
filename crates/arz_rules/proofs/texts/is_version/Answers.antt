use Rattle.std.proofs.Common.{◌∙◌}
use Rattle.arz_rules.specs.Texts.{is_digit, is_filled}
use Rattle.arz_rules.proofs.Prefixes.{behind, not_behind}
use Rattle.arz_rules.proofs.texts.is_version.Goals as goal

pub returns-in-Some : goal.returns-in-Some
returns-in-Some c =
    let found = c.in-Some.ensures.cases in
    c.is_number.ensures ∙ behind (is_filled is_digit) c.args.prefix.now c.args.text.now c.in-Some.rest.now found.0 found.1.0 found.1.1 found.2

pub returns-in-None : goal.returns-in-None
returns-in-None c = not_behind (is_filled is_digit) c.args.prefix.now c.args.text.now c.in-None.ensures.cases
