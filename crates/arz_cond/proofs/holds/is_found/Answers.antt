use Rattle.std.proofs.Common.{◌≡◌, sym, ap, ◌∙◌, arith}
use Rattle.std.proofs.lemmas.Grind.{common_steps}
use Rattle.std.specs.Fmt.{signed_decimal}
use Rattle.arz_path.proofs.Outcomes.{covers_equal}
use Rattle.arz_path.specs.Selected.{answered}
use Rattle.arz_cond.proofs.Searches.{found_null, found_flag, found_int, found_text, found_tree, found_absent, found_opaque}
use Rattle.arz_cond.proofs.holds.is_found.Goals as goal

pub returns-in-Null-clause-gives : goal.returns-in-Null-clause-gives
returns-in-Null-clause-gives g c =
    let told = (g.P.Patterns.patterns c.args.rx.now).told in
    rw (found_null told c.args.pattern.now c.args.worth c.in-Null.is) c.ask.ensures.gives

pub returns-in-Flag-clause-gives : goal.returns-in-Flag-clause-gives
returns-in-Flag-clause-gives g c =
    let told = (g.P.Patterns.patterns c.args.rx.now).told in
    let text = ap (λ t. answered (told c.args.pattern.now t)) (sym c.word_of.ensures) in
    rw (found_flag told c.args.pattern.now c.args.worth c.in-Flag.b c.in-Flag.is ∙ text) c.ask-in-Flag.ensures.gives

pub returns-in_ok-decimal-in-Int-clause-gives : goal.returns-in_ok-decimal-in-Int-clause-gives
returns-in_ok-decimal-in-Int-clause-gives g c =
    let told = (g.P.Patterns.patterns c.args.rx.now).told in
    let shown : c.as_str.result.now ≡ signed_decimal c.in-Int.n = grind (arith, common_steps) in
    let text = ap (λ t. answered (told c.args.pattern.now t)) (sym shown) in
    rw (found_int told c.args.pattern.now c.args.worth c.in-Int.n c.in-Int.is ∙ text) c.ask-in-Int.ensures.gives

pub returns-in-Text-clause-gives : goal.returns-in-Text-clause-gives
returns-in-Text-clause-gives g c =
    let told = (g.P.Patterns.patterns c.args.rx.now).told in
    rw (found_text told c.args.pattern.now c.args.worth c.in-Text.text c.in-Text.is) c.ask-in-Text.ensures.gives

pub returns-in-Tree-clause-gives : goal.returns-in-Tree-clause-gives
returns-in-Tree-clause-gives g c =
    let told = (g.P.Patterns.patterns c.args.rx.now).told in
    covers_equal _ _ (found_tree told c.args.pattern.now c.args.worth c.in-Tree.field-0 c.requires c.in-Tree.is)

pub returns-in-Absent-clause-gives : goal.returns-in-Absent-clause-gives
returns-in-Absent-clause-gives g c =
    let told = (g.P.Patterns.patterns c.args.rx.now).told in
    covers_equal _ _ (found_absent told c.args.pattern.now c.args.worth c.in-Absent.is)

pub returns-in-Opaque-clause-gives : goal.returns-in-Opaque-clause-gives
returns-in-Opaque-clause-gives g c =
    let told = (g.P.Patterns.patterns c.args.rx.now).told in
    covers_equal _ _ (found_opaque told c.args.pattern.now c.args.worth c.in-Opaque.is)
