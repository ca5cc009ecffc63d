use Rattle.std.proofs.Common.{Ok}
use Rattle.std.proofs.lemmas.Result.{IfOk-weaker}
use Rattle.arz_probe.specs.Overlays.{applied}
use Rattle.arz_probe.proofs.Overlaying.{prints_meant, prints_refused, prints_pattern}
use Rattle.arz_probe.proofs.overlays.overlaid_report.Goals as goal

pub returns-in-Ok : goal.returns-in-Ok
returns-in-Ok g c =
    let old = g.P.Patterns.patterns c.args.patterns.now in
    let new = g.P.Patterns.patterns c.overlaid.new.patterns in
    let m = applied old.told c.args.document.now c.args.root.now in
    IfOk-weaker _ _ _ (λ r is. prints_meant m (Ok c.in-Ok.tree) old new r c.in-Ok.ensures.applies is) c.tree_report.ensures

pub returns-in-Err-Refused : goal.returns-in-Err-Refused
returns-in-Err-Refused g c =
    let old = g.P.Patterns.patterns c.args.patterns.now in
    let new = g.P.Patterns.patterns c.overlaid.new.patterns in
    let m = applied old.told c.args.document.now c.args.root.now in
    IfOk-weaker _ _ _ (λ r is. prints_refused m c.in-Err-Refused.field-0 c.in-Err-Refused.refusal old new r c.in-Err-Refused.field-0-is c.in-Err-Refused.ensures.applies is) c.refusal_report.ensures

pub returns-in-Err-Pattern : goal.returns-in-Err-Pattern
returns-in-Err-Pattern g c =
    let old = g.P.Patterns.patterns c.args.patterns.now in
    let new = g.P.Patterns.patterns c.overlaid.new.patterns in
    let m = applied old.told c.args.document.now c.args.root.now in
    IfOk-weaker _ _ _ (λ r is. prints_pattern m c.in-Err-Pattern.field-0 old new r c.in-Err-Pattern.field-0-is c.in-Err-Pattern.ensures.applies is) c.pattern_report.ensures
