use Rattle.std.proofs.Common.{Option, Result, subst}
use Rattle.arz_json.specs.declared.tree.Json.{Json}
use Rattle.arz_json.specs.declared.tree.Refusal.{Refusal}
use Rattle.std.specs.Prelude.{codes}
use Rattle.arz_overlay.specs.Applied.{Applies}
use Rattle.arz_overlay.specs.Documents.{document}
use Rattle.arz_probe.proofs.Overlaying.{not_taken, is_taken}
use Rattle.arz_probe.proofs.overlays.overlaid.Goals as goal

pub returns-in-Ok-clause-applies : goal.returns-in-Ok-clause-applies
returns-in-Ok-clause-applies g c =
    let old = g.P.Patterns.patterns c.args.patterns.now in
    let new = g.P.Patterns.patterns c.apply.new.rx in
    let taken = document (codes "overlay") c.args.document.now in
    subst (λ (m : Option (Result Json Refusal)). Applies (λ (j : Json). j) c.apply.result m old new) (is_taken old.told c.args.root.now taken c.in-Ok.overlay c.in-Ok.ensures.gives) c.apply.ensures.applies

pub returns-in-Err-clause-applies : goal.returns-in-Err-clause-applies
returns-in-Err-clause-applies g c =
    let old = g.P.Patterns.patterns c.args.patterns.now in
    not_taken old.told c.args.root.now (document (codes "overlay") c.args.document.now) c.in-Err.fault old old c.in-Err.ensures.gives c.in-Err.ensures.no_pattern
