use Rattle.std.proofs.Common.{◌≡◌, map, ap, ◌∙◌, arith}
use Rattle.std.proofs.lemmas.Grind.{common_steps}
use Rattle.arz_query.proofs.Contract.{one-reading}
use Rattle.arz_path.specs.Selected.{places}
use Rattle.arz_path.specs.Results.{setting_of, places_seen}
use Rattle.arz_path.specs.Seen.{seen, places_told}
use Rattle.arz_path.proofs.Outcomes.{through_map}
use Rattle.arz_path.proofs.Faults.{exit, fails_map}
use Rattle.arz_path.proofs.Bridge.{places-spots}
use Rattle.arz_path.proofs.selecting.select.Goals as goal

pub returns-in_err-nodes-clause-selects : goal.returns-in_err-nodes-clause-selects
returns-in_err-nodes-clause-selects g c vs h =
    let setting = setting_of (g.P.Patterns.patterns c.args.rx.now) c.args.root.now in
    let spells = c.segments.ensures in
    let same : vs ≡ c.segments.result.now = (one-reading _ vs _ h.marks _ h.read.query spells.read.query).0 in
    let run = ap (λ s. places s setting) same ∙ places-spots c.segments.result.now setting in
    exit places_seen c.from_residual.result c.in_err-nodes.field-0.0 _ _ _ c.from_residual.ensures.1
    (fails_map _ places_told _ _ _ _ run c.in_err-nodes.ensures.gives)

pub returns-clause-selects : goal.returns-clause-selects
returns-clause-selects g c vs h =
    let setting = setting_of (g.P.Patterns.patterns c.args.rx.now) c.args.root.now in
    let spells = c.segments.ensures in
    let same : vs ≡ c.segments.result.now = (one-reading _ vs _ h.marks _ h.read.query spells.read.query).0 in
    let run = ap (λ s. places s setting) same ∙ places-spots c.segments.result.now setting in
    let all : places_seen c.in_ok-places_of.field-0 ≡ places_told (map seen c.in_ok-nodes.nodes.items) = grind (arith, common_steps) in
    rw (run, all) (through_map places_told _ _ c.in_ok-nodes.ensures.gives)
