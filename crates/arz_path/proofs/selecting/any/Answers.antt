use Rattle.std.proofs.Common.{◌≡◌, map, ap, ◌∙◌, arith}
use Rattle.std.proofs.lemmas.Grind.{common_steps}
use Rattle.arz_query.proofs.Contract.{one-reading}
use Rattle.arz_path.specs.Selected.{is_any}
use Rattle.arz_path.specs.Results.{setting_of, bit_seen}
use Rattle.arz_path.specs.Seen.{seen, some_spot}
use Rattle.arz_path.proofs.Outcomes.{through_map}
use Rattle.arz_path.proofs.Faults.{exit, fails_map}
use Rattle.arz_path.proofs.Bridge.{is_any-spots}
use Rattle.arz_path.proofs.selecting.any.Goals as goal

pub returns-in_err-nodes-clause-says : goal.returns-in_err-nodes-clause-says
returns-in_err-nodes-clause-says g c vs h =
    let setting = setting_of (g.P.Patterns.patterns c.args.rx.now) c.args.root.now in
    let spells = c.segments.ensures in
    let same : vs ≡ c.segments.result.now = (one-reading _ vs _ h.marks _ h.read.query spells.read.query).0 in
    let run = ap (λ s. is_any s setting) same ∙ is_any-spots c.segments.result.now setting in
    exit bit_seen c.from_residual.result c.in_err-nodes.field-0.0 _ _ _ c.from_residual.ensures.1
    (fails_map _ some_spot _ _ _ _ run c.in_err-nodes.ensures.gives)

pub returns-clause-says : goal.returns-clause-says
returns-clause-says g c vs h =
    let setting = setting_of (g.P.Patterns.patterns c.args.rx.now) c.args.root.now in
    let spells = c.segments.ensures in
    let same : vs ≡ c.segments.result.now = (one-reading _ vs _ h.marks _ h.read.query spells.read.query).0 in
    let run = ap (λ s. is_any s setting) same ∙ is_any-spots c.segments.result.now setting in
    let bit : c.has_any.result ≡ some_spot (map seen c.in_ok-nodes.nodes.items) = grind (arith, common_steps) in
    rw (run, bit) (through_map some_spot _ _ c.in_ok-nodes.ensures.gives)
