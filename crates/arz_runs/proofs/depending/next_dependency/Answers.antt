use Rattle.std.proofs.Common.{◌≡◌, true, false, sym, ap, ◌∙◌}
use Rattle.arz_description.specs.Parts.{text_in_item}
use Rattle.arz_relation.specs.Cases.{is_recorded}
use Rattle.arz_scope.specs.Speaking.{completions_after}
use Rattle.arz_runs.proofs.Dependencies.{inside, goes_past, stops_here}
use Rattle.arz_runs.proofs.depending.next_dependency.Goals as goal

pub returns-then-not-is_completed : goal.returns-then-not-is_completed
returns-then-not-is_completed c =
    let done = completions_after c.args.newly.now c.args.done.now in
    let item = c.index-dependencies-index.result in
    let missing : is_recorded (text_in_item item) done ≡ false = ap (λ w. is_recorded w done) (sym c.text_in.ensures) ∙ sym c.is_completed.ensures ∙ c.if-not-is_completed.true in
    let here = c.index-dependencies-index.is in
    let lt = c.loop-index-test.true in
    (inside done c.args.dependencies.now c.loop-index.index item lt here, sym c.loop-index.invariant ∙ stops_here done c.args.dependencies.now c.loop-index.index item lt here missing)

pub loop-index-preserved : goal.loop-index-preserved
loop-index-preserved c =
    let done = completions_after c.args.newly.now c.args.done.now in
    let item = c.index-dependencies-index.result in
    let known : is_recorded (text_in_item item) done ≡ true = ap (λ w. is_recorded w done) (sym c.text_in.ensures) ∙ sym c.is_completed.ensures ∙ c.if-not-is_completed.false in
    goes_past done c.args.dependencies.now c.loop-index.index item c.loop-index-test.true c.index-dependencies-index.is known ∙ c.loop-index.invariant
