use Rattle.std.proofs.Common.{◌≡◌, [], drop, map, sym, ap, ◌∙◌, subst, ◌∷◌, ◌+◌}
use Rattle.arz_description.specs.Parts.{text_in_item}
use Rattle.arz_relation.specs.Documents.{depends_of}
use Rattle.arz_scope.specs.Speaking.{completions_after}
use Rattle.arz_runs.specs.Fronts.{unrecorded}
use Rattle.arz_runs.proofs.Dependencies.{next_is}
use Rattle.arz_runs.proofs.Resuming.{none_depends, one_depends}
use Rattle.arz_runs.proofs.depending.depending.Goals as goal

pub returns-in_ok-copy-in-Some-clause-lands : goal.returns-in_ok-copy-in-Some-clause-lands
returns-in_ok-copy-in-Some-clause-lands c = λ told below sends r g.
    let b = c.args.ground.now.bundle.now in
    let f = c.args.frame.now in
    let done = completions_after c.args.newly.now c.args.done.now in
    let items = c.dependencies-dependencies.result.now in
    let i = c.in-Some.index in
    let w = c.in_ok-from_str-in-Some.field-0 in
    let same : map text_in_item items ≡ depends_of b f.workflow = c.dependencies-dependencies.ensures ∙ ap (depends_of b) c.as_str.ensures in
    let text : w ≡ text_in_item c.index-dependencies-index.result = c.in_ok-from_str-in-Some.ensures ∙ c.text_in.ensures in
    let next : unrecorded done (drop c.args.from (depends_of b f.workflow)) ≡ w ∷ drop (i + 1) (depends_of b f.workflow)
    = next_is done items c.args.from i c.index-dependencies-index.result w (depends_of b f.workflow) c.in-Some.ensures.0 c.index-dependencies-index.is text same c.in-Some.ensures.1 in
    one_depends told b f below done sends r c.args.from i w c.in_ok-copy-in-Some.field-0 c.in_ok-copied_inputs-in-Some.field-0 next c.in_ok-copied_inputs-in-Some.ensures c.in_ok-copy-in-Some.ensures g

pub returns-in-None-clause-lands : goal.returns-in-None-clause-lands
returns-in-None-clause-lands c = λ told below sends r g.
    let b = c.args.ground.now.bundle.now in
    let f = c.args.frame.now in
    let done = completions_after c.args.newly.now c.args.done.now in
    let same : map text_in_item c.dependencies-dependencies.result.now ≡ depends_of b f.workflow = c.dependencies-dependencies.ensures ∙ ap (depends_of b) c.as_str.ensures in
    let none : unrecorded done (drop c.args.from (depends_of b f.workflow)) ≡ [] = subst (λ ws. unrecorded done (drop c.args.from ws) ≡ []) same c.in-None.ensures in
    none_depends told b f below done sends r c.args.from c.new.result none c.new.ensures g
