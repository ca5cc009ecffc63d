use Rattle.std.proofs.Common.{◌≡◌, sym, ap, ◌∙◌}
use Rattle.std.proofs.lemmas.List.{drop_all}
use Rattle.arz_operation.specs.Named.{taking, taking_all}
use Rattle.arz_openapi.specs.Names.{taken_in}
use Rattle.arz_openapi.proofs.Steps.{one_taken, taken_step, kept_step}
use Rattle.arz_openapi.proofs.joined.push_untaken.Goals as goal

pub loop-described-preserved : goal.loop-described-preserved
loop-described-preserved c =
    let d = c.described-item.result in
    let i = c.loop-described.described-index in
    let list = c.args.list.now in
    let facts = c.in_ok-is_taken.ensures in
    let now : taken_in c.put.new.self ≡ taking d (taken_in c.loop-described.taken) =
    one_taken c.loop-described.taken c.put.new.self d c.as_str.result.now c.as_str.ensures facts.path facts.query facts.header facts.cookie in
    record {
      kept = kept_step _ c.loop-described.out.items c.push_unless.new.out.items (taken_in c.loop-described.taken) (taken_in c.put.new.self) list i d c.in_ok-is_taken.is_taken
          c.loop-described-test.true c.described-item.is c.loop-described.invariant.kept (facts.was ∙ ap (taken_in c.loop-described.taken d.place) c.as_str.ensures) now c.in_ok-push_unless.ensures;
      taken = taken_step _ (taken_in c.loop-described.taken) (taken_in c.put.new.self) list i d c.loop-described-test.true c.described-item.is c.loop-described.invariant.taken now;
    }

pub returns-clause-taken : goal.returns-clause-taken
returns-clause-taken c =
    sym (ap (λ rest. taking_all rest (taken_in c.loop-described.taken)) (drop_all c.loop-described.described-index c.args.list.now c.loop-described-test.false)) ∙ c.loop-described.invariant.taken
