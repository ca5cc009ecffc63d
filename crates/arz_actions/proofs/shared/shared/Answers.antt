use Rattle.std.proofs.Common.{◌∙◌, option_map, option_copied, ap, sym}
use Rattle.std.proofs.lemmas.Map.Text.{btree_map_updates_str}
use Rattle.arz_actions.proofs.Sharing.{one_more, shared_is}
use Rattle.arz_actions.proofs.shared.shared.Goals as goal

pub returns-in-Some-clause-ready : goal.returns-in-Some-clause-ready
returns-in-Some-clause-ready c =
    let known = c.requires.known c.in-Some.ready.now.value (ap (option_map (λ rc. rc.value)) (sym c.get.ensures.value ∙ ap option_copied c.in-Some.is)) in
    shared_is _ c.clone.result _ _ known c.clone.ensures.cases

pub returns-clause-known : goal.returns-clause-known
returns-clause-known c = λ find found before.
    one_more find c.args.known.now c.insert.new.self c.args.name.now c.args.component.now c.in_ok-clone.field-0
    (λ q. btree_map_updates_str c.args.name.now c.args.known.now c.insert.new.self _ c.in_ok-insert.ensures.updates q)
    (c.in_ok-clone.ensures.cases ∙ c.in_ok-ready.ensures) found before
