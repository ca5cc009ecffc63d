use Rattle.std.proofs.Common.{sym, ap, ◌∙◌, arith}
use Rattle.std.specs.Prelude.{slice_get, option_and_then}
use Rattle.std.proofs.lemmas.Option.{slice_get_past}
use Rattle.arz_json.specs.Pointer.{decoded}
use Rattle.arz_json.specs.Put.{children_in, child_of, child_in}
use Rattle.arz_json.specs.declared.tree.Json.TheViews.{out-Json, outs-List, outs-Object}
use Rattle.arz_json.proofs.Places.{places_within}
use Rattle.arz_json.proofs.placing.child_index.Goals as goal

pub returns-else-at-len-clause-none : goal.returns-else-at-len-clause-none
returns-else-at-len-clause-none c =
    let opened = ap out-Json c.in-List.is ∙ outs-List c.in-List.items in
    let place = ap (child_in c.args.token.now) opened ∙ sym c.array_index.ensures ∙ c.in_ok-at-in-List.was in
    ap (λ js. option_and_then (slice_get js) (child_of c.args.token.now c.args.tree.now)) (ap children_in opened)
    ∙ ap (option_and_then (slice_get c.in-List.items)) place ∙ slice_get_past c.in-List.items c.in_ok-at-in-List.at (omega arith)

pub returns-in-Object-clause-within : goal.returns-in-Object-clause-within
returns-in-Object-clause-within c =
    let opened = ap out-Json c.in-Object.is ∙ outs-Object c.in-Object.members in
    rw (c.member_index.ensures, ap children_in opened) (places_within c.in-Object.members (decoded c.args.token.now))
