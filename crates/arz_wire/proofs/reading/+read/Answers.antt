use Rattle.std.proofs.Common.{◌≡◌, ◌-◌, ◌∷◌, Ok, Err, sym, ap, ◌∙◌, arith}
use Rattle.std.proofs.lemmas.Result.{err_from_is_err_and}
use Rattle.std.proofs.lemmas.List.{nil_from_length}
use Rattle.arz_json.specs.declared.tree.Json.TheVariants.{List as ListOf, Object}
use Rattle.arz_wire.specs.declared.fault.WireFault.TheVariants.{BadTag, TooDeep}
use Rattle.arz_json.specs.Answer.{◌>>=◌}
use Rattle.arz_json.proofs.Answer.{fails}
use Rattle.arz_wire.specs.Reading.{place, number_at, largest_number, name_at, list_at, object_at, tree_at, told}
use Rattle.arz_wire.specs.Names.{last_name}
use Rattle.arz_wire.proofs.Rows.{items_init, items_go_on, items_end, items_done, members_init, members_go_on, members_end_name, members_end_value, members_done, list_counted, list_refused, object_counted, object_refused, tree_none, tree_no_tag, tree_scalar, tree_deep_at_list, tree_deep_at_object, tree_at_list, tree_at_object}
use Rattle.arz_wire.proofs.reading.+read.Goals.{tree_of-else-tag-ne6-via-then-tag-ne6+else-tag-ne7, tree_of-else-tag-ne6-via-else-tag-ne6}
use Rattle.arz_wire.proofs.reading.+read.Goals as goal

pub items_of-returns-in_err-count : goal.items_of-returns-in_err-count
items_of-returns-in_err-count t c =
    let p = err_from_is_err_and c.from_residual.result c.from_residual.ensures.1 in
    let a = c.args in
    rw (p.1, p.2) (fails (told c.in_err-count.field-0.0) (number_at a.total largest_number a.bytes.now) (list_at (tree_at a.total a.levels) a.total a.bytes.now)
    (λ f e. list_refused (tree_at a.total a.levels) a.total a.bytes.now f e) c.in_err-count.ensures)

pub items_of-loop-init : goal.items_of-loop-init
items_of-loop-init t c = rw c.new-items.ensures.items (items_init (tree_at c.args.total c.args.levels) c.in_ok-count.count c.in_ok-count.front.now)

pub items_of-returns-in_err-item : goal.items_of-returns-in_err-item
items_of-returns-in_err-item t c =
    let p = err_from_is_err_and c.from_residual-in_err-item.result c.from_residual-in_err-item.ensures.1 in
    let a = c.args in
    let inside = tree_at a.total a.levels in
    rw (p.1, p.2) (fails (told c.in_err-item.field-0.0) (inside c.loop.rest.now) (list_at inside a.total a.bytes.now)
    (λ f e. list_counted inside a.total a.bytes.now c.in_ok-count.count c.in_ok-count.front.now c.in_ok-count.ensures
    ∙ items_end inside c.loop.items.items c.in_ok-count.count c.loop.counter c.loop.rest.now f _ c.loop-test.true e c.loop.invariant)
    c.in_err-item.ensures)

pub items_of-loop-preserved : goal.items_of-loop-preserved
items_of-loop-preserved t c =
    rw c.in_ok-push.ensures.items (items_go_on (tree_at c.args.total c.args.levels) c.loop.items.items c.in_ok-count.count c.loop.counter c.loop.rest.now c.in_ok-item.item c.in_ok-item.after.now _ c.loop-test.true c.in_ok-item.ensures c.loop.invariant)

pub items_of-returns : goal.items_of-returns
items_of-returns t c =
    let inside = tree_at c.args.total c.args.levels in
    list_counted inside c.args.total c.args.bytes.now c.in_ok-count.count c.in_ok-count.front.now c.in_ok-count.ensures
    ∙ items_done inside c.loop.items.items c.in_ok-count.count c.loop.counter c.loop.rest.now _ c.loop-test.false c.loop.invariant
    ∙ ap (λ ls. Ok (ls, c.loop.rest.now)) (sym c.from_std.ensures)

pub members_of-returns-in_err-count : goal.members_of-returns-in_err-count
members_of-returns-in_err-count t c =
    let p = err_from_is_err_and c.from_residual.result c.from_residual.ensures.1 in
    let a = c.args in
    rw (p.1, p.2) (fails (told c.in_err-count.field-0.0) (number_at a.total largest_number a.bytes.now) (object_at (tree_at a.total a.levels) a.total a.bytes.now)
    (λ f e. object_refused (tree_at a.total a.levels) a.total a.bytes.now f e) c.in_err-count.ensures)

pub members_of-loop-init : goal.members_of-loop-init
members_of-loop-init t c = rw c.new-members.ensures.items (members_init (tree_at c.args.total c.args.levels) c.args.total c.in_ok-count.count c.in_ok-count.front.now)

pub members_of-returns-in_err-name : goal.members_of-returns-in_err-name
members_of-returns-in_err-name t c =
    let p = err_from_is_err_and c.from_residual-in_err-name.result c.from_residual-in_err-name.ensures.1 in
    let a = c.args in
    let inside = tree_at a.total a.levels in
    rw (p.1, p.2) (fails (told c.in_err-name.field-0.0) (name_at a.total (last_name c.as_slice.result.now) c.loop.rest.now) (object_at inside a.total a.bytes.now)
    (λ f e. object_counted inside a.total a.bytes.now c.in_ok-count.count c.in_ok-count.front.now c.in_ok-count.ensures
    ∙ members_end_name inside a.total c.loop.members.items c.in_ok-count.count c.loop.counter c.loop.rest.now f _ c.loop-test.true
    (ap (λ ms. name_at a.total (last_name ms) c.loop.rest.now) (sym c.as_slice.ensures.value) ∙ e) c.loop.invariant)
    c.in_err-name.ensures)

pub members_of-returns-in_err-value : goal.members_of-returns-in_err-value
members_of-returns-in_err-value t c =
    let p = err_from_is_err_and c.from_residual-in_err-value.result c.from_residual-in_err-value.ensures.1 in
    let a = c.args in
    let inside = tree_at a.total a.levels in
    rw (p.1, p.2) (fails (told c.in_err-value.field-0.0) (inside c.in_ok-name.after.now) (object_at inside a.total a.bytes.now)
    (λ f e. object_counted inside a.total a.bytes.now c.in_ok-count.count c.in_ok-count.front.now c.in_ok-count.ensures
    ∙ members_end_value inside a.total c.loop.members.items c.in_ok-count.count c.loop.counter c.loop.rest.now c.in_ok-name.name c.in_ok-name.after.now f _ c.loop-test.true
    (ap (λ ms. name_at a.total (last_name ms) c.loop.rest.now) (sym c.as_slice.ensures.value) ∙ c.in_ok-name.ensures) e c.loop.invariant)
    c.in_err-value.ensures)

pub members_of-loop-preserved : goal.members_of-loop-preserved
members_of-loop-preserved t c =
    let a = c.args in
    rw c.in_ok-push.ensures.items (members_go_on (tree_at a.total a.levels) a.total c.loop.members.items c.in_ok-count.count c.loop.counter c.loop.rest.now c.in_ok-name.name c.in_ok-name.after.now c.in_ok-value.value c.in_ok-value.after.now _ c.loop-test.true
    (ap (λ ms. name_at a.total (last_name ms) c.loop.rest.now) (sym c.as_slice.ensures.value) ∙ c.in_ok-name.ensures) c.in_ok-value.ensures c.loop.invariant)

pub members_of-returns : goal.members_of-returns
members_of-returns t c =
    let inside = tree_at c.args.total c.args.levels in
    object_counted inside c.args.total c.args.bytes.now c.in_ok-count.count c.in_ok-count.front.now c.in_ok-count.ensures
    ∙ members_done inside c.args.total c.loop.members.items c.in_ok-count.count c.loop.counter c.loop.rest.now _ c.loop-test.false c.loop.invariant
    ∙ ap (λ ls. Ok (ls, c.loop.rest.now)) (sym c.from_std.ensures)

pub tree_of-returns-in_default : goal.tree_of-returns-in_default
tree_of-returns-in_default t c = ap (tree_at c.args.total c.args.levels) (nil_from_length c.args.bytes.now c.in_default.ensures.cases) ∙ tree_none c.args.total c.args.levels

pub tree_of-returns-then-tag-gt8 : goal.tree_of-returns-then-tag-gt8
tree_of-returns-then-tag-gt8 t c =
    let cut = c.in-Some.ensures.cases.0 in
    rw c.no_tag.ensures (ap (tree_at c.args.total c.args.levels) cut ∙ tree_no_tag c.args.total c.args.levels c.in-Some.tag.now c.in-Some.rest.now c.if-tag-gt8.true
    ∙ ap (λ l. Err (BadTag (place c.args.total l))) (sym cut))

pub tree_of-returns-then-tag-ne7 : goal.tree_of-returns-then-tag-ne7
tree_of-returns-then-tag-ne7 t c =
    rw (ap (tree_at c.args.total c.args.levels) c.in-Some.ensures.cases.0 ∙ tree_scalar c.args.total c.args.levels c.in-Some.tag.now c.in-Some.rest.now (omega arith) (λ e. omega (arith, e)) (λ e. omega (arith, e))) c.scalar_of.ensures

pub tree_of-returns-then-levels-eq0 : goal.tree_of-returns-then-levels-eq0
tree_of-returns-then-levels-eq0 t c =
    let cut = c.in-Some.ensures.cases.0 in
    let a = c.args in
    let tag = c.in-Some.tag.now in
    let rest = c.in-Some.rest.now in
    let deep : tree_at a.total a.levels (tag ∷ rest) ≡ Err (TooDeep (place a.total (tag ∷ rest))) =
    elim c.else-tag-ne6.branch [
      | tree_of-else-tag-ne6-via-then-tag-ne6+else-tag-ne7 w ↦ tree_deep_at_object a.total a.levels tag rest (omega arith) (omega arith)
      | tree_of-else-tag-ne6-via-else-tag-ne6 w ↦ tree_deep_at_list a.total a.levels tag rest (omega arith) (omega arith)
    ] in
    ap (tree_at a.total a.levels) cut ∙ deep ∙ ap (λ l. Err (TooDeep (place a.total l))) (sym cut) ∙ ap (λ n. Err (TooDeep n)) (sym c.place.ensures)

pub tree_of-returns-in_err-items : goal.tree_of-returns-in_err-items
tree_of-returns-in_err-items t c =
    let p = err_from_is_err_and c.from_residual.result c.from_residual.ensures.1 in
    let a = c.args in
    let rest = c.in-Some.rest.now in
    rw (p.1, p.2) (fails (told c.in_err-items.field-0.0) (list_at (tree_at a.total (a.levels - 1)) a.total rest) (tree_at a.total a.levels a.bytes.now)
    (λ f e. ap (tree_at a.total a.levels) c.in-Some.ensures.cases.0 ∙ tree_at_list a.total a.levels c.in-Some.tag.now rest (omega arith) (omega arith) ∙ ap (λ r. r >>= λ x. Ok (ListOf x.0, x.1)) e)
    c.in_err-items.ensures)

pub tree_of-returns-in_err-members : goal.tree_of-returns-in_err-members
tree_of-returns-in_err-members t c =
    let p = err_from_is_err_and c.from_residual-in_err-members.result c.from_residual-in_err-members.ensures.1 in
    let a = c.args in
    let rest = c.in-Some.rest.now in
    let tag = c.in-Some.tag.now in
    let seven : tag ≡ 7 = elim c.else-tag-ne6.branch [
      | tree_of-else-tag-ne6-via-then-tag-ne6+else-tag-ne7 w ↦ omega arith
      | tree_of-else-tag-ne6-via-else-tag-ne6 w ↦ omega arith
    ] in
    rw (p.1, p.2) (fails (told c.in_err-members.field-0.0) (object_at (tree_at a.total (a.levels - 1)) a.total rest) (tree_at a.total a.levels a.bytes.now)
    (λ f e. ap (tree_at a.total a.levels) c.in-Some.ensures.cases.0 ∙ tree_at_object a.total a.levels tag rest (omega arith) seven ∙ ap (λ r. r >>= λ x. Ok (Object x.0, x.1)) e)
    c.in_err-members.ensures)

pub tree_of-returns-in_ok-items : goal.tree_of-returns-in_ok-items
tree_of-returns-in_ok-items t c =
    let a = c.args in
    ap (tree_at a.total a.levels) c.in-Some.ensures.cases.0 ∙ tree_at_list a.total a.levels c.in-Some.tag.now c.in-Some.rest.now (omega arith) (omega arith)
    ∙ ap (λ r. r >>= λ x. Ok (ListOf x.0, x.1)) c.in_ok-items.ensures

pub tree_of-returns-in_ok-members : goal.tree_of-returns-in_ok-members
tree_of-returns-in_ok-members t c =
    let a = c.args in
    let tag = c.in-Some.tag.now in
    let seven : tag ≡ 7 = elim c.else-tag-ne6.branch [
      | tree_of-else-tag-ne6-via-then-tag-ne6+else-tag-ne7 w ↦ omega arith
      | tree_of-else-tag-ne6-via-else-tag-ne6 w ↦ omega arith
    ] in
    ap (tree_at a.total a.levels) c.in-Some.ensures.cases.0 ∙ tree_at_object a.total a.levels tag c.in-Some.rest.now (omega arith) seven
    ∙ ap (λ r. r >>= λ x. Ok (Object x.0, x.1)) c.in_ok-members.ensures
