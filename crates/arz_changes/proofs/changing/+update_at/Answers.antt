use Rattle.std.proofs.Common.{◌≡◌, ◌∷◌, set, Ok, refl, sym, ap, ◌∙◌, length, arith, length-set}
use Rattle.arz_json.specs.Answer.{◌>>=◌}
use Rattle.arz_json.specs.Tree.{has_form}
use Rattle.arz_json.specs.Put.{children, set_child}
use Rattle.arz_json.specs.declared.tree.Json.{out-Json}
use Rattle.arz_json.specs.declared.tree.Json.TheVariants.{Null}
use Rattle.arz_json.proofs.Trades.{set_child-again, children-set_child}
use Rattle.arz_json.proofs.Puts.{form_in, child_form}
use Rattle.arz_changes.specs.Children.{changed}
use Rattle.arz_changes.specs.Merging.{updated, no_target}
use Rattle.arz_changes.specs.Weight.{weight}
use Rattle.arz_changes.proofs.Changes.{child_within, changed_at, set_child_weighs}
use Rattle.arz_changes.proofs.changing.+update_at.Goals as goal

pub swap_child-tree-requires : goal.swap_child-tree-requires
swap_child-tree-requires t c = child_within c.in-Some.token.now c.args.tree c.in-Some-child_index.at (sym c.child_index.ensures ∙ c.in-Some-child_index.is)

pub update_at-requires : goal.update_at-requires
update_at-requires t c =
    (let less = c.in-Some.ensures.cases.1 in omega (arith, less), (child_form c.args.tree (out-Json c.args.tree) c.in-Some-child_index.at c.swap_child-tree.result.1 refl c.swap_child-tree.ensures.child c.requires.tree, c.requires.update))

pub swap_child-tree-requires-2 : goal.swap_child-tree-requires-2
swap_child-tree-requires-2 t c =
    let at = c.in-Some-child_index.at in
    let tree : children c.swap_child-tree.result.0 ≡ set (children c.args.tree) at Null = ap children c.swap_child-tree.ensures.after ∙ children-set_child c.args.tree at Null in
    let less = child_within c.in-Some.token.now c.args.tree at (sym c.child_index.ensures ∙ c.in-Some-child_index.is) in
    omega (arith, ap length tree, length-set (children c.args.tree) at Null, less)

pub returns-clause-gives : goal.returns-clause-gives
returns-clause-gives t c =
    let at = c.in-Some-child_index.at in
    let child = c.in_ok-child.child in
    let tree : c.swap_child-tree-2.result.0 ≡ set_child c.args.tree at child =
    c.swap_child-tree-2.ensures.after ∙ ap (λ j. set_child j at child) c.swap_child-tree.ensures.after ∙ set_child-again c.args.tree at Null child in
    let change = updated c.args.update.now in
    let place : c.args.place.now ≡ c.in-Some.token.now ∷ c.in-Some.rest.now = c.in-Some.ensures.cases.0 in
    ap (λ p. changed change no_target p c.args.tree) place
    ∙ changed_at change no_target c.in-Some.token.now c.in-Some.rest.now c.args.tree at c.swap_child-tree.result.1 (sym c.child_index.ensures ∙ c.in-Some-child_index.is) c.swap_child-tree.ensures.child
    ∙ ap (λ r. r >>= (λ k. Ok (set_child c.args.tree at k))) c.in_ok-child.ensures.gives ∙ ap (λ j. Ok j) (sym tree)

pub returns-clause-tallies : goal.returns-clause-tallies
returns-clause-tallies t c =
    let at = c.in-Some-child_index.at in
    let child = c.in_ok-child.child in
    let tree : c.swap_child-tree-2.result.0 ≡ set_child c.args.tree at child =
    c.swap_child-tree-2.ensures.after ∙ ap (λ j. set_child j at child) c.swap_child-tree.ensures.after ∙ set_child-again c.args.tree at Null child in
    let heavy = ap weight tree in
    let weighs = set_child_weighs c.args.tree at c.swap_child-tree.result.1 child c.swap_child-tree.ensures.child in
    let step = c.in_ok-child.ensures.tallies.balance in
    record { balance = omega (arith, heavy, weighs, step) }

pub returns-clause-form : goal.returns-clause-form
returns-clause-form t c =
    let at = c.in-Some-child_index.at in
    let child = c.in_ok-child.child in
    let tree : c.swap_child-tree-2.result.0 ≡ set_child c.args.tree at child =
    c.swap_child-tree-2.ensures.after ∙ ap (λ j. set_child j at child) c.swap_child-tree.ensures.after ∙ set_child-again c.args.tree at Null child in
    ap has_form tree ∙ form_in c.args.tree (out-Json c.args.tree) at child refl c.requires.tree c.in_ok-child.ensures.form
