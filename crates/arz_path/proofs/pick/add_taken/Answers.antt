use Rattle.std.proofs.Common.{◌≡◌, ◌∷◌, ◌++◌, ◌+◌, ◌≤◌, List, ℕ, map, drop, length, true, false, arith, ap, sym}
use Rattle.std.proofs.lemmas.Grind.{common_steps}
use Rattle.std.proofs.lemmas.List.{map-append}
use Rattle.arz_json.specs.declared.tree.Json.{Json}
use Rattle.arz_path.specs.Tree.{item_child}
use Rattle.arz_path.specs.Selected.{is_taken}
use Rattle.arz_path.specs.Seen.{branch_of, highest}
use Rattle.arz_path.proofs.Slices.{from_lowest, to_highest, taken_yes, taken_no}
use Rattle.arz_path.proofs.pick.add_taken.Goals as goal

pub loop-i-init : goal.loop-i-init
loop-i-init c =
    let e = c.lowest_of-lowest.ensures in
    rw e (ap (λ (ts : List (ℕ × Json)). map branch_of c.args.out.now.items ++ map item_child ts) (sym (from_lowest c.args.slice.now (length c.args.items.now) c.args.items.now)))

pub loop-i-preserved-then-not-takes : goal.loop-i-preserved-then-not-takes
loop-i-preserved-then-not-takes c =
    let l = c.loop-i in
    let js = c.args.items.now in
    let x : Json = c.index-items-i.result in
    let cut : drop l.i js ≡ x ∷ drop (l.i + 1) js = grind (arith, common_steps) in
    let no : is_taken c.args.slice.now (length js) c.args.slice.now.step l.i ≡ false = grind (arith, common_steps) in
    let skip = taken_no c.args.slice.now (length js) l.i x (drop (l.i + 1) js) no in
    grind (arith, common_steps, cut, skip)

pub loop-i-preserved : goal.loop-i-preserved
loop-i-preserved c =
    let l = c.loop-i in
    let js = c.args.items.now in
    let x : Json = c.index-items-i.result in
    let cut : drop l.i js ≡ x ∷ drop (l.i + 1) js = grind (arith, common_steps) in
    let yes : is_taken c.args.slice.now (length js) c.args.slice.now.step l.i ≡ true = grind (arith, common_steps) in
    let take = taken_yes c.args.slice.now (length js) l.i x (drop (l.i + 1) js) yes in
    grind (arith, common_steps, map-append, cut, take)

pub returns : goal.returns
returns c =
    let l = c.loop-i in
    let js = c.args.items.now in
    let end : highest c.args.slice.now (length js) c.args.slice.now.step ≤ l.i = grind (arith, common_steps) in
    let none = to_highest c.args.slice.now (length js) l.i (drop l.i js) end in
    grind (arith, common_steps, none)
