use Rattle.std.proofs.Common.{◌≡◌, ◌++◌, ◌∷◌, [], List, Option, refl, sym, ap, ap₂, ◌∙◌, arith}
use Rattle.std.proofs.lemmas.Grind.{common_steps}
use Rattle.arz_json.specs.declared.tree.Json.{Json}
use Rattle.arz_json.specs.declared.place.Token.{Token}
use Rattle.arz_path.specs.declared.walk.Level.{Level}
use Rattle.arz_path.specs.declared.walk.Mark.TheVariants as mark
use Rattle.arz_path.specs.Spots.{Spot, down, down_all}
use Rattle.arz_path.specs.Seen.{token_of, place_in, rows, end_of, left_of, way}
use Rattle.arz_path.proofs.Levels.{down_children}
use Rattle.arz_path.proofs.Walks.{left_last, at_child}
use Rattle.arz_path.proofs.walk.Walk.advance.Goals as goal

pub returns-in-Some : goal.returns-in-Some
unfolding way
returns-in-Some c =
    let l = c.levels in
    let p = place_in c.args.self.now.start in
    let rs = rows p c.args.self.now.path.items in
    let first : Spot = (end_of p rs, c.args.self.now.value.now) in
    let child = c.in-Some.child in
    let level : Level = record { mark = mark.Step child.step; children = c.next.new.self } in
    let at = at_child p l.self.path.items level (token_of child.step) child.value.now refl in
    ap (λ (ss : List Spot). ss ++ left_of p rs) (down_children first)
    ∙ ap (λ (more : List Spot). first ∷ more) (sym l.invariant.0
    ∙ ap (λ (cs : List (Token × Json)). down_all (end_of p (rows p l.self.path.items)) cs ++ left_of p (rows p l.self.path.items)) c.in-Some.ensures
    ∙ sym at
    ∙ ap₂ (λ (q : Option (List Token)) (ls : List Level). down (end_of q (rows q ls), child.value.now) ++ left_of q (rows q ls)) (ap place_in (sym l.invariant.1)) (sym c.in_ok-push.ensures.items))

pub returns-in_default-pop : goal.returns-in_default-pop
unfolding way
returns-in_default-pop c =
    let l = c.levels in
    let p = place_in c.args.self.now.start in
    let rs = rows p c.args.self.now.path.items in
    let first : Spot = (end_of p rs, c.args.self.now.value.now) in
    let none : l.self.path.items ≡ [] = grind (arith, common_steps) in
    ap (λ (ss : List Spot). ss ++ left_of p rs) (down_children first)
    ∙ ap (λ (more : List Spot). first ∷ more) (sym l.invariant.0
    ∙ ap₂ (λ (cs : List (Token × Json)) (ls : List Level). down_all (end_of p (rows p ls)) cs ++ left_of p (rows p ls)) c.in_default.ensures none)

pub levels-preserved : goal.levels-preserved
levels-preserved c =
    let l = c.levels in
    let p = place_in c.args.self.now.start in
    let front = c.pop.new.self.items in
    let level = c.in-Some-pop.level in (
      sym (left_last p front level) ∙ ap (λ (ls : List Level). left_of p (rows p ls)) (sym c.in-Some-pop.ensures.items)
          ∙ ap (λ (cs : List (Token × Json)). down_all (end_of p (rows p l.self.path.items)) cs ++ left_of p (rows p l.self.path.items)) (sym c.in_default.ensures)
          ∙ l.invariant.0,
      l.invariant.1,
    )
