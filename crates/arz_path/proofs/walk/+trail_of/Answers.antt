use Rattle.std.proofs.Common.{List, refl, sym, ap, ◌∙◌}
use Rattle.arz_path.specs.declared.walk.Level.{Level}
use Rattle.arz_path.specs.declared.walk.Mark.TheVariants as mark
use Rattle.arz_path.specs.Spots.{further}
use Rattle.arz_path.specs.Seen.{token_of, place_in, stood, rows, end_of}
use Rattle.arz_path.proofs.Walks.{end_last, same_last}
use Rattle.arz_path.proofs.walk.+trail_of.Goals as goal

pub returns-in_ok-push-in-Made-clause-made : goal.returns-in_ok-push-in-Made-clause-made
returns-in_ok-push-in-Made-clause-made t c =
    let p = place_in c.args.start in
    let front = c.pop.new.self.items in
    sym (ap (λ (ls : List Level). end_of p (rows p ls)) c.in-Some.ensures.items ∙ end_last p front c.in-Some.level ∙ ap (stood (end_of p (rows p front))) c.in-Made.is)

pub returns-in_ok-push-in-Step-clause-made : goal.returns-in_ok-push-in-Step-clause-made
returns-in_ok-push-in-Step-clause-made t c =
    let p = place_in c.args.start in
    let front = c.pop.new.self.items in
    c.in_ok-trail-in-Step.ensures ∙ ap (λ q. further q (token_of c.in-Step.step)) c.in_ok-before-in-Step.ensures.made
    ∙ sym (ap (λ (ls : List Level). end_of p (rows p ls)) c.in-Some.ensures.items ∙ end_last p front c.in-Some.level ∙ ap (stood (end_of p (rows p front))) c.in-Step.is)

pub returns-in_ok-push-in-Step-clause-same : goal.returns-in_ok-push-in-Step-clause-same
returns-in_ok-push-in-Step-clause-same t c =
    let p = place_in c.args.start in
    let front = c.pop.new.self.items in
    let made : Level = record { mark = mark.Made c.in_ok-trail-in-Step.trail; children = c.in-Some.level.children } in
    let here = c.in_ok-trail-in-Step.ensures ∙ ap (λ q. further q (token_of c.in-Step.step)) c.in_ok-before-in-Step.ensures.made ∙ sym (ap (stood (end_of p (rows p front))) c.in-Step.is) in
    ap (rows p) c.in_ok-push-in-Step.ensures.items ∙ same_last p front c.trail_of.new.path.items c.in-Some.level made c.in_ok-before-in-Step.ensures.same here refl
    ∙ ap (rows p) (sym c.in-Some.ensures.items)
