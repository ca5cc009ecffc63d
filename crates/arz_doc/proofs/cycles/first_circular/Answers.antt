use Rattle.std.proofs.Common.{◌≡◌, ℕ, List, Some, None, cond, length, codes, [], ◌∷◌, Option, option_map, sym, ap, ◌∙◌, arith}
use Rattle.std.proofs.lemmas.Result.{IfOk-weaker}
use Rattle.arz_json.specs.declared.place.Token.{Token}
use Rattle.arz_json.specs.declared.place.Token.TheVariants.{Name}
use Rattle.arz_rules.specs.Place.{tokens_in, least, lesser}
use Rattle.arz_rules.proofs.Places.{least-under}
use Rattle.arz_doc.specs.Cycles.{tells, circular_below, numbered}
use Rattle.arz_doc.proofs.Numbered.{circular_step}
use Rattle.arz_doc.proofs.cycles.first_circular.Goals as goal

pub loop-number-preserved : goal.loop-number-preserved
loop-number-preserved c =
    circular_step (tells c.args.cycles.now) c.loop-number.number (tokens_in c.loop-number.best) (tokens_in c.in_ok-found.found) _ c.loop-number.invariant
    (c.in_ok-found.ensures ∙ ap (λ b. cond b (Some (Name (codes "dependsOn") ∷ [])) None) c.tells.ensures)
    (c.lesser-best.ensures ∙ ap (lesser (tokens_in c.loop-number.best)) c.in_ok-below_index.ensures)

pub returns : goal.returns
returns c =
    let t = tells c.args.cycles.now in
    let all : c.loop-number.number ≡ length (numbered c.args.root.now) = omega (arith, ap length c.items_at-number-end.ensures) in
    IfOk-weaker c.below_name.result _ _
    (λ p e. e ∙ ap (option_map (λ q. Name (codes "workflows") ∷ q)) (c.loop-number.invariant ∙ ap (λ n. least (circular_below t n)) all)
    ∙ sym (least-under (Name (codes "workflows")) (circular_below t (length (numbered c.args.root.now))))) c.below_name.ensures
