use Rattle.std.proofs.Common.{◌≡◌, ℕ, List, true, subst, sym}
use Rattle.arz_json.specs.Answer.{Gives}
use Rattle.arz_json.specs.declared.place.Place.{Place}
use Rattle.arz_query.specs.Answers.{Spells}
use Rattle.arz_changes.specs.Groups.{places_seen}
use Rattle.arz_overlay.specs.Applied.{refusal_in, told_at, tree_of_work}
use Rattle.arz_overlay.specs.Documents.{target_of, segments_of, is_query}
use Rattle.arz_overlay.specs.Steps.{done_at}
use Rattle.arz_overlay.proofs.Targets.{spelled_target}
use Rattle.arz_overlay.proofs.Overlays.{applies_given, applies_wide, told_wide, told_pattern}
use Rattle.arz_overlay.proofs.applying.acted.Goals as goal

-- the segments of the target are those that the query spells
spelled : (t q : List ℕ) → q ≡ t → is_query q ≡ true → Spells q (segments_of t)
spelled t q is h = subst (λ (l : List ℕ). Spells l (segments_of t)) (sym is) (spelled_target t (subst (λ (l : List ℕ). is_query l ≡ true) is h))

pub returns-in-Ok-clause-applies : goal.returns-in-Ok-clause-applies
returns-in-Ok-clause-applies g c =
    let action = c.args.action.now in
    let j = c.args.work.tree in
    let covers = c.in-Ok.ensures.selects (segments_of (target_of action)) (spelled (target_of action) c.args.query.now c.requires.query c.requires.spelled) in
    let result = c.done_or_refused.result in
    let gives = subst (λ (ps : List Place). Gives tree_of_work refusal_in result (told_at c.args.label.now c.args.at (done_at action (places_seen ps) j))) c.as_slice.ensures c.done_or_refused.ensures.gives in
    applies_given c.args.label.now c.args.at action j (places_seen c.in-Ok.places) _ result _ _ covers gives c.done_or_refused.ensures.no_pattern

pub returns-in-Err-TooWide-clause-applies : goal.returns-in-Err-TooWide-clause-applies
returns-in-Err-TooWide-clause-applies g c =
    let action = c.args.action.now in
    let fails = c.in-Err-TooWide.ensures.selects (segments_of (target_of action)) (spelled (target_of action) c.args.query.now c.requires.query c.requires.spelled) in
    let covers = told_wide c.in-Err-TooWide.field-0 _ _ _ c.in-Err-TooWide.field-0-is fails in
    applies_wide c.args.label.now c.args.at action c.args.work.tree _ c.refused.result _ _ covers c.refused.ensures.gives c.refused.ensures.no_pattern

pub returns-in-Err-Pattern-clause-applies : goal.returns-in-Err-Pattern-clause-applies
returns-in-Err-Pattern-clause-applies g c =
    let action = c.args.action.now in
    let fails = c.in-Err-Pattern.ensures.selects (segments_of (target_of action)) (spelled (target_of action) c.args.query.now c.requires.query c.requires.spelled) in
    told_pattern c.in-Err-Pattern.field-0 _ _ _ c.in-Err-Pattern.field-0-is fails
