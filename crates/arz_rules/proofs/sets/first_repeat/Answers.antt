use Rattle.std.proofs.Common.{rules, ◌≡◌, ◌∙◌, ◌||◌, ap, take, map, true, cond, List, ℕ, Option, Some, None, [], ◌∷◌}
use Rattle.arz_json.specs.Tree.{has_form, all_true}
use Rattle.arz_json.specs.declared.place.Token.TheVariants.{Name}
use Rattle.arz_rules.specs.Place.{tokens_in}
use Rattle.arz_rules.specs.Sets.{has, has_text, is_text}
use Rattle.arz_rules.proofs.InForm.{item_form}
use Rattle.arz_rules.proofs.Steps.{repeats_step}
use Rattle.arz_rules.proofs.TextsNoted.{seen_before, seen_step}
use Rattle.arz_rules.proofs.sets.first_repeat.Goals as goal

pub key-requires : goal.key-requires
key-requires g c =
    let h : all_true (map has_form c.args.items.now) ≡ true = search rules in
    ap has_form c.index-items-i.is ∙ item_form c.args.items.now c.loop-i.i c.index-items-i.result h c.loop-i-test.true

pub told-requires : goal.told-requires
told-requires g c =
    let h : all_true (map has_form c.args.items.now) ≡ true = search rules in
    ap has_form c.index-items-i.is ∙ item_form c.args.items.now c.loop-i.i c.index-items-i.result h c.loop-i-test.true

pub loop-i-preserved : goal.loop-i-preserved
loop-i-preserved g c =
    let key = g.K.Keyed.key_of c.args.keyed.now in
    let told = g.K.Keyed.told_at c.args.keyed.now in
    record {
      so_far = repeats_step key told _ (tokens_in c.loop-i.best) (tokens_in c.lesser-best.result) (tokens_in c.in_ok-found.found) c.args.items.now c.loop-i.i c.index-items-i.result c.in_ok-is_repeat.is_repeat
          c.loop-i.invariant.so_far c.loop-i-test.true c.index-items-i.is
          (c.in_ok-is_repeat.ensures.was ∙ ap (has_text c.loop-i.seen) c.key.ensures ∙ seen_before key c.loop-i.seen (take c.loop-i.i c.args.items.now) (key c.index-items-i.result) c.loop-i.invariant.seen)
          (c.in_ok-found.ensures ∙ ap (λ (n : List ℕ). cond c.in_ok-is_repeat.is_repeat (Some (Name n ∷ [])) None) c.told.ensures) (search rules);
      seen = seen_step key c.loop-i.seen c.put_key.new.set c.args.items.now c.loop-i.i c.index-items-i.result c.loop-i-test.true c.index-items-i.is c.loop-i.invariant.seen
          (λ q. c.in_ok-is_repeat.ensures.now q ∙ ap (λ (o : Option (List ℕ)). is_text o q || has c.loop-i.seen q) c.key.ensures);
    }
