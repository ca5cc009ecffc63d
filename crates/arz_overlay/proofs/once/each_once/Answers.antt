use Rattle.std.proofs.Common.{◌+◌, ◌<◌, ◌++◌, ◌∷◌, ◌||◌, [], cond, take, drop, length, sym, ap, ap₂, ◌∙◌}
use Rattle.std.specs.Str.{bytes_eq}
use Rattle.arz_overlay.specs.Applied.{key_of, has_key}
use Rattle.arz_changes.specs.Groups.{places_seen, ways_seen}
use Rattle.arz_overlay.specs.Steps.{once_after}
use Rattle.arz_overlay.proofs.PlacesOnce.{keyed, keyed_tells, keyed_more, one_more, key_at, so_far, the_others}
use Rattle.arz_overlay.proofs.once.each_once.Goals as goal

pub loop-at-preserved : goal.loop-at-preserved
loop-at-preserved c =
    let i = c.loop-at.at in
    let places = c.args.places.now in
    let place = c.index-places-at.result in
    let p = place.tokens in
    let earlier = places_seen (take i places) in
    let rest = places_seen (drop (i + 1) places) in
    let less : i < length places = c.loop-at-test.true in
    let key = c.as_slice.ensures ∙ key_at places _ i place _ c.in_ok-keys.ensures less c.index-places-at.is c.index.ensures in
    let was = c.in_ok-is_there.ensures.was ∙ ap (has_key c.loop-at.seen) key ∙ c.loop-at.invariant.seen (key_of p) ∙ keyed_tells earlier p in
    let now = ways_seen c.push_unless.new.ways.items in
    let pushed = c.in_ok-push_unless.ensures ∙ ap (λ t. ways_seen c.loop-at.ways.items ++ cond c.in_ok-is_there.is_there [] (t ∷ [])) c.as_slice-tokens.ensures in
    record {
      kept = ap (λ e. now ++ once_after e rest) (so_far places i place less c.index-places-at.is)
          ∙ one_more (ways_seen c.loop-at.ways.items) earlier rest now p c.in_ok-is_there.is_there was pushed
          ∙ ap (λ l. ways_seen c.loop-at.ways.items ++ once_after earlier l) (sym (the_others places i place less c.index-places-at.is))
          ∙ c.loop-at.invariant.kept;
      seen = λ q. c.in_ok-is_there.ensures.now q ∙ ap₂ (λ a b. a || b) (ap (λ k. bytes_eq k q) key) (c.loop-at.invariant.seen q)
          ∙ sym (keyed_more earlier p q) ∙ ap (λ l. keyed l q) (sym (so_far places i place less c.index-places-at.is));
    }
