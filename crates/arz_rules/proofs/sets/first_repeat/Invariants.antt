use Rattle.std.proofs.Common.{◌≡◌, ℕ, List, take, drop, []}
use Rattle.arz_rules.specs.Place.{least, lesser, tokens_in}
use Rattle.arz_rules.specs.Sets.{repeats_after, some_has, has}
use Rattle.arz_rules.proofs.sets.first_repeat.Given as goal

abbrev pub invariant-loop-i : goal.invariant-loop-i
invariant-loop-i g l =
    let key = g.K.Keyed.key_of l.keyed in
    let told = g.K.Keyed.told_at l.keyed in
    record {
      so_far : least (repeats_after key told [] 0 l.items) ≡ lesser (tokens_in l.best) (least (repeats_after key told (take l.i l.items) l.i (drop l.i l.items)));
      seen : (q : List ℕ) → has l.seen q ≡ some_has key (take l.i l.items) q;
    }
