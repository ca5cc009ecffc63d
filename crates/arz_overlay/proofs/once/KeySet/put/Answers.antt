use Rattle.std.proofs.Common.{◌≡◌, Option, Some, Bool, true, false, cond, ◌||◌, refl, ap, ◌∙◌}
use Rattle.std.specs.Option.{is_some}
use Rattle.std.specs.Str.{bytes_eq}
use Rattle.std.proofs.lemmas.Map.Text.{btree_map_updates_str}
use Rattle.arz_overlay.proofs.once.KeySet.put.Goals as goal

put : (b : Bool) (o : Option Unit) → is_some (cond b (Some tt) o) ≡ (b || is_some o)
put true o = refl
put false o = refl

pub returns-clause-now : goal.returns-clause-now
returns-clause-now c = λ q.
    ap is_some (btree_map_updates_str c.args.key.now c.args.self.now.there c.insert.new.self _ c.in_ok-old.ensures.updates q) ∙ put (bytes_eq c.args.key.now q) _
