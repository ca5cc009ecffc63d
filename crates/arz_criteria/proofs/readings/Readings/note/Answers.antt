use Rattle.std.proofs.lemmas.Map.Text.{btree_map_updates_str}
use Rattle.arz_criteria.proofs.readings.Readings.note.Goals as goal

pub returns : goal.returns
returns c = λ q. btree_map_updates_str c.args.pattern.now c.args.self.now.refused c.insert.new.self _ c.in_ok-insert.ensures.updates q
