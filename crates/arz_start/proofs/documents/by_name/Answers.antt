use Rattle.std.proofs.Common.{rules, refl}
use Rattle.arz_start.proofs.Entries.{entered_step}
use Rattle.arz_start.proofs.documents.by_name.Goals as goal

pub loop-source-preserved : goal.loop-source-preserved
loop-source-preserved c =
    entered_step c.loop-source.found.entries c.insert.new.self.entries c.args.sources.now c.loop-source.source-index c.source-item.result c.as_str.result _ _
    (search rules) c.source-item.is c.as_str.ensures refl c.in_ok-insert.ensures.entries c.loop-source.invariant
