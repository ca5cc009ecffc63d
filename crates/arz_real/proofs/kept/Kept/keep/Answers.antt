use Rattle.arz_real.proofs.Keeping.{are_kept}
use Rattle.arz_real.proofs.kept.Kept.keep.Goals as goal

pub invariant_of-self : goal.invariant_of-self
invariant_of-self c = record {
  are_compiled = are_kept c.args.self.now.patterns c.insert.new.self c.in-Ok.key c.args.pattern.now c.args.compiled c.in-Ok.ensures.ok c.args.self.now.are_compiled c.requires
      c.insert.result c.insert.ensures.updates c.insert.ensures.err;
}
