use Rattle.std.proofs.Common.{List, [], ap}
use Rattle.arz_path.specs.Absolute.{Finding, telling}
use Rattle.arz_path.proofs.Absolute.{split}
use Rattle.arz_path.proofs.known.Known.rewind.Goals as goal

pub returns : goal.returns
unfolding telling
returns c = ap (λ (fs : List Finding). let p : List Finding × List Finding = ([], fs) in p) (split c.args.self.now.next c.args.self.now.found.items)
