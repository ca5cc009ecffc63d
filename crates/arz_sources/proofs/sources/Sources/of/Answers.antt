use Rattle.std.proofs.Common.{refl}
use Rattle.arz_sources.proofs.Searches.{found-targets}
use Rattle.arz_sources.proofs.sources.Sources.of.Goals as goal

pub returns : goal.returns
returns c = record {
  list = refl;
  names = c.in_ok-names.ensures;
  found = λ sources servers are. found-targets _ servers sources c.args.list.now are refl c.in_ok-names.ensures;
}
