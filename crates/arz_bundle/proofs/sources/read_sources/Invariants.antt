use Rattle.std.proofs.Common.{All, drop}
use Rattle.arz_path.specs.Results.{Asked}
use Rattle.arz_bundle.proofs.Sourcing.{Leads}
use Rattle.arz_bundle.proofs.ValidBundles.{Nests}
use Rattle.arz_bundle.proofs.Wholes.{Later}
use Rattle.arz_bundle.proofs.sources.read_sources.Given as goal

-- what comes of the sources that are left, behind those that were read, comes of all
abbrev pub invariant-loop-source : goal.invariant-loop-source
invariant-loop-source g l =
    let files = g.F.Files.files in
    let patterns = g.P.Patterns.patterns in
    record {
      nests : All Nests l.sources.items;
      later : Later (files l.fn.files) (files l.files);
      asked : Asked (patterns l.fn.rx) (patterns l.rx);
      leads : Leads (files l.fn.files) (files l.files) (patterns l.fn.rx) (patterns l.rx) l.setup l.described (drop l.source-index l.described) l.sources.items;
    }
