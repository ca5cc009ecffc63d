use Rattle.std.proofs.Common.{[], ◌∷◌}
use Rattle.std.proofs.lemmas.List.Elements.{All-append, All-nil, All-cons}
use Rattle.arz_bundle.specs.declared.fault.LoadFault.TheVariants.{Memory}
use Rattle.arz_bundle.specs.FileTree.{GivenSources}
use Rattle.arz_bundle.specs.Loading.{FromSources}
use Rattle.arz_bundle.proofs.Overlaying.{later-then, asked-then}
use Rattle.arz_bundle.proofs.Sourcing.{next-read, next-fails, next-unkept, all-read}
use Rattle.arz_bundle.proofs.Stages.{exit}
use Rattle.arz_bundle.proofs.ValidBundles.{Nests}
use Rattle.arz_bundle.proofs.sources.read_sources.Goals as goal

pub loop-source-preserved : goal.loop-source-preserved
loop-source-preserved g c =
    let first = g.F.Files.files c.args.files.now in
    let before = g.F.Files.files c.loop-source.files in
    let mid = g.F.Files.files c.read_source.new.files in
    let one = g.P.Patterns.patterns c.args.rx.now in
    let old = g.P.Patterns.patterns c.loop-source.rx in
    let half = g.P.Patterns.patterns c.read_source.new.rx in
    let source = c.in_ok-read_source.field-0 in
    let read = c.loop-source.sources.items in
    record {
      nests = rw c.in_ok-push.ensures.items (All-append Nests read (source ∷ []) c.loop-source.invariant.nests (All-cons Nests source [] c.in_ok-read_source.ensures.nests (All-nil Nests)));
      later = later-then first before mid c.loop-source.invariant.later (record { told = c.in_ok-read_source.ensures.told; counts = c.in_ok-read_source.ensures.counts });
      asked = asked-then one old half c.loop-source.invariant.asked c.in_ok-read_source.ensures.asked;
      leads = rw c.in_ok-push.ensures.items
          (next-read first before mid one old half c.args.setup.now c.args.described.now c.loop-source.source-index c.source-item.result c.loop-source-test.true c.source-item.is read
          (record { told = c.in_ok-read_source.ensures.told; counts = c.in_ok-read_source.ensures.counts }) c.in_ok-read_source.ensures.asked c.loop-source.invariant.leads source c.in_ok-read_source.ensures.reads);
    }

pub returns-in_err-read_source-clause-reads : goal.returns-in_err-read_source-clause-reads
returns-in_err-read_source-clause-reads g c =
    let first = g.F.Files.files c.args.files.now in
    let before = g.F.Files.files c.loop-source.files in
    let mid = g.F.Files.files c.read_source.new.files in
    let one = g.P.Patterns.patterns c.args.rx.now in
    let old = g.P.Patterns.patterns c.loop-source.rx in
    let half = g.P.Patterns.patterns c.read_source.new.rx in
    let fault = c.in_err-read_source.field-0.0 in
    exit (FromSources first mid one half c.args.setup.now c.args.described.now GivenSources) c.from_residual.result fault c.from_residual.ensures.1
    (next-fails first before mid one old half c.args.setup.now c.args.described.now c.loop-source.source-index c.source-item.result c.loop-source-test.true c.source-item.is c.loop-source.sources.items
    (record { told = c.in_err-read_source.ensures.told; counts = c.in_err-read_source.ensures.counts }) c.in_err-read_source.ensures.asked c.loop-source.invariant.leads fault c.in_err-read_source.ensures.reads)

pub returns-in_err-push-clause-reads : goal.returns-in_err-push-clause-reads
returns-in_err-push-clause-reads g c =
    let first = g.F.Files.files c.args.files.now in
    let before = g.F.Files.files c.loop-source.files in
    let mid = g.F.Files.files c.read_source.new.files in
    let one = g.P.Patterns.patterns c.args.rx.now in
    let old = g.P.Patterns.patterns c.loop-source.rx in
    let half = g.P.Patterns.patterns c.read_source.new.rx in
    exit (FromSources first mid one half c.args.setup.now c.args.described.now GivenSources) c.from_residual-in_err-push.result Memory c.from_residual-in_err-push.ensures.1
    (next-unkept first before mid one old half c.args.setup.now c.args.described.now c.loop-source.source-index c.source-item.result c.loop-source-test.true c.source-item.is c.loop-source.sources.items
    (record { told = c.in_ok-read_source.ensures.told; counts = c.in_ok-read_source.ensures.counts }) c.in_ok-read_source.ensures.asked c.loop-source.invariant.leads)

pub returns-clause-reads : goal.returns-clause-reads
returns-clause-reads g c =
    rw c.from_std.ensures
    (all-read (g.F.Files.files c.args.files.now) (g.F.Files.files c.loop-source.files) (g.P.Patterns.patterns c.args.rx.now) (g.P.Patterns.patterns c.loop-source.rx)
    c.args.setup.now c.args.described.now c.loop-source.source-index c.loop-source.sources.items c.loop-source-test.false c.loop-source.invariant.leads)
