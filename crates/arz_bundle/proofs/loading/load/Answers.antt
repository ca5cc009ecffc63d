use Rattle.std.proofs.Common.{codes}
use Rattle.arz_bundle.specs.FileTree.{load_fault}
use Rattle.arz_bundle.specs.Loading.{FromDescription, AfterSetup, Loads}
use Rattle.arz_bundle.specs.Phases.{setup_told}
use Rattle.arz_bundle.proofs.Stages.{exit, had-none, was-refused, went-on, tells-refused, tells-on}
use Rattle.arz_bundle.proofs.Wholes.{files-end, patterns-whole, description-whole}
use Rattle.arz_bundle.proofs.loading.load.Goals as goal

pub returns-in_err-setup-clause-loads : goal.returns-in_err-setup-clause-loads
returns-in_err-setup-clause-loads g c =
    let before = g.F.Files.files c.args.files.now in
    let now = g.F.Files.files c.read_tree.new.files in
    let old = g.P.Patterns.patterns c.args.rx.now in
    let fault = c.in_err-setup.field-0.0 in
    exit (Loads before now old old c.args.path.now) c.from_residual.result fault c.from_residual.ensures.1
    (had-none before now c.args.path.now (codes "setup") (AfterSetup before now old old) fault c.in_err-setup.ensures.tree)

pub returns-in_err-check_setup-clause-loads : goal.returns-in_err-check_setup-clause-loads
returns-in_err-check_setup-clause-loads g c =
    let before = g.F.Files.files c.args.files.now in
    let now = g.F.Files.files c.read_tree.new.files in
    let old = g.P.Patterns.patterns c.args.rx.now in
    let setup = c.in_ok-setup.setup in
    let fault = c.in_err-check_setup.field-0.0 in
    exit (Loads before now old old c.args.path.now) c.from_residual-in_err-check_setup.result (load_fault fault) c.from_residual-in_err-check_setup.ensures.1
    (was-refused before now now c.args.path.now (codes "setup") (AfterSetup before now old old) setup (setup_told setup) fault c.in_ok-setup.ensures.tree c.in_err-check_setup.ensures
    (tells-refused (setup_told setup) (FromDescription before now old old setup)))

pub returns-clause-loads : goal.returns-clause-loads
returns-clause-loads g c =
    let before = g.F.Files.files c.args.files.now in
    let after = g.F.Files.files c.read_tree.new.files in
    let now = g.F.Files.files c.from_description.new.files in
    let old = g.P.Patterns.patterns c.args.rx.now in
    let new = g.P.Patterns.patterns c.from_description.new.rx in
    let setup = c.in_ok-setup.setup in
    went-on before after now c.args.path.now (codes "setup") (AfterSetup before now old new) setup c.from_description.result c.in_ok-setup.ensures.tree
    (tells-on (setup_told setup) _ _ c.in_ok-check_setup.ensures
    (description-whole after now before now (files-end before after now (record { told = c.read_tree.ensures.told; counts = c.read_tree.ensures.counts }))
    old new old new (patterns-whole old new) c.from_description.result setup c.from_description.ensures.loads))
