use Rattle.std.proofs.Common.{codes, refl}
use Rattle.arz_bundle.specs.FileTree.{load_fault}
use Rattle.arz_bundle.specs.Loading.{AfterReplies, Gives_replies}
use Rattle.arz_bundle.specs.Phases.{replies_told}
use Rattle.arz_bundle.proofs.Stages.{exit, had-none, was-refused, went-on, tells-refused, tells-on}
use Rattle.arz_bundle.proofs.ValidBundles.{reply-items, statuses}
use Rattle.arz_bundle.proofs.given.replies.Goals as goal

pub returns-in_err-tree-clause-gives : goal.returns-in_err-tree-clause-gives
returns-in_err-tree-clause-gives g c =
    let before = g.F.Files.files c.args.files.now in
    let now = g.F.Files.files c.read_tree.new.files in
    let fault = c.in_err-tree.field-0.0 in
    exit (Gives_replies before now c.args.path.now) c.from_residual.result fault c.from_residual.ensures.1
    (had-none before now c.args.path.now (codes "replies") AfterReplies fault c.in_err-tree.ensures.tree)

pub returns-in_err-check_replies-clause-gives : goal.returns-in_err-check_replies-clause-gives
returns-in_err-check_replies-clause-gives g c =
    let before = g.F.Files.files c.args.files.now in
    let now = g.F.Files.files c.read_tree.new.files in
    let fault = c.in_err-check_replies.field-0.0 in
    exit (Gives_replies before now c.args.path.now) c.from_residual-in_err-check_replies.result (load_fault fault) c.from_residual-in_err-check_replies.ensures.1
    (was-refused before now now c.args.path.now (codes "replies") AfterReplies c.in_ok-tree.tree (replies_told c.in_ok-tree.tree) fault c.in_ok-tree.ensures.tree c.in_err-check_replies.ensures
    (tells-refused (replies_told c.in_ok-tree.tree) _))

pub read_replies-requires : goal.read_replies-requires
read_replies-requires g c = rw c.items_of.ensures (reply-items c.in_ok-tree.tree c.in_ok-check_replies.ensures c.in_ok-tree.ensures.nests)

pub returns-clause-gives : goal.returns-clause-gives
returns-clause-gives g c =
    let before = g.F.Files.files c.args.files.now in
    let now = g.F.Files.files c.read_tree.new.files in
    rw (c.in_ok-read_replies.ensures, c.items_of.ensures)
    (went-on before now now c.args.path.now (codes "replies") AfterReplies c.in_ok-tree.tree _ c.in_ok-tree.ensures.tree
    (tells-on (replies_told c.in_ok-tree.tree) _ _ c.in_ok-check_replies.ensures refl))

pub returns-clause-statuses : goal.returns-clause-statuses
returns-clause-statuses g c =
    rw (c.in_ok-read_replies.ensures, c.items_of.ensures) (statuses _ (reply-items c.in_ok-tree.tree c.in_ok-check_replies.ensures c.in_ok-tree.ensures.nests))
