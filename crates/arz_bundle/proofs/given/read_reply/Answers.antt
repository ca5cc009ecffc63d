use Rattle.std.proofs.Common.{sym, ◌∙◌}
use Rattle.arz_bundle.proofs.ValidBundles.{body-printable}
use Rattle.arz_bundle.proofs.given.read_reply.Goals as goal

pub body_bytes-requires : goal.body_bytes-requires
body_bytes-requires c = λ body e. body-printable c.args.item.now c.requires body (sym c.get-body.ensures ∙ e)
