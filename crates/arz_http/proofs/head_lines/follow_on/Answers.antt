use Rattle.std.proofs.Common.{ap, sym, ◌∙◌}
use Rattle.arz_http.specs.HeadSteps.{followed}
use Rattle.arz_http.proofs.HeadFollowing.{upto_within, open_head}
use Rattle.arz_http.proofs.head_lines.follow_on.Goals as goal

pub behind-requires : goal.behind-requires
behind-requires c = upto_within c.args.bytes.now c.args.from c.args.followed_to c.requires.within c.requires.followed_is

pub returns : goal.returns
returns c =
    open_head c.args.bytes.now c.args.from c.args.followed_to c.requires.within c.requires.followed_is c.in_ok-at.at
    (ap (followed c.args.followed_to.at) (sym c.behind.ensures) ∙ sym c.in_ok-at.ensures) c.if-bytes-gt-HEAD_LIMIT.false
