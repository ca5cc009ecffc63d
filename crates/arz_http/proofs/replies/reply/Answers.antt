use Rattle.std.proofs.Common.{true, refl, sym, subst}
use Rattle.arz_http.specs.declared.fault.PeerFault.{PeerFault}
use Rattle.arz_http.specs.Messages.{Fault, settled, cut_off}
use Rattle.arz_http.proofs.Beginning.{none_before}
use Rattle.arz_http.proofs.replies.reply.Goals as goal

pub read_heads-requires-clause-after : goal.read_heads-requires-clause-after
read_heads-requires-clause-after c = none_before c.args.message.now

pub returns-in-More : goal.returns-in-More
returns-in-More c =
    subst (λ (f : PeerFault). Fault c.args.head_only c.args.message.now true f.cause f.at) (sym c.truncated.ensures) (cut_off refl (c.in-More.ensures.1 c.args.head_only) (c.in-More.ensures.3 c.args.head_only))

pub returns-in-Fault : goal.returns-in-Fault
returns-in-Fault c = settled (c.in-Fault.ensures c.args.head_only)
