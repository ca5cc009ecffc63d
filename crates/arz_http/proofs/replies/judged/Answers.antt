use Rattle.std.proofs.Common.{true, refl, sym, subst}
use Rattle.arz_http.specs.declared.fault.PeerFault.{PeerFault}
use Rattle.arz_http.specs.Messages.{Fault, settled, cut_off}
use Rattle.arz_http.specs.Standings.{Stands}
use Rattle.arz_http.proofs.OneMessage.{stands_cut}
use Rattle.arz_http.proofs.replies.judged.Goals as goal

pub judged_whole-requires : goal.judged_whole-requires
judged_whole-requires c = subst (Stands c.args.head_only c.args.message.now) c.in-Whole.is c.requires

pub judged_to_close-requires : goal.judged_to_close-requires
judged_to_close-requires c = subst (Stands c.args.head_only c.args.message.now) c.in-ToClose.is c.requires

pub returns-in-Faulted : goal.returns-in-Faulted
returns-in-Faulted c = settled (subst (Stands c.args.head_only c.args.message.now) c.in-Faulted.is c.requires)

pub returns-in_default : goal.returns-in_default
returns-in_default c =
    let r = stands_cut c.args.head_only c.args.message.now c.args.standing c.requires c.in_default.not-ToClose c.in_default.not-Whole c.in_default.not-Faulted in
    subst (λ (f : PeerFault). Fault c.args.head_only c.args.message.now true f.cause f.at) (sym c.truncated.ensures) (cut_off refl r.0 r.1)
