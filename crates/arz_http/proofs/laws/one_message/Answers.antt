use Rattle.std.proofs.Common.{refl, sym, append-nil, false, []}
use Rattle.arz_http.proofs.OneMessage.{no_ending, messages_agree, message_or_fault}
use Rattle.arz_http.proofs.laws.one_message.Goals as goal

pub returns : goal.returns
returns c = record {
  front = λ head_only bytes front rest other more reply again e f m n.
      let a = messages_agree head_only false false bytes front other rest more reply again e f no_ending m n in
      (a.size, a.reply_is);
  whole = λ head_only closed ended bytes reply again m n.
      let a = messages_agree head_only closed ended bytes bytes bytes [] [] reply again (sym (append-nil bytes)) (sym (append-nil bytes)) (λ _. refl) m n in
      (a.end, a.reply_is);
  apart = λ head_only closed bytes reply cause at m f. message_or_fault head_only closed bytes reply cause at m f;
}
