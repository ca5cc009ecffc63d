-- What a reader came to, behind a piece and behind the close.
use Rattle.std.proofs.Common.{◌≡◌, ℕ, Result, Bool, true, false, List, [], ◌∷◌, ◌++◌, length, arith, ap₂, take, drop, Ok, Err, refl, sym, ◌∙◌, ap, subst, append-nil, append_assoc, take-append-drop}
use Rattle.std.proofs.lemmas.Bool.{false≢true}
use Rattle.arz_world.specs.declared.Reply.{Reply}
use Rattle.arz_http.specs.declared.fault.PeerCause.{PeerCause}
use Rattle.arz_http.specs.declared.fault.PeerFault.{PeerFault}
use Rattle.arz_http.specs.declared.reader.Fed.TheVariants.{More, Done}
use Rattle.arz_http.specs.Messages.{Message, Settled, Fault, settled}
use Rattle.arz_http.specs.Readings.{ReplyReading, Seen, whole, is_closed, TakesReply, Closes}
use Rattle.std.proofs.Common.{IfOk}
use Rattle.std.proofs.lemmas.Result.{IfOk-weaker}
use Rattle.arz_http.specs.WholeReplies.{IsNotWhole, IsReplyOf}
use Rattle.arz_http.specs.declared.fault.ReplyFault.{ReplyFault}
use Rattle.arz_http.specs.declared.fault.ReplyFault.TheVariants.{Peer, NotWhole}
use Rattle.arz_probe.specs.declared.report.Report.{Report}
use Rattle.arz_probe.specs.Reports.{good, refused as refusal, placed}
use Rattle.arz_probe.specs.Replies.{cause_text, message_text, IsReplyReport, tells_message, tells_fault, HoldsMessage, IsRead}

holds : (o closed : Bool) (bytes : List ℕ) (new : ReplyReading) (reply : Reply) → new.seen ≡ whole closed → new.bytes ≡ bytes → Message o closed bytes reply → HoldsMessage o new
holds o closed bytes new reply seen same message =
    (reply, subst (λ (x : Bool). Message o x new.bytes reply) (sym (ap is_closed seen)) (subst (λ (l : List ℕ). Message o closed l reply) (sym same) message))

-- a piece of what came had the message's end
pub done : (o : Bool) (came before piece behind : List ℕ) (new : ReplyReading) (n : ℕ) → before ++ (piece ++ behind) ≡ came → TakesReply o before piece new.bytes new.seen (Ok (Done n)) → IsRead o came new (Ok tt)
done o came before piece behind new n parts takes = (
  holds o false (before ++ take n piece) new takes.3 takes.2 takes.1 takes.4,
  drop n piece ++ behind,
  sym parts ∙ ap (λ (l : List ℕ). before ++ (l ++ behind)) (sym (take-append-drop n piece)) ∙ ap (λ (l : List ℕ). before ++ l) (append_assoc (take n piece) (drop n piece) behind)
      ∙ sym (append_assoc before (take n piece) (drop n piece ++ behind)) ∙ ap (λ (l : List ℕ). l ++ (drop n piece ++ behind)) (sym takes.1),
  λ closed. absurd (false≢true (sym (ap is_closed takes.2) ∙ closed)),
)

-- a piece settled a fault, which stays
pub refused : (o : Bool) (came before piece behind : List ℕ) (new : ReplyReading) (told : PeerFault) → before ++ (piece ++ behind) ≡ came
    → ((head_only : Bool) (bytes more : List ℕ) (c : PeerCause) (a : ℕ) → Settled head_only bytes c a → Settled head_only (bytes ++ more) c a)
    → TakesReply o before piece new.bytes new.seen (Err told) → IsRead o came new (Err told)
refused o came before piece behind new told parts stays takes =
    settled (subst (λ (l : List ℕ). Settled o l told.cause told.at) (append_assoc before piece behind ∙ parts) (stays o (before ++ piece) behind told.cause told.at takes.1))

-- the close ended the message
pub closed : (o : Bool) (came before : List ℕ) (new : ReplyReading) → before ≡ came → new.bytes ≡ before → Closes o before new.seen (Ok tt) → IsRead o came new (Ok tt)
closed o came before new all kept closes = (
  holds o true before new closes.1 closes.0 kept closes.2,
  [],
  sym all ∙ sym kept ∙ sym (append-nil new.bytes),
  λ e. refl,
)

-- or was a fault
pub cut : (o : Bool) (came before : List ℕ) (new : ReplyReading) (told : PeerFault) → before ≡ came → Closes o before new.seen (Err told) → IsRead o came new (Err told)
cut o came before new told all closes = subst (λ (l : List ℕ). Fault o l true told.cause told.at) all closes.1

no_bytes : (rest : List ℕ) → length rest ≡ 0 → rest ≡ []
no_bytes [] e = refl
no_bytes (b ∷ rest) e = absurd (omega (arith, e))

-- all that came was given, and then the close
pub ended : (o : Bool) (came before rest : List ℕ) (new : ReplyReading) (r : Result (Unit {0}) PeerFault) → before ++ rest ≡ came → length rest ≡ 0 → new.bytes ≡ before → Closes o before new.seen r → IsRead o came new r
ended o came before rest new (Ok tt) parts none kept closes = closed o came before new (sym (append-nil before) ∙ ap (λ (l : List ℕ). before ++ l) (sym (no_bytes rest none)) ∙ parts) kept closes
ended o came before rest new (Err told) parts none kept closes = cut o came before new told (sym (append-nil before) ∙ ap (λ (l : List ℕ). before ++ l) (sym (no_bytes rest none)) ∙ parts) closes

-- a piece, what is behind it, and what was before
pub cut_parts : (came before rest piece behind : List ℕ) (n : ℕ) → before ++ rest ≡ came → piece ≡ take n rest → behind ≡ drop n rest → before ++ (piece ++ behind) ≡ came
cut_parts came before rest piece behind n parts front back = ap (λ (l : List ℕ). before ++ l) (ap₂ (λ (a b : List ℕ). a ++ b) front back ∙ take-append-drop n rest) ∙ parts

-- ---- the report

pub report_message : {E : Type 0} (o : Bool) (came : List ℕ) (r : ReplyReading) (d : Unit {0}) (result : Result Report E) → IsRead o came r (Ok d)
    → IfOk result (λ p. (reply : Reply) × Message o (is_closed r.seen) r.bytes reply × (p ≡ good (message_text r.bytes (is_closed r.seen) reply))) → IfOk result (IsReplyReport o came)
report_message o came r d result read gives =
    IfOk-weaker result _ _ (λ p h. subst (IsReplyReport o came) (sym h.2) (tells_message r.bytes read.1 (is_closed r.seen) h.0 read.2 read.3 h.1)) gives

pub report_fault : {E : Type 0} (o : Bool) (came : List ℕ) (told : PeerFault) (text : List ℕ) (result : Result Report E) → Fault o came true told.cause told.at → text ≡ cause_text told.cause
    → IfOk result (λ p. p ≡ refusal (placed text told.at)) → IfOk result (IsReplyReport o came)
report_fault o came told text result fault is gives =
    IfOk-weaker result _ _ (λ p e. subst (IsReplyReport o came) (sym (e ∙ ap (λ (t : List ℕ). refusal (placed t told.at)) is)) (tells_fault told.cause told.at fault)) gives

pub not_peer : (o shut : Bool) (r : ReplyReading) (message : List ℕ) (f : ReplyFault) (told : PeerFault) → ((head_only shut : Bool) (bytes : List ℕ) (reply : Reply) (c : PeerCause) (a : ℕ) → Message head_only shut bytes reply → Fault head_only bytes true c a → ⊥)
    → HoldsMessage o r → message ≡ r.bytes → f ≡ Peer told → IsReplyOf o shut message (Err f) → ⊥
not_peer o shut r message f told apart h same is says =
    apart o (is_closed r.seen) r.bytes h.0 told.cause told.at h.1 (subst (λ (l : List ℕ). Fault o l true told.cause told.at) same (subst (λ (x : ReplyFault). IsReplyOf o shut message (Err x)) is says))

whole_at : (o shut : Bool) (r : ReplyReading) (message : List ℕ) → HoldsMessage o r → shut ≡ is_closed r.seen → message ≡ r.bytes → IsNotWhole o shut message → ⊥
whole_at o shut r message h close same n = n.no_message h.0 (subst (λ (l : List ℕ). Message o shut l h.0) (sym same) (subst (λ (b : Bool). Message o b r.bytes h.0) (sym close) h.1))

pub not_whole : (o shut : Bool) (r : ReplyReading) (message : List ℕ) (f : ReplyFault) → HoldsMessage o r → shut ≡ is_closed r.seen → message ≡ r.bytes → f ≡ NotWhole → IsReplyOf o shut message (Err f) → ⊥
not_whole o shut r message f h close same is says = whole_at o shut r message h close same (subst (λ (x : ReplyFault). IsReplyOf o shut message (Err x)) is says)
