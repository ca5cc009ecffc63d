-- What a piece of a reply brings.
use Rattle.std.proofs.Common.{◌≡◌, ℕ, ◌<◌, ◌==◌, Bool, true, false, List, [], ◌∷◌, ◌++◌, length, take, drop, Ok, Err, IsTrue, refl, sym, ◌∙◌, ap, subst, arith, append-nil, append_assoc, take-append-drop, ne_eqb}
use Rattle.std.proofs.lemmas.Bool.{false≢true}
use Rattle.arz_world.specs.declared.messages.Reply.{Reply}
use Rattle.arz_http.specs.declared.fault.PeerFault.{PeerFault}
use Rattle.arz_http.specs.declared.reader.Fed.TheVariants.{More, Done}
use Rattle.arz_http.specs.Messages.{Message, Fault, settled, cut_off, IsOpenReply}
use Rattle.arz_http.specs.Readings.{ReplyReading, whole, is_closed, TakesReply, Closes}
use Rattle.arz_http.proofs.Beginning.{nothing_stands}
use Rattle.arz_http.proofs.OneMessage.{message_or_fault}
use Rattle.arz_http.proofs.OneReply.{settled_or_message}
use Rattle.arz_exchange.specs.Slots.{IsWhole}
use Rattle.arz_exchange.specs.Conversing.{Hears, HasNoFault}

no_bytes : (piece : List ℕ) → length piece ≡ 0 → piece ≡ []
no_bytes [] e = refl
no_bytes (b ∷ piece) e = absurd (omega (arith, e))

pub is_close : (piece : List ℕ) → length piece ≡ 0 → (length piece == 0) ≡ true
is_close piece e = ap (λ (n : ℕ). n == 0) e

pub is_some : (piece : List ℕ) → 0 < length piece → (length piece == 0) ≡ false
is_some piece some = ne_eqb (length piece) 0 (λ e. omega (arith, e, some))

whole_is : (new : ReplyReading) (o closed : Bool) (bytes : List ℕ) (reply : Reply) → new.head_only ≡ o → new.seen ≡ whole closed → new.bytes ≡ bytes → Message o closed bytes reply → IsWhole new
whole_is new o closed bytes reply h s b m =
    let c : is_closed new.seen ≡ closed = ap is_closed s in
    record {
      reply = reply;
      message = subst (λ (x : Bool). Message x (is_closed new.seen) new.bytes reply) (sym h) (subst (λ (x : Bool). Message o x new.bytes reply) (sym c) (subst (λ (l : List ℕ). Message o closed l reply) (sym b) m));
      seen = s ∙ ap whole (sym c);
    }

-- ---- no fault is there

pub open_no_fault : (o : Bool) (bytes : List ℕ) → IsOpenReply o bytes → HasNoFault o bytes false
open_no_fault o bytes is_open cause at (settled s) = is_open.no_fault cause at s
open_no_fault o bytes is_open cause at (cut_off ended here not_closed) = absurd (false≢true ended)

pub nothing_open : (o : Bool) → IsOpenReply o []
nothing_open o = (nothing_stands o).1

front_no_fault : (o closed : Bool) (bytes front rest : List ℕ) (reply : Reply) → closed ≡ false → bytes ≡ front ++ rest → Message o false front reply → HasNoFault o bytes closed
front_no_fault o closed bytes front rest reply shut e m cause at (settled s) = settled_or_message o bytes front rest reply cause at s e m
front_no_fault o closed bytes front rest reply shut e m cause at (cut_off ended here not_closed) = absurd (false≢true (sym shut ∙ ended))

-- ---- the close

module _ (o : Bool) (before piece : List ℕ) (new : ReplyReading) (none : length piece ≡ 0) (same : new.head_only ≡ o) where
  all : before ++ piece ≡ before
  all = ap (λ (l : List ℕ). before ++ l) (no_bytes piece none) ∙ append-nil before

  pub hears_end : new.bytes ≡ before → Closes o before new.seen (Ok tt) → Hears before piece new (Ok true)
  hears_end kept closes = (
    whole_is new o true before closes.1 same closes.0 kept closes.2,
    record { begins = (piece, ap (λ (l : List ℕ). l ++ piece) (sym kept)); ended = λ _. (all ∙ sym kept, is_close piece none) },
    λ cause at f. message_or_fault o true before closes.1 cause at closes.2
        (subst (λ (x : Bool). Fault x before true cause at) same (subst (λ (x : Bool). Fault new.head_only before x cause at) (is_close piece none) (subst (λ (l : List ℕ). Fault new.head_only l (length piece == 0) cause at) all f))),
  )

  pub hears_cut : (told : PeerFault) → Closes o before new.seen (Err told) → Hears before piece new (Err told)
  hears_cut told closes = (
    closes.0,
    subst (λ (x : Bool). Fault x (before ++ piece) (length piece == 0) told.cause told.at) (sym same)
        (subst (λ (x : Bool). Fault o (before ++ piece) x told.cause told.at) (sym (is_close piece none)) (subst (λ (l : List ℕ). Fault o l true told.cause told.at) (sym all) closes.1)),
  )

-- ---- some bytes

module _ (o : Bool) (before piece : List ℕ) (new : ReplyReading) (some : 0 < length piece) (same : new.head_only ≡ o) where
  pub hears_more : TakesReply o before piece new.bytes new.seen (Ok More) → Hears before piece new (Ok false)
  hears_more takes = (
    some,
    takes.0,
    takes.1,
    subst (λ (x : Bool). IsOpenReply x new.bytes) (sym same) (subst (IsOpenReply o) (sym takes.0) takes.2),
  )

  pub hears_done : (n : ℕ) → TakesReply o before piece new.bytes new.seen (Ok (Done n)) → Hears before piece new (Ok true)
  hears_done n takes =
      let parts : before ++ piece ≡ (before ++ take n piece) ++ drop n piece =
      ap (λ (l : List ℕ). before ++ l) (sym (take-append-drop n piece)) ∙ sym (append_assoc before (take n piece) (drop n piece)) in (
        whole_is new o false (before ++ take n piece) takes.3 same takes.2 takes.1 takes.4,
        record {
          begins = (drop n piece, parts ∙ ap (λ (l : List ℕ). l ++ drop n piece) (sym takes.1));
          ended = λ closed. absurd (open_end (subst IsTrue (ap is_closed takes.2) closed));
        },
        λ cause at f. front_no_fault o (length piece == 0) (before ++ piece) (before ++ take n piece) (drop n piece) takes.3 (is_some piece some) parts takes.4 cause at
            (subst (λ (x : Bool). Fault x (before ++ piece) (length piece == 0) cause at) same f),
      )
    where
      open_end : IsTrue false → ⊥
      open_end e = cc e

  pub hears_fault : (told : PeerFault) → TakesReply o before piece new.bytes new.seen (Err told) → Hears before piece new (Err told)
  hears_fault told takes = (
    takes.0,
    subst (λ (x : Bool). Fault x (before ++ piece) (length piece == 0) told.cause told.at) (sym same) (settled takes.1),
  )
