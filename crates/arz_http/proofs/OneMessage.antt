-- Messages at the front of the same bytes are one, and have one reply.
use Rattle.std.proofs.Common.{◌≡◌, ℕ, ◌+◌, ◌<◌, ◌≤◌, Bool, true, false, List, [], ◌++◌, length, take, drop, map, refl, sym, ap, ◌∙◌, subst, append-nil, length-append, take-append-drop, ◌⊎◌, inl, inr, Some, arith}
use Rattle.std.proofs.lemmas.List.{take_at, take_all, length-take-le}
use Rattle.httparse.specs.Grammar.{ResponseHead, print_response, status_code}
use Rattle.arz_world.specs.declared.Reply.{Reply}
use Rattle.arz_http.specs.declared.fault.PeerCause.{PeerCause}
use Rattle.arz_http.specs.Chunked.{Chunked, print_chunked, IsChunked, IsWithinLimits, body_of, ReadsChunked}
use Rattle.arz_http.specs.Messages.{print_heads, Framing, nothing, chunks, to_close, counted, framing, Section, no_bytes, all_counted, in_chunks, all_to_close, Message, header_of, Fault, settled, cut_off}
use Rattle.arz_http.specs.declared.fault.PeerFault.{PeerFault}
use Rattle.arz_http.specs.declared.standing.Standing.{Standing}
use Rattle.arz_http.specs.declared.standing.Standing.TheVariants.{Head, Counted, Chunks, ToClose, Whole, Closed, Faulted}
use Rattle.arz_http.specs.Standings.{IsBody, IsMessage, Stands}
use Rattle.arz_http.specs.WholeReplies.{IsNotWhole}
use Rattle.arz_http.proofs.Unique.{one_whole}
use Rattle.arz_http.proofs.Collected.{body_collected}
use Rattle.arz_http.proofs.OneReply.{stop_same, final_stops, ends_message, same_framing, settled_or_message, final_open}
use Rattle.arz_http.proofs.ReplyStanding.{close_whole}
use Rattle.arz_http.specs.Messages.{IsOpenReply, IsNotClosed}
use Rattle.arz_http.specs.Chunked.{section_limit}

-- what a section of this framing is
abbrev pub SectionFacts : Framing → Bool → List ℕ → List ℕ → Type 0
SectionFacts nothing c s body = (c ≡ false) × (s ≡ []) × (body ≡ [])
SectionFacts chunks c s body = (t : Chunked) × (c ≡ false) × IsChunked t × IsWithinLimits t × (s ≡ print_chunked t) × (body ≡ body_of t)
SectionFacts to_close c s body = (c ≡ true) × (body ≡ s)
SectionFacts (counted n) c s body = (c ≡ false) × (length s ≡ n) × (body ≡ s)

pub section_facts : (f : Framing) (c : Bool) (s body : List ℕ) → Section f c s body → SectionFacts f c s body
section_facts nothing c s body no_bytes = (refl, refl, refl)
section_facts chunks c s body (in_chunks t is within) = (t, refl, is, within, refl, refl)
section_facts to_close c s body (all_to_close b) = (refl, refl)
section_facts (counted n) c s body (all_counted b) = (refl, refl, refl)

fronts_same : (s t r q : List ℕ) → s ++ r ≡ t ++ q → length s ≡ length t → s ≡ t
fronts_same s t r q e len = sym (take_at s r (length s) refl) ∙ ap (take (length s)) e ∙ take_at t q (length s) (sym len)

pub sections_same : (f : Framing) (c d : Bool) (s t body text r q : List ℕ) → SectionFacts f c s body → SectionFacts f d t text → (c ≡ true → r ≡ q)
    → s ++ r ≡ t ++ q → (c ≡ d) × (s ≡ t) × (body ≡ text)
sections_same nothing c d s t body text r q x y close e = (x.0 ∙ sym y.0, x.1 ∙ sym y.1, x.2 ∙ sym y.2)
sections_same (counted n) c d s t body text r q x y close e =
    let same : s ≡ t = fronts_same s t r q e (x.1 ∙ sym y.1) in
    (x.0 ∙ sym y.0, same, x.2 ∙ same ∙ sym y.2)
sections_same to_close c d s t body text r q x y close e =
    let rests : r ≡ q = close x.0 in
    let len : length s ≡ length t = omega (arith, ap length e, length-append s r, length-append t q, ap length rests) in
    let same : s ≡ t = fronts_same s t r q e len in
    (x.0 ∙ sym y.0, same, x.1 ∙ same ∙ sym y.1)
sections_same chunks c d s t body text r q x y close e =
    let first : ReadsChunked (s ++ r) x.0 r = record { is = x.2; within = x.3; spelled = ap (λ (l : List ℕ). l ++ r) x.4 } in
    let second : ReadsChunked (s ++ r) y.0 q = record { is = y.2; within = y.3; spelled = e ∙ ap (λ (l : List ℕ). l ++ q) y.4 } in
    let same : s ≡ t = fronts_same s t r q e (ap length x.4 ∙ one_whole (s ++ r) r q x.0 y.0 first second ∙ sym (ap length y.4)) in
    (x.1 ∙ sym y.1, same, x.5 ∙ sym (body_collected (s ++ r) r x.0 first) ∙ body_collected (s ++ r) q y.0 second ∙ sym y.5)

-- two messages have one length, one end and one reply
pub record Agree (front other : List ℕ) (closed ended : Bool) (reply again : Reply) : Type 0 where
  pub size : length front ≡ length other
  pub end : closed ≡ ended
  pub reply_is : reply ≡ again

message_size : {o closed : Bool} {front : List ℕ} {reply : Reply} (m : Message o closed front reply) → length front ≡ length (print_heads m.interim) + length (print_response m.final) + length m.section
message_size m = omega (arith, ap length m.spelled, length-append (print_heads m.interim) (print_response m.final ++ m.section), length-append (print_response m.final) m.section)

pub messages_agree : (o closed ended : Bool) (bytes front other rest more : List ℕ) (reply again : Reply) → bytes ≡ front ++ rest → bytes ≡ other ++ more → (closed ≡ true → rest ≡ more)
    → Message o closed front reply → Message o ended other again → Agree front other closed ended reply again
messages_agree o closed ended bytes front other rest more reply again e f close m n =
    let one = (stop_same bytes (m.section ++ rest) (n.section ++ more) (length (print_heads m.interim)) (length (print_heads n.interim)) m.final n.final
    (final_stops (ends_message bytes rest m e) m.is) (final_stops (ends_message bytes more n f) n.is)).0 in
    let framings : m.framed ≡ n.framed = same_framing m.framed n.framed (sym m.framing_is ∙ ap (framing o) one.head ∙ n.framing_is) in
    let s = sections_same n.framed closed ended m.section n.section reply.body again.body rest more
    (subst (λ (g : Framing). SectionFacts g closed m.section reply.body) framings (section_facts m.framed closed m.section reply.body m.body))
    (section_facts n.framed ended n.section again.body n.body) close one.section in
    let status : reply.status ≡ again.status = m.status ∙ ap status_code one.head ∙ sym n.status in
    let headers : reply.headers ≡ again.headers = m.headers ∙ ap (λ (h : ResponseHead). map header_of h.fields) one.head ∙ sym n.headers in
    record {
      size = omega (arith, message_size m, message_size n, one.place, ap (λ (h : ResponseHead). length (print_response h)) one.head, ap length s.1);
      end = s.0;
      reply_is = λ i. record { status = status i; headers = headers i; body = s.2 i };
    }

-- ---- what isn't one whole message that ends so

pub no_ending : {A : Type 0} → ◌≡◌ {A = Bool} false true → A
no_ending e = absurd cc

pub front_not_whole : (o closed : Bool) (bytes : List ℕ) (until : ℕ) → IsMessage o bytes until → (closed ≡ true) ⊎ (until < length bytes) → IsNotWhole o closed bytes
front_not_whole o closed bytes until m why =
    let parts : bytes ≡ take until bytes ++ drop until bytes = sym (take-append-drop until bytes) in
    record {
      no_fault = λ cause at f. no_fault_here cause at f parts;
      no_message = λ reply n.
          let a = messages_agree o false closed bytes (take until bytes) bytes (drop until bytes) [] m.1 reply parts (sym (append-nil bytes)) no_ending m.2 n in
          elim why [ inl ends ↦ no_ending (a.end ∙ ends) | inr less ↦ omega (arith, a.size, less, length-take-le until bytes m.0) ];
    }
  where
    no_fault_here : (cause : PeerCause) (at : ℕ) → Fault o bytes true cause at → bytes ≡ take until bytes ++ drop until bytes → ⊥
    no_fault_here cause at (settled s) parts = settled_or_message o bytes (take until bytes) (drop until bytes) m.1 cause at s parts m.2
    no_fault_here cause at (cut_off ended here not_closed) parts = here.not_whole (take until bytes) (drop until bytes) m.1 parts m.2

-- the whole bytes are a message that ends by itself
pub whole_message : (o closed : Bool) (bytes : List ℕ) (until : ℕ) → IsMessage o bytes until → closed ≡ false → length bytes ≤ until → (reply : Reply) × Message o closed bytes reply
whole_message o closed bytes until m open_end all =
    let same : take until bytes ≡ bytes = take_all until bytes all in
    (m.1, subst (λ (c : Bool). Message o c bytes m.1) (sym open_end) (subst (λ (l : List ℕ). Message o false l m.1) same m.2))

pub close_not_whole : (o : Bool) (bytes : List ℕ) (start : ℕ) (b : IsBody o bytes start to_close) → IsOpenReply o bytes → length b.section ≤ section_limit → IsNotWhole o false bytes
close_not_whole o bytes start b here fits = record {
  no_fault = λ cause at f. no_fault_here cause at f;
  no_message = λ reply m. here.not_whole bytes [] reply (sym (append-nil bytes)) m;
}
  where
    no_fault_here : (cause : PeerCause) (at : ℕ) → Fault o bytes true cause at → ⊥
    no_fault_here cause at (settled s) = here.no_fault cause at s
    no_fault_here cause at (cut_off ended again not_closed) = let w = close_whole o bytes start b fits in not_closed w.0 w.1

pub close_unended : (o closed : Bool) (bytes : List ℕ) (start : ℕ) → Stands o bytes (ToClose start) → closed ≡ false → IsNotWhole o closed bytes
close_unended o closed bytes start h e = subst (λ (c : Bool). IsNotWhole o c bytes) (sym e) (close_not_whole o bytes start h.0 h.1 h.2)

pub close_message : (o closed : Bool) (bytes : List ℕ) (start : ℕ) → Stands o bytes (ToClose start) → closed ≡ true → (reply : Reply) × Message o closed bytes reply
close_message o closed bytes start h e =
    let w = close_whole o bytes start h.0 h.2 in
    (w.0, subst (λ (c : Bool). Message o c bytes w.0) (sym e) w.1)

-- the bytes end too early
pub stands_cut : (o : Bool) (bytes : List ℕ) (s : Standing) → Stands o bytes s → ((start : ℕ) → s ≡ ToClose start → ⊥) → ((until : ℕ) → s ≡ Whole until → ⊥) → ((fault : PeerFault) → s ≡ Faulted fault → ⊥)
    → IsOpenReply o bytes × IsNotClosed o bytes
stands_cut o bytes (Head from interim followed) h a b d = (h.1, h.3)
stands_cut o bytes (Counted until) h a b d = (h.1, h.3)
stands_cut o bytes (Chunks start s) h a b d = (h.1, h.3)
stands_cut o bytes (ToClose start) h a b d = absurd (a start refl)
stands_cut o bytes (Whole until) h a b d = absurd (b until refl)
stands_cut o bytes Closed h a b d = absurd h
stands_cut o bytes (Faulted fault) h a b d = absurd (d fault refl)

-- a whole message and a fault exclude each other
pub message_or_fault : (o closed : Bool) (bytes : List ℕ) (reply : Reply) (cause : PeerCause) (at : ℕ) → Message o closed bytes reply → Fault o bytes true cause at → ⊥
message_or_fault o true bytes reply cause at m (cut_off ended here not_closed) = not_closed reply m
message_or_fault o false bytes reply cause at m (cut_off ended here not_closed) = here.not_whole bytes [] reply (sym (append-nil bytes)) m
message_or_fault o false bytes reply cause at m (settled s) = settled_or_message o bytes bytes [] reply cause at s (sym (append-nil bytes)) m
message_or_fault o true bytes reply cause at m (settled s) = by_framing m.framed m.framing_is (section_facts m.framed true m.section reply.body m.body)
  where
    by_framing : (f : Framing) → framing o m.final ≡ Some f → SectionFacts f true m.section reply.body → ⊥
    by_framing nothing e x = no_ending (sym x.0)
    by_framing chunks e x = no_ending (sym x.1)
    by_framing (counted n) e x = no_ending (sym x.0)
    by_framing to_close e x =
        let here = final_open o bytes (m.section ++ []) (length (print_heads m.interim)) m.final to_close (ends_message bytes [] m (sym (append-nil bytes))) m.is e (omega (arith, length-append m.section [], m.fits)) in
        here.no_fault cause at s
