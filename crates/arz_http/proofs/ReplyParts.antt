-- The parts that were read are those of the reply.
use Rattle.std.proofs.Common.{◌≡◌, ℕ, ◌<◌, ◌≤◌, Bool, true, List, [], ◌∷◌, ◌++◌, length, drop, map, refl, sym, ap, ◌∙◌, subst, append-nil, Option, Some, ◌||◌, inl, inr, arith}
use Rattle.std.proofs.lemmas.Bool.{eqb-true, ltb-true, leb-true, and_parts, or_cases, false≢true}
use Rattle.std.specs.Prelude.{nat_lt, nat_le, ◌==◌, codes}
use Rattle.std.specs.Int.{is_in_range}
use Rattle.std.specs.Char.{is_ascii_alphanumeric}
use Rattle.std.proofs.lemmas.List.Elements.{All-nil, All-cons, All-head, All-tail, All-map, All-weaker}
use Rattle.std.proofs.lemmas.Simd.{map-map}
use Rattle.std.proofs.lemmas.Str.{IsUtf8-from_ascii}
use Rattle.std.proofs.lemmas.Str.Ascii.{IsAscii-from_all}
use Rattle.std.specs.List.{All, list_any, list_all}
use Rattle.std.specs.Str.{IsUtf8}
use Rattle.httparse.specs.declared.spans.HeaderSpan.{HeaderSpan}
use Rattle.httparse.specs.Grammar.{Field, IsField, is_token_byte, ResponseHead, status_code}
use Rattle.httparse.specs.Spans.{header_bytes, span_bytes, name_and_value}
use Rattle.arz_world.specs.declared.Header.{Header}
use Rattle.arz_world.specs.declared.Reply.{Reply}
use Rattle.arz_http.specs.declared.frames.Frame.{Frame}
use Rattle.arz_http.specs.declared.frames.Frame.TheVariants as frame
use Rattle.arz_http.specs.Chunked.{section_limit}
use Rattle.arz_http.specs.Messages.{print_heads, header_of, Framing, nothing, chunks, to_close, counted, framing, Message}
use Rattle.arz_http.specs.Standings.{IsFrame, IsFramed}
use Rattle.arz_http.specs.WholeReplies.{header_of_pair, headers_at, IsBodyOf}
use Rattle.arz_http.proofs.OneReply.{stop_same, SameStop, final_stops, ends_message, same_framing}
use Rattle.arz_http.proofs.OneMessage.{SectionFacts, section_facts}
use Rattle.arz_http.proofs.ReplyStanding.{framed_body, section_is}

-- ---- header lines

pub headers_same : (buf : List ℕ) (lines : List HeaderSpan) (fields : List Field) → map (header_bytes buf) lines ≡ map name_and_value fields → headers_at buf lines ≡ map header_of fields
headers_same buf lines fields e =
    sym (map-map header_of_pair (header_bytes buf) lines) ∙ ap (map header_of_pair) e ∙ map-map header_of_pair name_and_value fields

unmapped : {A B : Type 0} (P : B → Type 0) (f : A → B) (xs : List A) → All P (map f xs) → All (λ x. P (f x)) xs
unmapped P f [] all = All-nil (λ x. P (f x))
unmapped P f (x ∷ xs) all = All-cons (λ y. P (f y)) x xs (All-head P (f x) (map f xs) all) (unmapped P f xs (All-tail P (f x) (map f xs) all))

among : (b : ℕ) (cs : List ℕ) → list_all (λ c. nat_lt c 128) cs ≡ true → list_any (λ c. c == b) cs ≡ true → b < 128
among b [] small any = absurd (false≢true any)
among b (c ∷ cs) small any =
    let parts = and_parts (nat_lt c 128) (list_all (λ d. nat_lt d 128) cs) small in
    elim (or_cases (c == b) (list_any (λ d. d == b) cs) any) [
      | inl same ↦ omega (arith, ltb-true c 128 parts.0, eqb-true c b same)
      | inr more ↦ among b cs parts.1 more
    ]

in_ascii : (low high b : ℕ) → is_in_range low high b ≡ true → high < 128 → b < 128
in_ascii low high b within small = omega (arith, leb-true b high (and_parts (nat_le low b) (nat_le b high) within).1, small)

token_is_ascii : (b : ℕ) → is_token_byte b ≡ true → b < 128
unfolding is_token_byte
token_is_ascii b token =
    elim (or_cases (is_ascii_alphanumeric b) (list_any (λ c. c == b) (codes "!#$%&'*+-.^_`|~")) token) [
      | inl letter ↦ elim (or_cases (is_in_range 48 57 b || is_in_range 65 90 b) (is_in_range 97 122 b) letter) [
        | inl first ↦ elim (or_cases (is_in_range 48 57 b) (is_in_range 65 90 b) first) [ inl digit ↦ in_ascii 48 57 b digit (omega arith) | inr upper ↦ in_ascii 65 90 b upper (omega arith) ]
        | inr lower ↦ in_ascii 97 122 b lower (omega arith)
      ]
      | inr mark ↦ among b (codes "!#$%&'*+-.^_`|~") refl mark
    ]

name_is_text : (f : Field) → IsField f → IsUtf8 f.name
name_is_text f is = IsUtf8-from_ascii f.name (IsAscii-from_all f.name (All-weaker (λ b. is_token_byte b ≡ true) (λ b. b < 128) token_is_ascii f.name is.name.1))

pub names_are_texts : (buf : List ℕ) (lines : List HeaderSpan) (fields : List Field) → map (header_bytes buf) lines ≡ map name_and_value fields → All IsField fields
    → All (λ l. IsUtf8 (span_bytes buf l.name)) lines
names_are_texts buf lines fields e all =
    let P : List ℕ × List ℕ → Type 0 = λ p. IsUtf8 p.0 in
    unmapped (λ (p : List ℕ × List ℕ). IsUtf8 p.0) (header_bytes buf) lines
    (subst (All (λ (p : List ℕ × List ℕ). IsUtf8 p.0)) (sym e) (All-map (λ (p : List ℕ × List ℕ). IsUtf8 p.0) name_and_value fields (All-weaker IsField (λ f. IsUtf8 f.name) name_is_text fields all)))

-- ---- the body

body_is : (f : Framing) (fr : Frame) (c : Bool) (s body text : List ℕ) → length s ≤ section_limit → IsFrame (Some f) fr → SectionFacts f c s body → IsBodyOf fr s text → text ≡ body
body_is f frame.Nothing c s body text small h x t = let facts = subst (λ (g : Framing). SectionFacts g c s body) (same_framing f nothing h) x in t ∙ sym facts.2
body_is f frame.Chunks c s body text small h x t =
    let facts = subst (λ (g : Framing). SectionFacts g c s body) (same_framing f chunks h) x in
    t facts.0 (record { is = facts.2; within = facts.3; spelled = facts.4 ∙ sym (append-nil _) }) ∙ sym facts.5
body_is f frame.ToClose c s body text small h x t = let facts = subst (λ (g : Framing). SectionFacts g c s body) (same_framing f to_close h) x in t ∙ sym facts.1
body_is f (frame.Counted n) c s body text small h x t = let facts = subst (λ (g : Framing). SectionFacts g c s body) (same_framing f (counted n) h.0) x in t ∙ sym facts.2
body_is f frame.TooLong c s body text small h x t = let facts = subst (λ (g : Framing). SectionFacts g c s body) (same_framing f (counted h.0) h.1) x in absurd (omega (arith, facts.1, small, h.2))
body_is f frame.Bad c s body text small h x t = absurd cc

module _ {o closed : Bool} {bytes : List ℕ} {at start : ℕ} {fr : Frame} {reply : Reply} (x : IsFramed o bytes at start fr) (m : Message o closed bytes reply) where
  one : SameStop at (length (print_heads m.interim)) x.head m.final x.section (m.section ++ [])
  one = (stop_same bytes x.section (m.section ++ []) at (length (print_heads m.interim)) x.head m.final (final_stops x.ends x.final) (final_stops (ends_message bytes [] m (sym (append-nil bytes))) m.is)).0

  framed_so : framing o x.head ≡ Some m.framed
  framed_so = ap (framing o) one.head ∙ m.framing_is

  section_here : drop start bytes ≡ m.section
  section_here = section_is (framed_body x m.framed framed_so) ∙ one.section ∙ append-nil m.section

  pub section_small : length (drop start bytes) ≤ section_limit
  section_small = subst (λ (l : List ℕ). length l ≤ section_limit) (sym section_here) m.fits

  pub is_reply : (status : ℕ) (headers : List Header) (body : List ℕ) → status ≡ status_code x.head → headers ≡ map header_of x.head.fields → IsBodyOf fr (drop start bytes) body
      → Message o closed bytes (record { status = status; headers = headers; body = body })
  is_reply status headers body e g h =
      let codes : status ≡ reply.status = e ∙ ap status_code one.head ∙ sym m.status in
      let lines : headers ≡ reply.headers = g ∙ ap (λ (k : ResponseHead). map header_of k.fields) one.head ∙ sym m.headers in
      let text : body ≡ reply.body = body_is m.framed fr closed m.section reply.body body m.fits (subst (λ (f : Option Framing). IsFrame f fr) framed_so x.frame_is)
      (section_facts m.framed closed m.section reply.body m.body) (subst (λ (l : List ℕ). IsBodyOf fr l body) section_here h) in
      let whole : ◌≡◌ {A = Reply} (record { status = status; headers = headers; body = body }) reply = λ i. record { status = codes i; headers = lines i; body = text i } in
      subst (Message o closed bytes) (sym whole) m
