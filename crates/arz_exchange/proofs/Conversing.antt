-- A request goes out, and its reply comes in.
use Rattle.std.proofs.Common.{◌≡◌, ℕ, false, List, [], length, take, Result, Ok, Err, IsErr, IsErrAnd, IsTrue, sym, ◌∙◌, ap, subst, arith}
use Rattle.std.proofs.lemmas.Bool.{false≢true}
use Rattle.std.proofs.lemmas.List.{take_all}
use Rattle.arz_world.specs.World.{WorldView, talks, IsImage, LinkCall, IsWorld, on_last, with_sent}
use Rattle.arz_world.specs.Moments.{EachMoment}
use Rattle.arz_world.specs.declared.messages.Server.{Server}
use Rattle.arz_world.specs.declared.world.Talk.{Talk}
use Rattle.arz_world.specs.declared.world.LinkFault.{LinkFault}
use Rattle.arz_world.specs.declared.world.LinkFault.TheVariants as link
use Rattle.arz_world.proofs.Moments.{call, joined, weaker}
use Rattle.arz_http.specs.Readings.{ReplyReading, taking}
use Rattle.arz_exchange.specs.declared.conversation.ConverseFault.{ConverseFault}
use Rattle.arz_exchange.specs.declared.conversation.ConverseFault.TheVariants as fault
use Rattle.arz_exchange.specs.Conversing.{LinkRun, Said, UnderWay, sending, receiving, Conversed, Heard, Answered, Read, of_link}
use Rattle.arz_exchange.proofs.Talking.{said_sent, run_none, run_on, run_joined}
use Rattle.arz_exchange.proofs.Hearing.{open_no_fault, nothing_open}

-- the bytes that were sent are those of the request
pub sends_cut : (first w : WorldView) (bytes request : List ℕ) → bytes ≡ request → (IsTrue first.tells → (count : ℕ) × (talks w ≡ on_last (with_sent (take count bytes)) (talks first)))
    → IsTrue first.tells → (count : ℕ) × (talks w ≡ on_last (with_sent (take count request)) (talks first))
sends_cut first w bytes request same sent told = let s = sent told in (s.0, s.1 ∙ ap (λ (l : List ℕ). on_last (with_sent (take s.0 l)) (talks first)) same)

pub sends_whole : (first w : WorldView) (bytes request : List ℕ) → bytes ≡ request → (IsTrue first.tells → talks w ≡ on_last (with_sent bytes) (talks first))
    → IsTrue first.tells → talks w ≡ on_last (with_sent request) (talks first)
sends_whole first w bytes request same sent told = sent told ∙ ap (λ (l : List ℕ). on_last (with_sent l) (talks first)) same

module _ (first w : WorldView) (request : List ℕ) (lawful : IsWorld w) (sends : LinkCall first w) where
  abbrev pub Way : List ℕ → List Talk → Type 0
  Way image ts = IsImage first image × ((before : List Talk) (server : Server) → Said before server [] [] false (talks first) → UnderWay request before server ts)

  told_first : (image : List ℕ) → IsImage w image → IsTrue first.tells
  told_first image left = subst IsTrue sends.time.later.tells (lawful.untold w.moment image left)

  way_begins : (image : List ℕ) → IsImage first image → Way image (talks first)
  way_begins image left = (left, λ before server said. sending 0 said)

  -- the send failed
  pub cut_each : (IsTrue first.tells → (count : ℕ) × (talks w ≡ on_last (with_sent (take count request)) (talks first))) → EachMoment first w Way
  cut_each sent = call first w Way sends.time way_begins (λ image left. (
    sends.images image left,
    λ before server said. let s = sent (told_first image left) in sending s.0 (said_sent before server (take s.0 request) (talks first) (talks w) said s.1),
  ))

  pub cut_ends : (e : LinkFault) (reading : ReplyReading) → (IsTrue first.tells → (count : ℕ) × (talks w ≡ on_last (with_sent (take count request)) (talks first)))
      → IsTrue first.tells → (before : List Talk) (server : Server) → Said before server [] [] false (talks first) → Conversed request reading before server (Err (of_link e)) (talks w)
  cut_ends link.Failed reading sent told before server said =
      let s = sent told in (s.0, [], said_sent before server (take s.0 request) (talks first) (talks w) said s.1, open_no_fault reading.head_only [] (nothing_open reading.head_only))
  cut_ends link.Memory reading sent told before server said =
      let s = sent told in (s.0, [], said_sent before server (take s.0 request) (talks first) (talks w) said s.1, open_no_fault reading.head_only [] (nothing_open reading.head_only))

  pub cut_fault : (r : Result (Unit {0}) ConverseFault) (e : LinkFault) (reading : ReplyReading) → IsErr r × IsErrAnd r (λ f. f ≡ of_link e)
      → (IsTrue first.tells → (count : ℕ) × (talks w ≡ on_last (with_sent (take count request)) (talks first)))
      → IsTrue first.tells → (before : List Talk) (server : Server) → Said before server [] [] false (talks first) → Conversed request reading before server r (talks w)
  cut_fault (Ok done) e reading is sent told before server said = absurd (false≢true is.0)
  cut_fault (Err f) e reading is sent told before server said =
      subst (λ (g : ConverseFault). Conversed request reading before server (Err g) (talks w)) (sym is.1) (cut_ends e reading sent told before server said)

  -- it was sent whole, and a reply came in
  module _ (v : WorldView) (sent : IsTrue first.tells → talks w ≡ on_last (with_sent request) (talks first)) (run : LinkRun w v) where
    whole_said : IsTrue first.tells → (before : List Talk) (server : Server) → Said before server [] [] false (talks first) → Said before server request [] false (talks w)
    whole_said told before server said = said_sent before server request (talks first) (talks w) said (sent told)

    sent_each : EachMoment first w Way
    sent_each = call first w Way sends.time way_begins (λ image left. (
      sends.images image left,
      λ before server said. receiving [] false (whole_said (told_first image left) before server said),
    ))

    pub whole_each : EachMoment w v (λ image ts. IsImage w image × Heard (talks w) ts) → EachMoment first v Way
    whole_each each = joined first w v Way sends.time.later run.time sent_each (weaker w v _ Way (λ image ts heard. (
      sends.images image heard.0,
      λ before server said. let h = heard.1 before server request (whole_said (told_first image heard.0) before server said) in receiving h.0 h.1 h.2,
    )) each)

    pub whole_run : LinkRun first v
    whole_run = run_joined first w v (run_on first first w (run_none first) sends) run

    pub whole_ends : (result : Result (Unit {0}) ConverseFault) (reading : ReplyReading)
        → (IsTrue w.tells → (before : List Talk) (server : Server) (sent : List ℕ) → Said before server sent [] false (talks w) → Answered reading before server sent result (talks v))
        → IsTrue first.tells → (before : List Talk) (server : Server) → Said before server [] [] false (talks first) → Conversed request reading before server result (talks v)
    whole_ends result reading answered told before server said =
        by result (answered (subst IsTrue (sym sends.time.later.tells) told) before server request (whole_said told before server said))
      where
        by : (r : Result (Unit {0}) ConverseFault) → Answered reading before server request r (talks v) → Conversed request reading before server r (talks v)
        by (Ok done) a = a
        by (Err fault.Link) a = (length request, a.0, subst (λ (l : List ℕ). Said before server l a.0 false (talks v)) (sym (take_all (length request) request (omega arith))) a.1, a.2)
        by (Err (fault.Peer told)) a = a

pub cut_read : (e : LinkFault) (reading : ReplyReading) → reading.seen ≡ taking → Read reading (Err (of_link e))
cut_read link.Failed reading e = e
cut_read link.Memory reading e = e
