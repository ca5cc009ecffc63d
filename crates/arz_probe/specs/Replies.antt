-- What is printed of the bytes that a peer sent before it closed, and the status.
use Rattle.std.specs.Prelude.{◌≡◌, ℕ, Bool, true, List, [], ◌++◌, length, codes, Result, Ok, Err}
use Rattle.arz_world.specs.declared.Reply.{Reply}
use Rattle.arz_http.specs.declared.fault.PeerCause.{PeerCause}
use Rattle.arz_http.specs.declared.fault.PeerCause.TheVariants.{BadHead, HeadTooLarge, BodyTooLarge, BadFraming, TooManyInterim, Truncated, Switching}
use Rattle.arz_http.specs.declared.fault.PeerFault.{PeerFault}
use Rattle.arz_http.specs.Messages.{Message, Fault}
use Rattle.arz_http.specs.Readings.{ReplyReading, is_closed}
use Rattle.arz_probe.specs.Journals.{flag_text}
use Rattle.arz_probe.specs.Reports.{good, refused, placed}
use Rattle.arz_probe.specs.declared.report.Report.{Report}

abbrev pub cause_text : PeerCause → List ℕ
cause_text BadHead = codes "BadHead"
cause_text HeadTooLarge = codes "HeadTooLarge"
cause_text BodyTooLarge = codes "BodyTooLarge"
cause_text BadFraming = codes "BadFraming"
cause_text TooManyInterim = codes "TooManyInterim"
cause_text Truncated = codes "Truncated"
cause_text Switching = codes "Switching"

-- how many bytes a message has, its status, how many bytes its body has, and whether the close ended it
abbrev pub message_text : List ℕ → Bool → Reply → List ℕ
message_text message closed reply =
    placed (placed (placed (codes "done") (length message)) reply.status) (length reply.body) ++ codes " " ++ flag_text closed

-- The message at the front of what came, which the close ends where it is all that came; or the fault of what
-- came with the close (RFC 9112). The pieces are no part of it.
pub data IsReplyReport (head_only : Bool) (came : List ℕ) : Report → Type 0 where
  tells_message : (message rest : List ℕ) (closed : Bool) (reply : Reply) → came ≡ message ++ rest → (closed ≡ true → rest ≡ [])
      → Message head_only closed message reply → IsReplyReport head_only came (good (message_text message closed reply))
  tells_fault : (cause : PeerCause) (at : ℕ) → Fault head_only came true cause at → IsReplyReport head_only came (refused (placed (cause_text cause) at))

-- ---- for private clauses

-- a reader holds a message
abbrev pub HoldsMessage : Bool → ReplyReading → Type 0
HoldsMessage head_only r = (reply : Reply) × Message head_only (is_closed r.seen) r.bytes reply

-- what a reader came to, that was given all that came, and the close
abbrev pub IsRead : Bool → List ℕ → ReplyReading → Result (Unit {0}) PeerFault → Type 0
IsRead head_only came r (Ok done) = HoldsMessage head_only r × (rest : List ℕ) × (came ≡ r.bytes ++ rest) × (is_closed r.seen ≡ true → rest ≡ [])
IsRead head_only came r (Err told) = Fault head_only came true told.cause told.at
