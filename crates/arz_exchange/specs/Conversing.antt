-- What is said on a connection: a request goes out, and a reply comes back.
use Rattle.std.specs.Prelude.{◌≡◌, ◌+◌, ◌<◌, ◌≤◌, ℕ, Bool, true, false, ◌==◌, IsTrue, List, [], ◌∷◌, ◌++◌, length, take, Result, Ok, Err}
use Rattle.arz_world.specs.World.{WorldView, talks, IsImage, NoNewImage, Later, on_last, with_received}
use Rattle.arz_world.specs.Moments.{EachMoment}
use Rattle.arz_world.specs.declared.messages.Server.{Server}
use Rattle.arz_world.specs.declared.world.Talk.{Talk}
use Rattle.arz_world.specs.declared.world.LinkFault.{LinkFault}
use Rattle.arz_world.specs.declared.world.LinkFault.TheVariants as link
use Rattle.arz_http.specs.declared.fault.PeerCause.{PeerCause}
use Rattle.arz_http.specs.declared.fault.PeerFault.{PeerFault}
use Rattle.arz_http.specs.Messages.{Fault, IsOpenReply}
use Rattle.arz_http.specs.Readings.{ReplyReading, taking, failed}
use Rattle.arz_exchange.specs.Slots.{IsWhole, IsAnswer}
use Rattle.arz_exchange.specs.declared.conversation.ConverseFault.{ConverseFault}
use Rattle.arz_exchange.specs.declared.conversation.ConverseFault.TheVariants as fault

-- calls of the link alone: time goes on, and the disk stays as it is
pub record LinkRun (old new : WorldView) : Type 0 where
  pub time : Later old new
  pub images : NoNewImage old new
  pub file : new.file ≡ old.file
  pub attached : new.attached ≡ old.attached
  pub disk_faults : new.disk_faults ≡ old.disk_faults

-- the last talk is one with this server, in which this was sent and received, and these talks are before it
pub record Said (before : List Talk) (server : Server) (sent received : List ℕ) (closed : Bool) (ts : List Talk) : Type 0 where
  pub talks_are : ts ≡ before ++ record { server = server; sent = sent; received = received; closed = closed } ∷ []

-- no fault is there in these bytes
abbrev pub HasNoFault : Bool → List ℕ → Bool → Type 0
HasNoFault head_only received closed = (cause : PeerCause) (at : ℕ) → ¬ (Fault head_only received closed cause at)

-- A request is under way: some of it was sent and nothing was received, or it was sent whole.
pub data UnderWay (request : List ℕ) (before : List Talk) (server : Server) (ts : List Talk) : Type 0 where
  sending : (count : ℕ) → Said before server (take count request) [] false ts → UnderWay request before server ts
  receiving : (received : List ℕ) (closed : Bool) → Said before server request received closed ts → UnderWay request before server ts

-- What the talks are behind a conversation, and what was read. The request was sent whole, unless the link
-- failed. A fault of the peer is told exactly where the received bytes have one.
abbrev pub Conversed : List ℕ → ReplyReading → List Talk → Server → Result (Unit {0}) ConverseFault → List Talk → Type 0
Conversed request reading before server (Ok done) ts =
    (received : List ℕ) × (closed : Bool) × Said before server request received closed ts × IsAnswer reading received closed × HasNoFault reading.head_only received closed
Conversed request reading before server (Err fault.Link) ts =
    (count : ℕ) × (received : List ℕ) × Said before server (take count request) received false ts × HasNoFault reading.head_only received false
Conversed request reading before server (Err (fault.Peer told)) ts =
    (received : List ℕ) × (closed : Bool) × Said before server request received closed ts × Fault reading.head_only received closed told.cause told.at

-- what was read, whatever the world tells
abbrev pub Read : ReplyReading → Result (Unit {0}) ConverseFault → Type 0
Read reading (Ok done) = IsWhole reading
Read reading (Err fault.Link) = reading.seen ≡ taking
Read reading (Err (fault.Peer told)) = reading.seen ≡ failed told.cause told.at

-- ---- for private clauses

abbrev pub of_link : LinkFault → ConverseFault
of_link link.Failed = fault.Link
of_link link.Memory = fault.Link

-- What a piece brings, of which none is the close: more is to come, or the message is whole, or a fault.
abbrev pub Hears : List ℕ → List ℕ → ReplyReading → Result Bool PeerFault → Type 0
Hears before piece new (Ok false) = (0 < length piece) × (new.bytes ≡ before ++ piece) × (new.seen ≡ taking) × IsOpenReply new.head_only new.bytes
Hears before piece new (Ok true) = IsWhole new × IsAnswer new (before ++ piece) (length piece == 0) × HasNoFault new.head_only (before ++ piece) (length piece == 0)
Hears before piece new (Err told) = (new.seen ≡ failed told.cause told.at) × Fault new.head_only (before ++ piece) (length piece == 0) told.cause told.at

-- this piece was received
abbrev pub Received : List ℕ → WorldView → WorldView → Type 0
Received piece w v = IsTrue w.tells → talks v ≡ on_last (with_received piece (length piece == 0)) (talks w)

-- what one call of the link brings
abbrev pub Brings : ReplyReading → ReplyReading → WorldView → WorldView → Result Bool ConverseFault → Type 0
Brings old new w v (Ok done) = (piece : List ℕ) × Hears old.bytes piece new (Ok done) × Received piece w v
Brings old new w v (Err fault.Link) = (new ≡ old) × (IsTrue w.tells → talks v ≡ talks w)
Brings old new w v (Err (fault.Peer told)) = (piece : List ℕ) × Hears old.bytes piece new (Err told) × Received piece w v

-- some bytes were received on the last talk
abbrev pub Heard : List Talk → List Talk → Type 0
Heard old ts = (before : List Talk) (server : Server) (sent : List ℕ) → Said before server sent [] false old → (received : List ℕ) × (closed : Bool) × Said before server sent received closed ts

-- and what they are at the end
abbrev pub Answered : ReplyReading → List Talk → Server → List ℕ → Result (Unit {0}) ConverseFault → List Talk → Type 0
Answered reading before server sent (Ok done) ts =
    (received : List ℕ) × (closed : Bool) × Said before server sent received closed ts × IsAnswer reading received closed × HasNoFault reading.head_only received closed
Answered reading before server sent (Err fault.Link) ts =
    (received : List ℕ) × Said before server sent received false ts × HasNoFault reading.head_only received false
Answered reading before server sent (Err (fault.Peer told)) ts =
    (received : List ℕ) × (closed : Bool) × Said before server sent received closed ts × Fault reading.head_only received closed told.cause told.at

-- How far it has come: more of the reply is to come, and all that was received stands in the reading.
pub record SoFar (first now : WorldView) (reading : ReplyReading) : Type 0 where
  pub seen : reading.seen ≡ taking
  pub more : IsOpenReply reading.head_only reading.bytes
  pub run : LinkRun first now
  pub calls : now.moment ≤ first.moment + length reading.bytes
  pub said : IsTrue first.tells → (before : List Talk) (server : Server) (sent : List ℕ) → Said before server sent [] false (talks first)
      → Said before server sent reading.bytes false (talks now)
  pub each : EachMoment first now (λ image ts. IsImage first image × Heard (talks first) ts)
