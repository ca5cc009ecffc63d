-- A slot: a request as it is sent, and the reading of its reply.
use Rattle.std.specs.Prelude.{◌≡◌, ℕ, Bool, true, IsTrue, List, [], codes}
use Rattle.std.specs.Str.{bytes_eq}
use Rattle.arz_world.specs.Outside.{IsPrefix}
use Rattle.arz_world.specs.declared.messages.Request.{Request}
use Rattle.arz_world.specs.declared.messages.Reply.{Reply}
use Rattle.arz_http.specs.Messages.{Message}
use Rattle.arz_http.specs.Readings.{ReplyReading, taking, whole, is_closed}
use Rattle.arz_world.specs.Requests.{request_bytes}

pub record SlotView : Type 0 where
  -- the bytes to send
  pub request : List ℕ
  -- the reply, as far as it has come
  pub reading : ReplyReading

-- the reply to a HEAD request has no body (RFC 9110, 9.3.2)
abbrev pub is_head_method : List ℕ → Bool
is_head_method method = bytes_eq method (codes "HEAD")

-- a reply of which nothing has come
abbrev pub unread : Bool → ReplyReading
unread head_only = record { head_only = head_only; bytes = []; seen = taking }

-- a slot for this request
abbrev pub slot_of : Request → SlotView
slot_of q = record { request = request_bytes q; reading = unread (is_head_method q.method) }

-- nothing of the reply has come
pub record IsUnread (reading : ReplyReading) : Type 0 where
  pub bytes : reading.bytes ≡ []
  pub seen : reading.seen ≡ taking

-- all of the reply has come: its bytes are a message
pub record IsWhole (reading : ReplyReading) : Type 0 where
  pub reply : Reply
  pub message : Message reading.head_only (is_closed reading.seen) reading.bytes reply
  pub seen : reading.seen ≡ whole (is_closed reading.seen)

-- The received bytes begin with the message that was read. Where the close ended it they are this message
-- whole, and the close was received.
pub record IsAnswer (reading : ReplyReading) (received : List ℕ) (closed : Bool) : Type 0 where
  pub begins : IsPrefix reading.bytes received
  pub ended : IsTrue (is_closed reading.seen) → (received ≡ reading.bytes) × (closed ≡ true)
