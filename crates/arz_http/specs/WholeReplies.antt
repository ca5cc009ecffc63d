-- What bytes with the close after them are: a reply, a fault, or neither.
use Rattle.std.specs.Prelude.{◌≡◌, ℕ, Bool, true, List, [], map, ⊤, Result, Ok, Err}
use Rattle.httparse.specs.declared.spans.HeaderSpan.{HeaderSpan}
use Rattle.httparse.specs.Spans.{header_bytes}
use Rattle.arz_world.specs.declared.Header.{Header}
use Rattle.arz_world.specs.declared.Reply.{Reply}
use Rattle.arz_http.specs.declared.fault.PeerCause.{PeerCause}
use Rattle.arz_http.specs.declared.fault.ReplyFault.{ReplyFault}
use Rattle.arz_http.specs.declared.fault.ReplyFault.TheVariants.{Peer, NotWhole, Memory}
use Rattle.arz_http.specs.declared.frames.Frame.{Frame}
use Rattle.arz_http.specs.declared.frames.Frame.TheVariants as frame
use Rattle.arz_http.specs.Chunked.{Chunked, ReadsChunked, body_of}
use Rattle.arz_http.specs.Messages.{lower, Message, Fault}

-- no fault is there, and the bytes aren't one whole message that ends so
pub record IsNotWhole (head_only closed : Bool) (bytes : List ℕ) : Type 0 where
  pub no_fault : (cause : PeerCause) (at : ℕ) → ¬ (Fault head_only bytes true cause at)
  pub no_message : (reply : Reply) → ¬ (Message head_only closed bytes reply)

-- the reply of one whole message, a fault of the bytes with the close after them, or neither
abbrev pub IsReplyOf : Bool → Bool → List ℕ → Result Reply ReplyFault → Type 0
IsReplyOf head_only closed bytes (Ok reply) = Message head_only closed bytes reply
IsReplyOf head_only closed bytes (Err (Peer fault)) = Fault head_only bytes true fault.cause fault.at
IsReplyOf head_only closed bytes (Err NotWhole) = IsNotWhole head_only closed bytes
IsReplyOf head_only closed bytes (Err Memory) = ⊤

-- ---- for private clauses

-- the same, without the reply itself
abbrev pub IsJudged : Bool → Bool → List ℕ → Result (Unit {0}) ReplyFault → Type 0
IsJudged head_only closed bytes (Ok done) = (reply : Reply) × Message head_only closed bytes reply
IsJudged head_only closed bytes (Err (Peer fault)) = Fault head_only bytes true fault.cause fault.at
IsJudged head_only closed bytes (Err NotWhole) = IsNotWhole head_only closed bytes
IsJudged head_only closed bytes (Err Memory) = ⊥

-- the header line of a name and a value
abbrev pub header_of_pair : List ℕ × List ℕ → Header
header_of_pair p = record { name = lower p.0; value = p.1 }

abbrev pub headers_at : List ℕ → List HeaderSpan → List Header
headers_at bytes lines = map (λ l. header_of_pair (header_bytes bytes l)) lines

-- the body of a section in this frame
abbrev pub IsBodyOf : Frame → List ℕ → List ℕ → Type 0
IsBodyOf frame.Nothing section body = body ≡ []
IsBodyOf frame.Chunks section body = (s : Chunked) → ReadsChunked section s [] → body ≡ body_of s
IsBodyOf frame.ToClose section body = body ≡ section
IsBodyOf (frame.Counted n) section body = body ≡ section
IsBodyOf frame.TooLong section body = ⊤
IsBodyOf frame.Bad section body = ⊤
