-- A reply that comes in, call by call.
use Rattle.std.proofs.Common.{◌≡◌, ℕ, ◌+◌, ◌<◌, ◌≤◌, ◌==◌, not, ◌&&◌, Bool, true, false, List, [], ◌++◌, length, take, Ok, Err, IsTrue, refl, sym, ◌∙◌, ap, subst, arith, length-append}
use Rattle.std.proofs.lemmas.List.{length-take-le}
use Rattle.arz_world.specs.World.{WorldView, talks, IsImage, LinkCall, IsWorld, Receives, on_last, with_received}
use Rattle.arz_world.specs.Moments.{EachMoment}
use Rattle.arz_world.specs.declared.messages.Server.{Server}
use Rattle.arz_world.specs.declared.world.Talk.{Talk}
use Rattle.arz_world.specs.declared.world.LinkFault.{LinkFault}
use Rattle.arz_world.specs.declared.world.LinkFault.TheVariants as link
use Rattle.arz_world.proofs.Moments.{goes_on, still}
use Rattle.arz_http.specs.Messages.{IsOpenReply}
use Rattle.arz_http.specs.Readings.{ReplyReading}
use Rattle.arz_exchange.specs.declared.conversation.ConverseFault.{ConverseFault}
use Rattle.arz_exchange.specs.declared.conversation.ConverseFault.TheVariants as fault
use Rattle.arz_exchange.specs.Slots.{IsUnread}
use Rattle.arz_exchange.specs.Conversing.{Said, HasNoFault, Read, Hears, Received, Brings, Heard, Answered, SoFar, of_link}
use Rattle.arz_exchange.proofs.Talking.{said_received, run_none, run_on}
use Rattle.arz_exchange.proofs.Hearing.{is_some, open_no_fault, nothing_open}

-- the piece is what the call received
pub received_is : (w v : WorldView) (room filled piece : List ℕ) (count : ℕ) → 0 < length room → count ≤ length filled → piece ≡ take count filled
    → (IsTrue w.tells → Receives room filled (Ok count) (talks w) (talks v)) → Received piece w v
received_is w v room filled piece count some within is receives told =
    let long : length piece ≡ count = ap length is ∙ length-take-le count filled within in
    let closes : (count == 0 && not (length room == 0)) ≡ (length piece == 0) =
    ap (λ (b : Bool). count == 0 && not b) (is_some room some) ∙ and_true (count == 0) ∙ ap (λ (n : ℕ). n == 0) (sym long) in
    (receives told).1 ∙ ap (λ (b : Bool). on_last (with_received (take count filled) b) (talks w)) closes
    ∙ ap (λ (l : List ℕ). on_last (with_received l (length piece == 0)) (talks w)) (sym is)
  where
    and_true : (b : Bool) → (b && not false) ≡ b
    and_true true = refl
    and_true false = refl

pub brings_link : (e : LinkFault) (old new : ReplyReading) (w v : WorldView) → new ≡ old → (IsTrue w.tells → talks v ≡ talks w) → Brings old new w v (Err (of_link e))
brings_link link.Failed old new w v kept same = (kept, same)
brings_link link.Memory old new w v kept same = (kept, same)

-- nothing has come
pub so_far_none : (w : WorldView) (reading : ReplyReading) → IsUnread reading → SoFar w w reading
so_far_none w reading unread =
    let none : [] ≡ reading.bytes = sym unread.bytes in
    record {
      seen = unread.seen;
      more = subst (IsOpenReply reading.head_only) none (nothing_open reading.head_only);
      run = run_none w;
      calls = omega arith;
      said = λ told before server sent said. subst (λ (l : List ℕ). Said before server sent l false (talks w)) none said;
      each = still w _ (λ image left. (left, λ before server sent said. ([], false, said)));
    }

module _ (first w v : WorldView) (old : ReplyReading) (lawful : IsWorld v) (so_far : SoFar first w old) (call : LinkCall w v) where
  told_first : IsTrue v.tells → IsTrue first.tells
  told_first told = subst IsTrue so_far.run.time.tells (subst IsTrue call.time.later.tells told)

  told_then : IsTrue first.tells → IsTrue w.tells
  told_then told = subst IsTrue (sym so_far.run.time.tells) told

  -- a piece more was received
  module _ (piece : List ℕ) (received : Received piece w v) where
    pub said_more : IsTrue first.tells → (before : List Talk) (server : Server) (sent : List ℕ) → Said before server sent [] false (talks first)
        → Said before server sent (old.bytes ++ piece) (length piece == 0) (talks v)
    said_more told before server sent said =
        said_received before server sent old.bytes piece (length piece == 0) (talks w) (talks v) (so_far.said told before server sent said) (received (told_then told))

    pub each_more : EachMoment first v (λ image ts. IsImage first image × Heard (talks first) ts)
    each_more = goes_on first w v _ so_far.run.time so_far.each call.time (λ image left. (
      so_far.run.images image (call.images image left),
      λ before server sent said. (old.bytes ++ piece, length piece == 0, said_more (told_first (lawful.untold v.moment image left)) before server sent said),
    ))

    pub so_far_on : (new : ReplyReading) → Hears old.bytes piece new (Ok false) → SoFar first v new
    so_far_on new hears = record {
      seen = hears.2;
      more = hears.3;
      run = run_on first w v so_far.run call;
      calls = omega (arith, so_far.calls, call.time.one, ap length hears.1, length-append old.bytes piece, hears.0);
      said = λ told before server sent said.
          subst (λ (l : List ℕ). Said before server sent l false (talks v)) (sym hears.1)
          (subst (λ (b : Bool). Said before server sent (old.bytes ++ piece) b (talks v)) (is_some piece hears.0) (said_more told before server sent said));
      each = each_more;
    }

  -- nothing more was received
  pub each_same : (IsTrue w.tells → talks v ≡ talks w) → EachMoment first v (λ image ts. IsImage first image × Heard (talks first) ts)
  each_same same = goes_on first w v _ so_far.run.time so_far.each call.time (λ image left. (
    so_far.run.images image (call.images image left),
    λ before server sent said.
        let told = told_first (lawful.untold v.moment image left) in
        (old.bytes, false, subst (λ (ts : List Talk). Said before server sent old.bytes false ts) (sym (same (told_then told))) (so_far.said told before server sent said)),
  ))

  -- ---- how it ends

  pub ends_whole : (new : ReplyReading) → Brings old new w v (Ok true) → IsTrue first.tells → (before : List Talk) (server : Server) (sent : List ℕ) → Said before server sent [] false (talks first)
      → Answered new before server sent (Ok tt) (talks v)
  ends_whole new brings told before server sent said =
      (old.bytes ++ brings.0, length brings.0 == 0, said_more brings.0 brings.2 told before server sent said, brings.1.1, brings.1.2)

  pub ends_each : (new : ReplyReading) → Brings old new w v (Ok true) → EachMoment first v (λ image ts. IsImage first image × Heard (talks first) ts)
  ends_each new brings = each_more brings.0 brings.2

  pub fails : (e : ConverseFault) (new : ReplyReading) → Brings old new w v (Err e) → IsTrue first.tells → (before : List Talk) (server : Server) (sent : List ℕ) → Said before server sent [] false (talks first)
      → Answered new before server sent (Err e) (talks v)
  fails fault.Link new brings told before server sent said = (
    old.bytes,
    subst (λ (ts : List Talk). Said before server sent old.bytes false ts) (sym (brings.1 (told_then told))) (so_far.said told before server sent said),
    subst (λ (r : ReplyReading). HasNoFault r.head_only old.bytes false) (sym brings.0) (open_no_fault old.head_only old.bytes so_far.more),
  )
  fails (fault.Peer e) new brings told before server sent said =
      (old.bytes ++ brings.0, length brings.0 == 0, said_more brings.0 brings.2 told before server sent said, brings.1.1)

  pub fails_each : (e : ConverseFault) (new : ReplyReading) → Brings old new w v (Err e) → EachMoment first v (λ image ts. IsImage first image × Heard (talks first) ts)
  fails_each fault.Link new brings = each_same brings.1
  fails_each (fault.Peer e) new brings = each_more brings.0 brings.2

  pub fails_read : (e : ConverseFault) (new : ReplyReading) → Brings old new w v (Err e) → Read new (Err e)
  fails_read fault.Link new brings = ap (λ (r : ReplyReading). r.seen) brings.0 ∙ so_far.seen
  fails_read (fault.Peer e) new brings = brings.1.0

  pub calls_in : v.moment ≤ first.moment + length old.bytes + 1
  calls_in = omega (arith, so_far.calls, call.time.one)
