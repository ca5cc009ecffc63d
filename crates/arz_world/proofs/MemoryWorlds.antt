-- What the world in memory tells after a call.
use Rattle.std.proofs.Common.{◌≡◌, inl, inr, ℕ, ◌≤◌, ◌<◌, ◌^◌, ◌==◌, ◌&&◌, not, Bool, List, [], ◌∷◌, ◌++◌, length, take, drop, Result, Ok, Err, IfOk, OnOk, IsTrue, true, refl, sym, ◌∙◌, ap, subst, arith}
use Rattle.arz_world.specs.Memory.{next}
use Rattle.arz_world.specs.World.{WorldView, talks, NoNewImage, IsStable, IsRead, DiskCall, LinkCall, AttachedBy, AreTornBy, written, Connects, Sends, Receives, fresh, on_last, with_sent, with_received}
use Rattle.arz_world.specs.Replay.{told_by, state, step, IsImageOf}
use Rattle.arz_world.specs.MemoryWorld.{WorldInMemory, called, disk_failed, disk_refused, link_failed, link_refused, notes, connects, receives, DiskDoes, LinkDoes}
use Rattle.arz_world.specs.declared.world.DiskFault.{DiskFault}
use Rattle.arz_world.specs.declared.world.DiskFault.TheVariants as disk
use Rattle.arz_world.specs.declared.world.LinkFault.{LinkFault}
use Rattle.arz_world.specs.declared.world.LinkFault.TheVariants as link
use Rattle.arz_world.specs.declared.messages.Server.{Server}
use Rattle.arz_world.specs.declared.world.Talk.{Talk}
use Rattle.arz_world.specs.declared.tape.Call.{Call}
use Rattle.arz_world.specs.declared.tape.Call.TheVariants.{Attached, Wrote, Synced, Connected, Sent, Received}
use Rattle.arz_world.proofs.Replayed.{none_elapses, disk_call, link_call, no_new_image, file_now, attached_now, talks_by, sync_images, sync_stable, write_file, write_images, torn_none}
use Rattle.std.proofs.lemmas.List.{append-nil, drop_at}

abbrev pub shown : WorldInMemory → WorldView
shown w = told_by w.tape w.disk_faults w.link_faults

next_is : (n : ℕ) → n < 2 ^ 64 → n ≤ next n
next_is n range = omega (arith, range)

module _ (w : WorldInMemory) (fails : Bool) (range : w.disk_faults < 2 ^ 64) where
  -- what holds of each outcome holds
  pub disk_cases : {T : Type 0} (done : T → WorldInMemory) (P : WorldInMemory → Type 0) (r : Result T DiskFault) (new : WorldInMemory) → DiskDoes w fails done r new
      → ((v : T) → P (done v)) → P (disk_failed (called w)) → P (disk_refused (called w)) → P (called w) → P new
  disk_cases done P (Ok v) new does on_done on_failed on_refused on_memory = subst P (sym does.1) (on_done v)
  disk_cases done P (Err disk.Failed) new (inl due) on_done on_failed on_refused on_memory = subst P (sym due.1) on_failed
  disk_cases done P (Err disk.Failed) new (inr more) on_done on_failed on_refused on_memory = subst P (sym more.1) on_refused
  disk_cases done P (Err disk.Memory) new does on_done on_failed on_refused on_memory = subst P (sym does.1) on_memory

  none_disk : (faults : ℕ) → w.disk_faults ≤ faults → DiskCall (shown w) (told_by w.tape faults w.link_faults)
  none_disk faults up = record { time = none_elapses w.tape w.disk_faults w.link_faults faults w.link_faults up (omega arith); talks = refl; link_faults = refl }

  pub disk_call_is : {T : Type 0} (done : T → WorldInMemory) (r : Result T DiskFault) (new : WorldInMemory) → DiskDoes w fails done r new
      → ((v : T) → DiskCall (shown w) (shown (done v))) → DiskCall (shown w) (shown new)
  disk_call_is done r new does is =
      let up = next_is w.disk_faults range in
      disk_cases done (λ u. DiskCall (shown w) (shown u)) r new does is (none_disk _ up) (none_disk _ up) (none_disk _ (omega arith))

  pub disk_images : {T : Type 0} (done : T → WorldInMemory) (r : Result T DiskFault) (new : WorldInMemory) → DiskDoes w fails done r new
      → ((v : T) → NoNewImage (shown w) (shown (done v))) → NoNewImage (shown w) (shown new)
  disk_images done r new does is =
      disk_cases done (λ u. NoNewImage (shown w) (shown u)) r new does is (λ i left. left) (λ i left. left) (λ i left. left)

  pub disk_file : {T : Type 0} (done : T → WorldInMemory) (r : Result T DiskFault) (new : WorldInMemory) → DiskDoes w fails done r new
      → ((v : T) → (shown (done v)).file ≡ (shown w).file) → (shown new).file ≡ (shown w).file
  disk_file done r new does is = disk_cases done (λ u. (shown u).file ≡ (shown w).file) r new does is refl refl refl

  pub disk_path : {T : Type 0} (done : T → WorldInMemory) (r : Result T DiskFault) (new : WorldInMemory) → DiskDoes w fails done r new
      → ((v : T) → (shown (done v)).attached ≡ (shown w).attached) → (shown new).attached ≡ (shown w).attached
  disk_path done r new does is = disk_cases done (λ u. (shown u).attached ≡ (shown w).attached) r new does is refl refl refl

module _ (w : WorldInMemory) (fails : Bool) (range : w.link_faults < 2 ^ 64) where
  pub link_cases : {T : Type 0} (done : T → WorldInMemory) (P : WorldInMemory → Type 0) (r : Result T LinkFault) (new : WorldInMemory) → LinkDoes w fails done r new
      → ((v : T) → P (done v)) → P (link_failed (called w)) → P (link_refused (called w)) → P (called w) → P new
  link_cases done P (Ok v) new does on_done on_failed on_refused on_memory = subst P (sym does.1) (on_done v)
  link_cases done P (Err link.Failed) new (inl due) on_done on_failed on_refused on_memory = subst P (sym due.1) on_failed
  link_cases done P (Err link.Failed) new (inr more) on_done on_failed on_refused on_memory = subst P (sym more.1) on_refused
  link_cases done P (Err link.Memory) new does on_done on_failed on_refused on_memory = subst P (sym does.1) on_memory

  none_link : (faults : ℕ) → w.link_faults ≤ faults → LinkCall (shown w) (told_by w.tape w.disk_faults faults)
  none_link faults up = record { time = none_elapses w.tape w.disk_faults w.link_faults w.disk_faults faults (omega arith) up; images = λ i left. left; file = refl; attached = refl; disk_faults = refl }

  pub link_call_is : {T : Type 0} (done : T → WorldInMemory) (r : Result T LinkFault) (new : WorldInMemory) → LinkDoes w fails done r new
      → ((v : T) → LinkCall (shown w) (shown (done v))) → LinkCall (shown w) (shown new)
  link_call_is done r new does is =
      let up = next_is w.link_faults range in
      link_cases done (λ u. LinkCall (shown w) (shown u)) r new does is (none_link _ up) (none_link _ up) (none_link _ (omega arith))

  -- a fault leaves the talks
  pub talks_stay : (T : Type 0) (done : T → WorldInMemory) (fault : LinkFault) (new : WorldInMemory) → LinkDoes {T = T} w fails done (Err fault) new → talks (shown new) ≡ talks (shown w)
  talks_stay T done link.Failed new (inl due) = ap (λ (u : WorldInMemory). talks (shown u)) due.1
  talks_stay T done link.Failed new (inr more) = ap (λ (u : WorldInMemory). talks (shown u)) more.1
  talks_stay T done link.Memory new does = ap (λ (u : WorldInMemory). talks (shown u)) does.1

same : (n : ℕ) → n ≤ n
same n = omega arith

-- a call that is kept in the record
module _ (w : WorldInMemory) (call : Call) where
  pub notes_disk : (step (state w.tape) call).talks ≡ (state w.tape).talks → DiskCall (shown w) (shown (notes w call))
  notes_disk talks_stay = disk_call w.tape w.disk_faults w.link_faults w.disk_faults w.link_faults (same _) (same _) call talks_stay refl

  pub notes_images : ((i : List ℕ) → IsImageOf (step (state w.tape) call) i → IsImageOf (state w.tape) i) → NoNewImage (shown w) (shown (notes w call))
  notes_images fewer = no_new_image w.tape w.disk_faults w.link_faults w.disk_faults w.link_faults (same _) (same _) call fewer

  pub notes_file : (shown (notes w call)).file ≡ (step (state w.tape) call).file
  notes_file = file_now w.tape w.disk_faults w.link_faults w.disk_faults w.link_faults (same _) (same _) call

  pub notes_path : (shown (notes w call)).attached ≡ (step (state w.tape) call).attached
  notes_path = attached_now w.tape w.disk_faults w.link_faults w.disk_faults w.link_faults (same _) (same _) call

  pub notes_talks : (f : List Talk → List Talk) → (step (state w.tape) call).talks ≡ f (state w.tape).talks → talks (shown (notes w call)) ≡ f (talks (shown w))
  notes_talks f is = talks_by w.tape w.disk_faults w.link_faults w.disk_faults w.link_faults (same _) (same _) call f is

  pub notes_link : ((i : List ℕ) → IsImageOf (step (state w.tape) call) i → IsImageOf (state w.tape) i) → (step (state w.tape) call).file ≡ (state w.tape).file → (step (state w.tape) call).attached ≡ (state w.tape).attached → LinkCall (shown w) (shown (notes w call))
  notes_link fewer file path = link_call w.tape w.disk_faults w.link_faults w.disk_faults w.link_faults (same _) (same _) call fewer file path refl

pub attach_path : (w : WorldInMemory) (fails : Bool) (path : List ℕ) (r : Result (Unit {0}) DiskFault) (new : WorldInMemory) → DiskDoes w fails (λ _. notes w (Attached path)) r new → AttachedBy path r (shown w) (shown new)
attach_path w fails path (Ok v) new does = ap (λ (u : WorldInMemory). (shown u).attached) does.1 ∙ notes_path w (Attached path)
attach_path w fails path (Err disk.Failed) new (inl due) = ap (λ (u : WorldInMemory). (shown u).attached) due.1
attach_path w fails path (Err disk.Failed) new (inr more) = ap (λ (u : WorldInMemory). (shown u).attached) more.1
attach_path w fails path (Err disk.Memory) new does = ap (λ (u : WorldInMemory). (shown u).attached) does.1

pub synced_stable : (w : WorldInMemory) (fails : Bool) (r : Result (Unit {0}) DiskFault) (new : WorldInMemory) → DiskDoes w fails (λ _. notes w Synced) r new → OnOk r (IsStable (shown new))
synced_stable w fails (Ok v) new does = subst (λ (u : WorldInMemory). IsStable (shown u)) (sym does.1) (sync_stable w.tape w.disk_faults w.link_faults w.disk_faults w.link_faults (same _) (same _))
synced_stable w fails (Err fault) new does = tt

pub synced_images : (w : WorldInMemory) → NoNewImage (shown w) (shown (notes w Synced))
synced_images w = sync_images w.tape w.disk_faults w.link_faults w.disk_faults w.link_faults (same _) (same _)

module _ (w : WorldInMemory) (fails : Bool) (at : ℕ) (bytes : List ℕ) (within : at ≤ length (state w.tape).file) (r : Result (Unit {0}) DiskFault) (new : WorldInMemory) (does : DiskDoes w fails (λ _. notes w (Wrote at bytes)) r new) (range : w.disk_faults < 2 ^ 64) where
  written_at : (s : Result (Unit {0}) DiskFault) → DiskDoes w fails (λ _. notes w (Wrote at bytes)) s new → OnOk s (IsTrue true → (shown new).file ≡ written at bytes (shown w).file)
  written_at (Ok v) did = λ told. ap (λ (u : WorldInMemory). (shown u).file) did.1 ∙ write_file w.tape w.disk_faults w.link_faults w.disk_faults w.link_faults (same _) (same _) at bytes within
  written_at (Err fault) did = tt

  pub wrote_file : OnOk r (IsTrue true → (shown new).file ≡ written at bytes (shown w).file)
  wrote_file = written_at r does

  nothing_torn : AreTornBy at (length bytes) (shown w) (shown w)
  nothing_torn i left = (i, left, torn_none at (length bytes) i)

  pub wrote_images : AreTornBy at (length bytes) (shown w) (shown new)
  wrote_images = disk_cases w fails range (λ _. notes w (Wrote at bytes)) (λ u. AreTornBy at (length bytes) (shown w) (shown u)) r new does
      (λ v. write_images w.tape w.disk_faults w.link_faults w.disk_faults w.link_faults (same _) (same _) at bytes within)
      nothing_torn nothing_torn nothing_torn

pub connected : (w : WorldInMemory) (fails : Bool) (server : Server) (r : Result (Unit {0}) LinkFault) (new : WorldInMemory) → LinkDoes w fails (λ _. connects w server) r new → w.link_faults < 2 ^ 64
    → Connects server r (talks (shown w)) (talks (shown new))
connected w fails server (Ok v) new does range = ap (λ (u : WorldInMemory). talks (shown u)) does.1 ∙ notes_talks w (Connected server) (λ ts. ts ++ fresh server ∷ []) refl
connected w fails server (Err fault) new does range = talks_stay w fails range (Unit {0}) (λ _. connects w server) fault new does

on_last_id : (f : Talk → Talk) → ((t : Talk) → f t ≡ t) → (ts : List Talk) → on_last f ts ≡ ts
on_last_id f same [] = refl
on_last_id f same (t ∷ []) = ap (λ (u : Talk). u ∷ []) (same t)
on_last_id f same (t ∷ u ∷ ts) = ap (λ (l : List Talk). t ∷ l) (on_last_id f same (u ∷ ts))

-- nothing is sent
sent_none : (bytes : List ℕ) (ts : List Talk) → ts ≡ on_last (with_sent (take 0 bytes)) ts
sent_none bytes ts = sym (on_last_id (with_sent (take 0 bytes)) (λ t i. record { server = t.server; sent = append-nil t.sent i; received = t.received; closed = t.closed }) ts)

pub sent : (w : WorldInMemory) (fails : Bool) (bytes : List ℕ) (r : Result (Unit {0}) LinkFault) (new : WorldInMemory) → LinkDoes w fails (λ _. notes w (Sent bytes)) r new → w.link_faults < 2 ^ 64
    → Sends bytes r (talks (shown w)) (talks (shown new))
sent w fails bytes (Ok v) new does range = ap (λ (u : WorldInMemory). talks (shown u)) does.1 ∙ notes_talks w (Sent bytes) (λ ts. on_last (with_sent bytes) ts) refl
sent w fails bytes (Err fault) new does range = (0, talks_stay w fails range (Unit {0}) (λ _. notes w (Sent bytes)) fault new does ∙ sent_none bytes (talks (shown w)))

-- what was read to the front of a room leaves the rest of it
rest_stays : (file room filled : List ℕ) (at n : ℕ) → IsRead file at room filled n → drop n filled ≡ drop n room
rest_stays file room filled at n reads = ap (λ (l : List ℕ). drop n l) reads.bytes ∙ drop_at (take (length room) (drop at file)) (drop n room) n (sym reads.count)

pub received : (w : WorldInMemory) (fails : Bool) (file room filled : List ℕ) (r : Result ℕ LinkFault) (new : WorldInMemory)
    → LinkDoes w fails (λ count. receives w (take count filled) (count == 0 && not (length room == 0))) r new → IfOk r (λ count. IsRead file 0 room filled count) → w.link_faults < 2 ^ 64
    → Receives room filled r (talks (shown w)) (talks (shown new))
received w fails file room filled (Ok n) new does reads range = (
  rest_stays file room filled 0 n reads,
  ap (λ (u : WorldInMemory). talks (shown u)) does.1 ∙ notes_talks w (Received (take n filled) (n == 0 && not (length room == 0))) (λ ts. on_last (with_received (take n filled) (n == 0 && not (length room == 0))) ts) refl,
)
received w fails file room filled (Err fault) new does reads range = talks_stay w fails range ℕ (λ count. receives w (take count filled) (count == 0 && not (length room == 0))) fault new does
