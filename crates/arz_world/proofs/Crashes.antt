-- What a crash leaves is an image.
use Rattle.std.proofs.Common.{◌≡◌, ℕ, ◌+◌, ◌≤◌, min, max, List, [], ◌∷◌, ◌++◌, length, take, drop, replicate, refl, sym, ◌∙◌, ◌<◌, get_or, ap, subst, arith, length-append, length-drop}
use Rattle.std.proofs.lemmas.List.{length-take-le, length-replicate, take_all, take_more}
use Rattle.arz_world.specs.World.{IsImage, IsTorn, written}
use Rattle.arz_world.specs.Replay.{Record, State, start, step, replay, state, AreTorn, IsImageOf, filled, crashed, told_by, whole_torn, torn_push, replay_image}
use Rattle.arz_world.specs.declared.tape.Span.{Span}
use Rattle.arz_world.specs.declared.tape.Call.{Call}
use Rattle.arz_world.specs.declared.tape.Call.TheVariants.{Attached, Wrote, Synced, Connected, Sent, Received}
use Rattle.arz_world.specs.declared.tape.Torn.{Torn}
use Rattle.arz_world.specs.declared.tape.Torn.TheVariants.{Old, New, Fill}
use Rattle.arz_world.proofs.Replayed.{torn_none, replay_push}

nothing_done : (spans : List Span) (file : List ℕ) → AreTorn spans file file
nothing_done [] file = refl
nothing_done (span ∷ spans) file = (file, torn_none span.at span.count file, nothing_done spans file)

length-written : (at : ℕ) (bytes file : List ℕ) → at ≤ length file → length (written at bytes file) ≡ max (length file) (at + length bytes)
length-written at bytes file within =
    let front : length (take at file) ≡ at = length-take-le at file within in
    let is : length (take at file ++ bytes ++ drop (at + length bytes) file) ≡ max (length file) (at + length bytes) =
    omega (arith, within, front, length-append (take at file ++ bytes) (drop (at + length bytes) file), length-append (take at file) bytes, length-drop (at + length bytes) file) in
    is

filled_push : (byte : ℕ) (spans : List Span) (span : Span) (file : List ℕ) → filled byte (spans ++ span ∷ []) file ≡ written span.at (replicate span.count byte) (filled byte spans file)
filled_push byte [] span file = refl
filled_push byte (s ∷ spans) span file = filled_push byte spans span (written s.at (replicate s.count byte) file)

-- filling is one of those that a crash may do, and makes the file as long as it reads
record IsFillable (byte : ℕ) (s : State) : Type 0 where
  image : AreTorn s.unsynced s.durable (filled byte s.unsynced s.durable)
  long : length (filled byte s.unsynced s.durable) ≡ length s.file

module _ (byte : ℕ) where
  fill_write : (s : State) (at : ℕ) (bytes : List ℕ) → IsFillable byte s → at ≤ length s.file → IsFillable byte (record s { unsynced = s.unsynced ++ record { at = at; count = length bytes } ∷ []; file = written at bytes s.file })
  fill_write s at bytes was within =
      let span : Span = record { at = at; count = length bytes } in
      let mid = filled byte s.unsynced s.durable in
      let room : at ≤ length mid = omega (arith, was.long, within) in
      let pushed = filled_push byte s.unsynced span s.durable in
      let whole = subst (λ (n : ℕ). IsTorn at n mid (written at (replicate (length bytes) byte) mid)) (length-replicate (length bytes) byte) (whole_torn at mid (replicate (length bytes) byte) room) in
      record {
        image = subst (λ (f : List ℕ). AreTorn (s.unsynced ++ span ∷ []) s.durable f) (sym pushed) (torn_push s.unsynced span s.durable mid _ was.image whole);
        long = omega (arith, ap length pushed, length-written at (replicate (length bytes) byte) mid room, length-written at bytes s.file within, length-replicate (length bytes) byte, was.long);
      }

  fill_step : (s : State) (call : Call) → IsFillable byte s → IsFillable byte (step s call)
  fill_step s (Attached path) was = record { image = was.image; long = was.long }
  fill_step s (Wrote at bytes) was = fill_write s (min at (length s.file)) bytes was (omega arith)
  fill_step s Synced was = record { image = refl; long = refl }
  fill_step s (Connected server) was = record { image = was.image; long = was.long }
  fill_step s (Sent bytes) was = record { image = was.image; long = was.long }
  fill_step s (Received bytes closes) was = record { image = was.image; long = was.long }

  fill_replay : (s : State) (calls : List Call) → IsFillable byte s → IsFillable byte (replay s calls)
  fill_replay s [] was = was
  fill_replay s (call ∷ calls) was = fill_replay (step s call) calls (fill_step s call was)

crash_image : (r : Record) (torn : Torn) → IsImageOf (state r) (crashed torn (state r))
crash_image r Old = nothing_done (state r).unsynced (state r).durable
crash_image r New = replay_image (start r.first) r.calls refl
crash_image r (Fill byte) = (fill_replay byte (start r.first) r.calls (record { image = refl; long = refl })).image

pub crash_is_image : (r : Record) (disk link : ℕ) (torn : Torn) (image : List ℕ) → image ≡ crashed torn (state r) → IsImage (told_by r disk link) image
crash_is_image r disk link torn image is = (
  omega arith,
  subst (λ (l : List Call). IsImageOf (replay (start r.first) l) image) (sym (take_all (length r.calls) r.calls (omega arith)))
      (subst (λ (f : List ℕ). IsImageOf (state r) f) (sym is) (crash_image r torn)),
)

-- one call more is replayed
pub replay_more : (s : State) (calls : List Call) (index : ℕ) (call : Call) → index < length calls → call ≡ get_or calls index call → step (replay s (take index calls)) call ≡ replay s (take (index + 1) calls)
replay_more s calls index call within is =
    ap (λ (c : Call). step (replay s (take index calls)) c) is
    ∙ sym (ap (λ (l : List Call). replay s l) (take_more calls index call within) ∙ replay_push s (take index calls) (get_or calls index call))
