-- What the calls of a world in memory come to, at each moment.
use Rattle.std.specs.Prelude.{◌≡◌, ◌+◌, ◌≤◌, min, ℕ, true, List, [], ◌∷◌, ◌++◌, length, take, drop, replicate}
use Rattle.std.proofs.Common.{refl, sym, ap, subst, ◌∙◌, arith, append_assoc, length-append, length-drop}
use Rattle.std.proofs.lemmas.List.{take_all, take_at, drop_at, length-take-le}
use Rattle.arz_world.specs.World.{WorldView, IsTorn, IsWorld, written, on_last, with_sent, with_received, fresh}
use Rattle.arz_world.specs.declared.world.Talk.{Talk}
use Rattle.arz_world.specs.declared.tape.Span.{Span}
use Rattle.arz_world.specs.declared.tape.Call.{Call}
use Rattle.arz_world.specs.declared.tape.Call.TheVariants.{Attached, Wrote, Synced, Connected, Sent, Received}
use Rattle.arz_world.specs.declared.tape.Torn.{Torn}
use Rattle.arz_world.specs.declared.tape.Torn.TheVariants.{Old, New, Fill}

-- the file at the beginning, and the calls that changed something, in order
pub record Record : Type 0 where
  pub first : List ℕ
  pub calls : List Call

-- what the last sync made sure of, the places and lengths of the writes since, what a read gives, the talks,
-- and the path that was attached last
pub record State : Type 0 where
  pub durable : List ℕ
  pub unsynced : List Span
  pub file : List ℕ
  pub talks : List Talk
  pub attached : List ℕ

abbrev pub start : List ℕ → State
start first = record { durable = first; unsynced = []; file = first; talks = []; attached = [] }

-- bytes are written at a place of the file
abbrev pub write_in : State → ℕ → List ℕ → State
write_in s at bytes = record s { unsynced = s.unsynced ++ record { at = at; count = length bytes } ∷ []; file = written at bytes s.file }

-- one call. No write is past the end: one that is would be at the end
abbrev pub step : State → Call → State
step s (Attached path) = record s { attached = path }
step s (Wrote at bytes) = write_in s (min at (length s.file)) bytes
step s Synced = record s { durable = s.file; unsynced = [] }
step s (Connected server) = record s { talks = s.talks ++ fresh server ∷ [] }
step s (Sent bytes) = record s { talks = on_last (with_sent bytes) s.talks }
step s (Received bytes closes) = record s { talks = on_last (with_received bytes closes) s.talks }

abbrev pub replay : State → List Call → State
replay s [] = s
replay s (call ∷ calls) = replay (step s call) calls

-- one call more
abbrev pub noted : Record → Call → Record
noted r call = record { first = r.first; calls = r.calls ++ call ∷ [] }

-- where the world stands
abbrev pub state : Record → State
state r = replay (start r.first) r.calls

-- one torn write after another
abbrev pub AreTorn : List Span → List ℕ → List ℕ → Type 0
AreTorn [] old new = new ≡ old
AreTorn (span ∷ later) old new = (mid : List ℕ) × IsTorn span.at span.count old mid × AreTorn later mid new

abbrev pub IsImageOf : State → List ℕ → Type 0
IsImageOf s image = AreTorn s.unsynced s.durable image

-- what the record tells of each moment, where a moment is a number of its calls
abbrev pub told_by : Record → ℕ → ℕ → WorldView
told_by r disk_faults link_faults = record {
  tells = true;
  attached = (state r).attached;
  file = (state r).file;
  moment = length r.calls;
  image_at = λ t image. (t ≤ length r.calls) × IsImageOf (replay (start r.first) (take t r.calls)) image;
  talks_at = λ t. (replay (start r.first) (take t r.calls)).talks;
  disk_faults = disk_faults;
  link_faults = link_faults;
}

-- these ranges are filled with one byte
abbrev pub filled : ℕ → List Span → List ℕ → List ℕ
filled byte [] file = file
filled byte (span ∷ later) file = filled byte later (written span.at (replicate span.count byte) file)

-- the image that a crash leaves, as it is asked for: the ranges that were not synced are old, new or filled
abbrev pub crashed : Torn → State → List ℕ
crashed Old s = s.durable
crashed New s = s.file
crashed (Fill byte) s = filled byte s.unsynced s.durable

-- a write that is done whole is one of those that a crash may make of it
pub whole_torn : (at : ℕ) (old bytes : List ℕ) → at ≤ length old → IsTorn at (length bytes) old (written at bytes old)
whole_torn at old bytes within =
    let front : length (take at old) ≡ at = length-take-le at old within in
    let long : length (take at old ++ bytes) ≡ at + length bytes = omega (arith, length-append (take at old) bytes, front) in
    let all = length-append (take at old ++ bytes) (drop (at + length bytes) old) in
    let rest = length-drop (at + length bytes) old in
    record {
      before = ap (λ (l : List ℕ). take at l) (append_assoc (take at old) bytes (drop (at + length bytes) old)) ∙ take_at (take at old) (bytes ++ drop (at + length bytes) old) at front;
      after = drop_at (take at old ++ bytes) (drop (at + length bytes) old) (at + length bytes) long;
      no_shorter = omega (arith, long, all, rest);
      no_longer = omega (arith, long, all, rest);
    }

-- one more write is torn
pub torn_push : (spans : List Span) (span : Span) (old mid new : List ℕ) → AreTorn spans old mid → IsTorn span.at span.count mid new → AreTorn (spans ++ span ∷ []) old new
torn_push [] span old mid new none last = (new, subst (λ (f : List ℕ). IsTorn span.at span.count f new) none last, refl)
torn_push (s ∷ spans) span old mid new torn last = (torn.0, torn.1, torn_push spans span torn.0 mid new torn.2 last)

step_image : (s : State) (call : Call) → IsImageOf s s.file → IsImageOf (step s call) (step s call).file
step_image s (Attached path) image = image
step_image s (Wrote at bytes) image = torn_push s.unsynced _ s.durable s.file _ image (whole_torn (min at (length s.file)) s.file bytes (omega arith))
step_image s Synced image = refl
step_image s (Connected server) image = image
step_image s (Sent bytes) image = image
step_image s (Received bytes closes) image = image

pub replay_image : (s : State) (calls : List Call) → IsImageOf s s.file → IsImageOf (replay s calls) (replay s calls).file
replay_image s [] image = image
replay_image s (call ∷ calls) image = replay_image (step s call) calls (step_image s call image)

-- the laws of a world hold of each record
pub told_lawful : (r : Record) (disk_faults link_faults : ℕ) → IsWorld (told_by r disk_faults link_faults)
told_lawful r disk_faults link_faults = record {
  reads_image = λ told. (omega arith, subst (λ (l : List Call). IsImageOf (replay (start r.first) l) (state r).file) (sym (take_all (length r.calls) r.calls (omega arith))) (replay_image (start r.first) r.calls refl));
  untold = λ t i left. refl;
}
