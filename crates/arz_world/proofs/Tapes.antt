-- What the tape keeps stays right after one call more.
use Rattle.std.proofs.Common.{◌≡◌, ℕ, ◌≤◌, min, Bool, List, [], ◌∷◌, ◌++◌, length, sym, ◌∙◌, ap, arith}
use Rattle.arz_world.specs.World.{written, on_last, with_sent, with_received, fresh}
use Rattle.arz_world.specs.Replay.{Record, start, step, replay, state}
use Rattle.arz_world.specs.declared.messages.Server.{Server}
use Rattle.arz_world.specs.declared.world.Talk.{Talk}
use Rattle.arz_world.specs.declared.tape.Call.{Call}
use Rattle.arz_world.specs.declared.tape.Call.TheVariants.{Wrote, Connected, Sent, Received}
use Rattle.arz_world.proofs.Replayed.{replay_push}

-- the file and the talks are those of the calls
abbrev pub IsKept : List ℕ → List Call → List ℕ → List Talk → Type 0
IsKept first calls file ts = (file ≡ (replay (start first) calls).file) × (ts ≡ (replay (start first) calls).talks)

module _ (first : List ℕ) (calls after : List Call) (file : List ℕ) (ts : List Talk) (was : IsKept first calls file ts) where
  pub kept_after : (call : Call) → after ≡ calls ++ call ∷ [] → (next : List ℕ) (us : List Talk) → next ≡ (step (replay (start first) calls) call).file → us ≡ (step (replay (start first) calls) call).talks → IsKept first after next us
  kept_after call called next us file_is talks_are =
      let now : replay (start first) after ≡ step (replay (start first) calls) call =
      ap (λ (l : List Call). replay (start first) l) called ∙ replay_push (start first) calls call in
      (file_is ∙ sym (ap (λ s. s.file) now), talks_are ∙ sym (ap (λ s. s.talks) now))

  pub kept_write : (r : Record) (at : ℕ) (bytes copy next : List ℕ) → r ≡ record { first = first; calls = calls } → at ≤ length (state r).file
      → copy ≡ bytes → after ≡ calls ++ Wrote at copy ∷ [] → next ≡ written at bytes file → IsKept first after next ts
  kept_write r at bytes copy next is within same called written_is =
      let place : at ≡ min at (length (replay (start first) calls).file) = omega (arith, ap (λ (q : Record). length (state q).file) is, within) in
      kept_after (Wrote at copy) called next ts
      (written_is
      ∙ ap (λ (f : List ℕ). written at bytes f) was.0
      ∙ ap (λ (b : List ℕ). written at b (replay (start first) calls).file) (sym same)
      ∙ ap (λ (n : ℕ). written n copy (replay (start first) calls).file) place)
      was.1

  pub kept_connect : (server copy : Server) (talk : Talk) (us : List Talk) → copy ≡ server → talk ≡ fresh server → after ≡ calls ++ Connected copy ∷ [] → us ≡ ts ++ talk ∷ [] → IsKept first after file us
  kept_connect server copy talk us same is called pushed =
      kept_after (Connected copy) called file us was.0
      (pushed ∙ ap (λ (t : Talk). ts ++ t ∷ []) (is ∙ ap fresh (sym same)) ∙ ap (λ (l : List Talk). l ++ fresh copy ∷ []) was.1)

  pub kept_send : (bytes copy : List ℕ) (us : List Talk) → copy ≡ bytes → after ≡ calls ++ Sent copy ∷ [] → us ≡ on_last (with_sent bytes) ts → IsKept first after file us
  kept_send bytes copy us same called changed =
      kept_after (Sent copy) called file us was.0
      (changed ∙ ap (λ (b : List ℕ). on_last (with_sent b) ts) (sym same) ∙ ap (λ (l : List Talk). on_last (with_sent copy) l) was.1)

  pub kept_receive : (bytes copy : List ℕ) (closes : Bool) (us : List Talk) → copy ≡ bytes → after ≡ calls ++ Received copy closes ∷ [] → us ≡ on_last (with_received bytes closes) ts → IsKept first after file us
  kept_receive bytes copy closes us same called changed =
      kept_after (Received copy closes) called file us was.0
      (changed ∙ ap (λ (b : List ℕ). on_last (with_received b closes) ts) (sym same) ∙ ap (λ (l : List Talk). on_last (with_received copy closes) l) was.1)
