-- One call more in the record of a world in memory.
use Rattle.std.proofs.Common.{◌≡◌, ℕ, ◌+◌, ◌≤◌, min, List, [], ◌∷◌, ◌++◌, length, take, refl, sym, ◌∙◌, ap, subst, arith, length-append}
use Rattle.std.proofs.lemmas.List.{take_all, take-append-le}
use Rattle.arz_world.specs.World.{WorldView, talks, IsImage, NoNewImage, IsStable, Elapses, DiskCall, LinkCall, IsTorn, AreTornBy, written}
use Rattle.arz_world.specs.Replay.{Record, State, start, step, replay, state, noted, IsImageOf, AreTorn, replay_image, told_by}
use Rattle.arz_world.specs.declared.world.Talk.{Talk}
use Rattle.arz_world.specs.declared.tape.Span.{Span}
use Rattle.arz_world.specs.declared.tape.Call.{Call}
use Rattle.arz_world.specs.declared.tape.Call.TheVariants.{Wrote, Synced}

pub replay_push : (s : State) (calls : List Call) (call : Call) → replay s (calls ++ call ∷ []) ≡ step (replay s calls) call
replay_push s [] call = refl
replay_push s (c ∷ calls) call = replay_push (step s c) calls call

pub state_noted : (r : Record) (call : Call) → state (noted r call) ≡ step (state r) call
state_noted r call = replay_push (start r.first) r.calls call

-- the last write is taken off
pub torn_pop : (spans : List Span) (span : Span) (old new : List ℕ) → AreTorn (spans ++ span ∷ []) old new → (mid : List ℕ) × AreTorn spans old mid × IsTorn span.at span.count mid new
torn_pop [] span old new torn = (old, refl, subst (λ (f : List ℕ). IsTorn span.at span.count old f) (sym torn.2) torn.1)
torn_pop (s ∷ spans) span old new torn =
    let rest = torn_pop spans span torn.0 new torn.2 in
    (rest.0, (torn.0, torn.1, rest.1), rest.2)

module _ (r : Record) (disk link disk' link' : ℕ) (disk_up : disk ≤ disk') (link_up : link ≤ link') where
  abbrev old : WorldView
  old = told_by r disk link

  old_now : replay (start r.first) (take (length r.calls) r.calls) ≡ state r
  old_now = ap (λ (l : List Call). replay (start r.first) l) (take_all (length r.calls) r.calls (omega arith))

  -- a call that changes nothing
  pub none_elapses : Elapses old (told_by r disk' link')
  none_elapses = record {
    later = record {
      tells = refl;
      moment = omega arith;
      disk_faults = disk_up;
      link_faults = link_up;
      images = λ t i le left. left;
      keeps = λ t i le left. left;
      talks = λ t le. refl;
    };
    one = omega arith;
  }

  module _ (call : Call) where
    abbrev was : State
    was = state r

    abbrev new : WorldView
    new = told_by (noted r call) disk' link'

    longer : length (r.calls ++ call ∷ []) ≡ length r.calls + 1
    longer = omega (arith, length-append r.calls (call ∷ []))

    new_now : replay (start r.first) (take (length (r.calls ++ call ∷ [])) (r.calls ++ call ∷ [])) ≡ step was call
    new_now = ap (λ (l : List Call). replay (start r.first) l) (take_all (length (r.calls ++ call ∷ [])) (r.calls ++ call ∷ []) (omega arith)) ∙ state_noted r call

    before : (t : ℕ) → t ≤ length r.calls → replay (start r.first) (take t (r.calls ++ call ∷ [])) ≡ replay (start r.first) (take t r.calls)
    before t le = ap (λ (l : List Call). replay (start r.first) l) (take-append-le t r.calls (call ∷ []) le)

    pub elapses : Elapses old new
    elapses = record {
      later = record {
        tells = refl;
        moment = omega (arith, longer);
        disk_faults = disk_up;
        link_faults = link_up;
        images = λ t i le left. (le, subst (λ (s : State). IsImageOf s i) (before t le) left.1);
        keeps = λ t i le left. (omega (arith, longer, le), subst (λ (s : State). IsImageOf s i) (sym (before t le)) left.1);
        talks = λ t le. ap (λ (s : State). s.talks) (before t le);
      };
      one = omega (arith, longer);
    }

    pub file_now : new.file ≡ (step was call).file
    file_now = ap (λ (s : State). s.file) (state_noted r call)

    pub attached_now : new.attached ≡ (step was call).attached
    attached_now = ap (λ (s : State). s.attached) (state_noted r call)

    pub talks_now : talks new ≡ (step was call).talks
    talks_now = ap (λ (s : State). s.talks) new_now

    pub talks_old : talks old ≡ was.talks
    talks_old = ap (λ (s : State). s.talks) old_now

    pub image_now : (i : List ℕ) → IsImage new i → IsImageOf (step was call) i
    image_now i left = subst (λ (s : State). IsImageOf s i) new_now left.1

    pub image_old : (i : List ℕ) → IsImageOf was i → IsImage old i
    image_old i left = (omega arith, subst (λ (s : State). IsImageOf s i) (sym old_now) left)

    pub no_new_image : ((i : List ℕ) → IsImageOf (step was call) i → IsImageOf was i) → NoNewImage old new
    no_new_image fewer i left = image_old i (fewer i (image_now i left))

    pub disk_call : (step was call).talks ≡ was.talks → link ≡ link' → DiskCall old new
    disk_call same counts = record { time = elapses; talks = talks_now ∙ same ∙ sym talks_old; link_faults = sym counts }

    pub link_call : ((i : List ℕ) → IsImageOf (step was call) i → IsImageOf was i) → (step was call).file ≡ was.file → (step was call).attached ≡ was.attached → disk ≡ disk' → LinkCall old new
    link_call fewer same path counts = record { time = elapses; images = no_new_image fewer; file = file_now ∙ same; attached = attached_now ∙ path; disk_faults = sym counts }

    pub talks_by : (f : List Talk → List Talk) → (step was call).talks ≡ f was.talks → talks new ≡ f (talks old)
    talks_by f is = talks_now ∙ is ∙ ap f (sym talks_old)

  -- a sync makes what is read the one image
  pub sync_images : NoNewImage old (told_by (noted r Synced) disk' link')
  sync_images = no_new_image Synced (λ i is. subst (λ (f : List ℕ). IsImageOf (state r) f) (sym is) (replay_image (start r.first) r.calls refl))

  pub sync_stable : IsStable (told_by (noted r Synced) disk' link')
  sync_stable i left = image_now Synced i left ∙ sym (file_now Synced)

  module _ (at : ℕ) (bytes : List ℕ) (within : at ≤ length (state r).file) where
    place : min at (length (state r).file) ≡ at
    place = omega (arith, within)

    pub write_file : (told_by (noted r (Wrote at bytes)) disk' link').file ≡ written at bytes old.file
    write_file = file_now (Wrote at bytes) ∙ ap (λ (n : ℕ). written n bytes (state r).file) place

    pub write_images : AreTornBy at (length bytes) old (told_by (noted r (Wrote at bytes)) disk' link')
    write_images i left =
        let torn = torn_pop (state r).unsynced _ (state r).durable i (image_now (Wrote at bytes) i left) in
        (torn.0, image_old (Wrote at bytes) torn.0 torn.1, subst (λ (n : ℕ). IsTorn n (length bytes) torn.0 i) place torn.2)

-- a write that changed nothing
pub torn_none : (at count : ℕ) (file : List ℕ) → IsTorn at count file file
torn_none at count file = record { before = refl; after = refl; no_shorter = omega arith; no_longer = omega arith }
