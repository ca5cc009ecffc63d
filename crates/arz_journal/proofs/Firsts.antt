-- What a crash leaves where a journal is made.
use Rattle.std.proofs.Common.{◌≡◌, inl, inr, ℕ, ◌≤◌, ◌<◌, Bool, true, false, List, [], ◌∷◌, ◌++◌, length, refl, sym, ◌∙◌, ap, subst, arith, length-append}
use Rattle.std.proofs.lemmas.List.{append-nil, drop_all}
use Rattle.arz_world.specs.World.{WorldView, talks, IsImage, IsStable, NoNewImage, DiskCall, AreTornBy, written}
use Rattle.arz_world.specs.declared.world.Talk.{Talk}
use Rattle.arz_world.specs.Moments.{EachMoment}
use Rattle.arz_world.proofs.Moments.{call, goes_on, later_trans}
use Rattle.arz_journal.specs.Journal.{magic, recovered, whole}
use Rattle.arz_journal.specs.Logs.{LogView, IsAt, IsNothing, CanCreate, Stands}
use Rattle.arz_journal.proofs.Walks.{recovered_short, recovered_closed, no_blocks}

pub gives_nothing : (file : List ℕ) → IsNothing file → recovered file ≡ whole []
gives_nothing file (inl short) = recovered_short file short
gives_nothing file (inr at) =
    let none : at.entries ≡ [] = no_blocks at.entries at.is_front.0 at.is_front.2 (omega (arith, at.place_is, ap length at.is_front.1, length-append magic at.is_front.0)) in
    ap recovered at.file_is ∙ recovered_closed at.front at.entries at.gate at.behind at.is_front (at.closed refl) ∙ ap whole none

-- the first nine bytes
pub first_at : (file first : List ℕ) → first ≡ magic ++ 0 ∷ [] → length file ≤ 9 → IsAt 8 true (written 0 first file)
first_at file first is short = record {
  front = magic;
  entries = [];
  gate = 0;
  behind = [];
  file_is = ap (λ (l : List ℕ). written 0 l file) is ∙ ap (λ (l : List ℕ). (magic ++ 0 ∷ []) ++ l) (drop_all 9 file short) ∙ append-nil (magic ++ 0 ∷ []);
  is_front = ([], sym (append-nil magic), refl);
  place_is = refl;
  closed = λ ended. omega arith;
}

module _ (w0 : WorldView) (can : CanCreate w0) (w1 : WorldView) (call1 : DiskCall w0 w1) (images1 : NoNewImage w0 w1) where
  abbrev P : List ℕ → List Talk → Type 0
  P image ts = (ts ≡ talks w0) × (recovered image ≡ whole [])

  nothing : (image : List ℕ) → IsImage w0 image → recovered image ≡ whole []
  nothing image left = ap recovered (can.stable image left) ∙ gives_nothing w0.file can.nothing

  pub looked : EachMoment w0 w1 P
  looked = call w0 w1 P call1.time (λ image left. (refl, nothing image left)) (λ image left. (call1.talks, nothing image (images1 image left)))

  stable1 : w1.file ≡ w0.file → IsStable w1
  stable1 same image left = can.stable image (images1 image left) ∙ sym same

  long_is : (IsNothing w0.file) → 9 < length w0.file → IsAt 8 true w0.file
  long_is (inl short) long = absurd (omega (arith, short, long))
  long_is (inr at) long = at

  -- the first bytes are there
  pub is_there : w1.file ≡ w0.file → 9 < length w0.file → IsStable w1 × IsAt 8 true w1.file
  is_there same long = (stable1 same, subst (λ (f : List ℕ). IsAt 8 true f) (sym same) (long_is can.nothing long))

  module _ (file1 : w1.file ≡ w0.file) (short : length w0.file ≤ 9) (first : List ℕ) (first_is : first ≡ magic ++ 0 ∷ []) (w2 : WorldView) (call2 : DiskCall w1 w2) (images2 : AreTornBy 0 (length first) w1 w2) where
    short_image : (image : List ℕ) → IsImage w2 image → recovered image ≡ whole []
    short_image image left =
        let from = images2 image left in
        recovered_short image (omega (arith, from.2.no_longer, ap length (stable1 file1 from.0 from.1), ap length file1, short, ap length first_is))

    pub wrote : EachMoment w0 w2 P
    wrote = goes_on w0 w1 w2 P call1.time.later looked call2.time (λ image left. (call2.talks ∙ call1.talks, short_image image left))

    module _ (w3 : WorldView) (call3 : DiskCall w2 w3) (images3 : NoNewImage w2 w3) where
      pub synced : EachMoment w0 w3 P
      synced = goes_on w0 w2 w3 P (later_trans w0 w1 w2 call1.time.later call2.time.later) wrote call3.time
          (λ image left. (call3.talks ∙ call2.talks ∙ call1.talks, short_image image (images3 image left)))

      pub is_made : w2.file ≡ written 0 first w1.file → w3.file ≡ w2.file → IsStable w3 → IsStable w3 × IsAt 8 true w3.file
      is_made written2 file3 stable3 =
          (stable3, subst (λ (f : List ℕ). IsAt 8 true f) (sym (file3 ∙ written2)) (first_at w1.file first first_is (omega (arith, ap length file1, short))))

-- the log of a journal that was made
pub made_stands : (log : LogView) (w : WorldView) → IsStable w × IsAt 8 true w.file → log.place ≡ 8 → log.is_open ≡ true → log.is_ended ≡ true → Stands log w
made_stands log w made place open_is ended = record {
  stable = made.0;
  unopened = λ shut. absurd (closed_too log.is_open open_is shut);
  opened = λ _. subst (λ (b : Bool). IsAt log.place b w.file) (sym ended) (subst (λ (p : ℕ). IsAt p true w.file) (sym place) made.1);
}
  where
    closed_too : (b : Bool) → b ≡ true → b ≡ false → ⊥
    closed_too true one two = cc two
    closed_too false one two = cc one

pub can_create : (log : LogView) (w : WorldView) → Stands log w → log.is_open ≡ false → CanCreate w
can_create log w stands shut = record { stable = stands.stable; nothing = stands.unopened shut }
