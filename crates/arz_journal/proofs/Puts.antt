-- The four calls of an append.
use Rattle.std.proofs.Common.{◌≡◌, ◌≢◌, ◌⊎◌, inl, inr, ℕ, ◌+◌, List, [], ◌∷◌, ◌++◌, length, drop, refl, sym, ◌∙◌, ap, subst, arith, length-append}
use Rattle.arz_wire.specs.declared.entry.Entry.{Entry}
use Rattle.arz_world.specs.World.{WorldView, talks, IsImage, IsStable, NoNewImage, Later, DiskCall, IsTorn, AreTornBy, written}
use Rattle.arz_world.specs.declared.world.Talk.{Talk}
use Rattle.arz_world.specs.Moments.{EachMoment}
use Rattle.arz_world.proofs.Moments.{call, goes_on, later_trans}
use Rattle.arz_journal.specs.Journal.{recovered, whole, Recovered, counted, block, IsFront, IsBeforeOrAfter}
use Rattle.arz_journal.specs.Logs.{CanPut, IsPut}
use Rattle.arz_journal.proofs.Walks.{recovered_closed}
use Rattle.arz_journal.proofs.Staged.{torn_behind, written_behind, torn_gate, written_gate, new_front}

module _ (place : ℕ) (bytes : List ℕ) (entry : Entry) (w0 : WorldView) (can : CanPut place bytes entry w0) where
  abbrev list : List Entry
  list = can.at.entries

  abbrev P : List ℕ → List Talk → Type 0
  P image ts = (ts ≡ talks w0) × IsBeforeOrAfter w0.file entry image

  shut : can.at.gate ≢ 1
  shut = can.at.closed refl

  gives : recovered w0.file ≡ whole list
  gives = ap recovered can.at.file_is ∙ recovered_closed can.at.front list can.at.gate can.at.behind can.at.is_front shut

  -- the list from before, or the one with the entry
  either : (image : List ℕ) → (recovered image ≡ whole list) ⊎ (recovered image ≡ whole (list ++ entry ∷ [])) → IsBeforeOrAfter w0.file entry image
  either image (inl before) = inl (before ∙ sym gives)
  either image (inr after) = inr (after ∙ ap (λ (r : Recovered). whole (r.entries ++ entry ∷ [])) (sym gives))

  module _ (w1 : WorldView) (call1 : DiskCall w0 w1) (images1 : AreTornBy (place + 1) (length bytes) w0 w1) where
    old_list : (image : List ℕ) → IsImage w1 image → recovered image ≡ whole list
    old_list image left =
        let from = images1 image left in
        let was = can.stable from.0 from.1 ∙ can.at.file_is in
        torn_behind can.at.front list can.at.is_front can.at.gate shut can.at.behind place can.at.place_is (length bytes) image (subst (λ (f : List ℕ). IsTorn (place + 1) (length bytes) f image) was from.2)

    at_start : (image : List ℕ) → IsImage w0 image → P image (talks w0)
    at_start image left = (refl, inl (ap recovered (can.stable image left)))

    pub moments1 : EachMoment w0 w1 P
    moments1 = call w0 w1 P call1.time at_start (λ image left. (call1.talks, either image (inl (old_list image left))))

    module _ (w2 : WorldView) (call2 : DiskCall w1 w2) (images2 : NoNewImage w1 w2) where
      pub moments2 : EachMoment w0 w2 P
      moments2 = goes_on w0 w1 w2 P call1.time.later moments1 call2.time (λ image left. (call2.talks ∙ call1.talks, either image (inl (old_list image (images2 image left)))))

      module _ (written1 : w1.file ≡ written (place + 1) bytes w0.file) (file2 : w2.file ≡ w1.file) where
        abbrev rest : List ℕ
        rest = drop (place + 1 + length bytes) (can.at.front ++ can.at.gate ∷ can.at.behind)

        abbrev staged_file : List ℕ
        staged_file = can.at.front ++ can.at.gate ∷ ((counted can.payload ++ 0 ∷ []) ++ rest)

        file_is : w2.file ≡ staged_file
        file_is =
            file2 ∙ written1 ∙ ap (λ (f : List ℕ). written (place + 1) bytes f) can.at.file_is
            ∙ written_behind can.at.front list can.at.is_front can.at.gate shut can.at.behind place can.at.place_is bytes
            ∙ ap (λ (b : List ℕ). can.at.front ++ can.at.gate ∷ (b ++ rest)) can.bytes_are

        module _ (stable2 : IsStable w2) (w3 : WorldView) (call3 : DiskCall w2 w3) (images3 : AreTornBy place 1 w2 w3) where
          some : (image : List ℕ) → IsImage w3 image → IsBeforeOrAfter w0.file entry image
          some image left =
              let from = images3 image left in
              let was = stable2 from.0 from.1 ∙ file_is in
              either image (torn_gate can.at.front list can.at.is_front can.at.gate shut can.at.behind place can.at.place_is can.payload entry can.spells can.small rest image (subst (λ (f : List ℕ). IsTorn place 1 f image) was from.2))

          later2 : Later w0 w2
          later2 = later_trans w0 w1 w2 call1.time.later call2.time.later

          pub moments3 : EachMoment w0 w3 P
          moments3 = goes_on w0 w2 w3 P later2 moments2 call3.time (λ image left. (call3.talks ∙ call2.talks ∙ call1.talks, some image left))

          module _ (w4 : WorldView) (call4 : DiskCall w3 w4) (images4 : NoNewImage w3 w4) where
            pub moments4 : EachMoment w0 w4 P
            moments4 = goes_on w0 w3 w4 P (later_trans w0 w2 w3 later2 call3.time.later) moments3 call4.time
                (λ image left. (call4.talks ∙ call3.talks ∙ call2.talks ∙ call1.talks, some image (images4 image left)))

            module _ (written3 : w3.file ≡ written place (1 ∷ []) w2.file) (file4 : w4.file ≡ w3.file) (stable4 : IsStable w4) where
              file_now : w4.file ≡ (can.at.front ++ block can.payload) ++ 0 ∷ rest
              file_now =
                  file4 ∙ written3 ∙ ap (λ (f : List ℕ). written place (1 ∷ []) f) file_is
                  ∙ written_gate can.at.front list can.at.is_front can.at.gate shut can.at.behind place can.at.place_is can.payload entry can.spells can.small rest

              front_now : IsFront (can.at.front ++ block can.payload) (list ++ entry ∷ [])
              front_now = new_front can.at.front list can.at.is_front can.at.gate shut can.at.behind place can.at.place_is can.payload entry can.spells can.small rest

              pub is_put : IsPut place bytes entry w0 w4
              is_put = record {
                stable = stable4;
                at = record {
                  front = can.at.front ++ block can.payload;
                  entries = list ++ entry ∷ [];
                  gate = 0;
                  behind = rest;
                  file_is = file_now;
                  is_front = front_now;
                  place_is = omega (arith, can.at.place_is, ap length can.bytes_are, length-append (counted can.payload) (0 ∷ []), length-append can.at.front (block can.payload));
                  closed = λ ended. omega arith;
                };
                gives = ap recovered file_now ∙ recovered_closed (can.at.front ++ block can.payload) (list ++ entry ∷ []) 0 rest front_now (omega arith)
                    ∙ ap (λ (r : Recovered). whole (r.entries ++ entry ∷ [])) (sym gives);
              }
