-- What a crash leaves in each of the two writes of an append.
use Rattle.std.proofs.Common.{◌≡◌, ◌≢◌, ◌⊎◌, inl, inr, ℕ, ◌+◌, ◌<◌, ◌^◌, List, [], ◌∷◌, ◌++◌, length, get_or, take, drop, Ok, sym, ◌∙◌, ap, subst, arith, append_assoc, length-append, take-append-drop}
use Rattle.std.proofs.lemmas.List.{take_at, drop_at, drop_more}
use Rattle.std.proofs.lemmas.Bool.{cases_eq}
use Rattle.arz_wire.specs.Entries.{entry_of}
use Rattle.arz_wire.specs.declared.entry.Entry.{Entry}
use Rattle.arz_world.specs.World.{IsTorn, written}
use Rattle.arz_journal.specs.Journal.{recovered, whole, counted, block, IsFront}
use Rattle.arz_journal.proofs.Walks.{recovered_closed, front_push}

module _ (front : List ℕ) (entries : List Entry) (is_front : IsFront front entries) (gate : ℕ) (shut : gate ≢ 1) (behind : List ℕ) (place : ℕ) (place_is : place ≡ length front) where
  abbrev file : List ℕ
  file = front ++ gate ∷ behind

  split : file ≡ (front ++ gate ∷ []) ++ behind
  split = sym (append_assoc front (gate ∷ []) behind)

  size : length (front ++ gate ∷ []) ≡ place + 1
  size = omega (arith, place_is, length-append front (gate ∷ []))

  up_to_gate : take (place + 1) file ≡ front ++ gate ∷ []
  up_to_gate = ap (λ (l : List ℕ). take (place + 1) l) split ∙ take_at (front ++ gate ∷ []) behind (place + 1) size

  -- the closed gate stands in each outcome of the first write
  pub torn_behind : (count : ℕ) (image : List ℕ) → IsTorn (place + 1) count file image → recovered image ≡ whole entries
  torn_behind count image torn =
      let end = drop (place + 1) image in
      let all : image ≡ front ++ gate ∷ end =
      sym (take-append-drop (place + 1) image) ∙ ap (λ (l : List ℕ). l ++ end) (torn.before ∙ up_to_gate) ∙ append_assoc front (gate ∷ []) end in
      ap recovered all ∙ recovered_closed front entries gate end is_front shut

  pub written_behind : (bytes : List ℕ) → written (place + 1) bytes file ≡ front ++ gate ∷ (bytes ++ drop (place + 1 + length bytes) file)
  written_behind bytes =
      ap (λ (l : List ℕ). l ++ bytes ++ drop (place + 1 + length bytes) file) up_to_gate
      ∙ append_assoc (front ++ gate ∷ []) bytes (drop (place + 1 + length bytes) file)
      ∙ append_assoc front (gate ∷ []) (bytes ++ drop (place + 1 + length bytes) file)

  module _ (payload : List ℕ) (entry : Entry) (spells : entry_of payload ≡ Ok entry) (small : length payload < 2 ^ 32) (rest : List ℕ) where
    -- the entry stands whole behind any gate
    abbrev pub staged : List ℕ
    staged = front ++ gate ∷ ((counted payload ++ 0 ∷ []) ++ rest)

    -- with its gate open it is the last entry
    opened : front ++ 1 ∷ ((counted payload ++ 0 ∷ []) ++ rest) ≡ (front ++ block payload) ++ 0 ∷ rest
    opened =
        ap (λ (l : List ℕ). front ++ 1 ∷ l) (append_assoc (counted payload) (0 ∷ []) rest)
        ∙ sym (append_assoc front (block payload) (0 ∷ rest))

    pub new_front : IsFront (front ++ block payload) (entries ++ entry ∷ [])
    new_front = front_push front entries payload entry is_front spells small

    any_gate : (g : ℕ) → (recovered (front ++ g ∷ ((counted payload ++ 0 ∷ []) ++ rest)) ≡ whole entries) ⊎ (recovered (front ++ g ∷ ((counted payload ++ 0 ∷ []) ++ rest)) ≡ whole (entries ++ entry ∷ []))
    any_gate g = elim (cases_eq g 1) [
      | inl is_open ↦ inr (ap (λ (n : ℕ). recovered (front ++ n ∷ ((counted payload ++ 0 ∷ []) ++ rest))) is_open ∙ ap recovered opened ∙ recovered_closed (front ++ block payload) (entries ++ entry ∷ []) 0 rest new_front (omega arith))
      | inr closed ↦ inl (recovered_closed front entries g ((counted payload ++ 0 ∷ []) ++ rest) is_front closed)
    ]

    before_it : take place staged ≡ front
    before_it = take_at front (gate ∷ ((counted payload ++ 0 ∷ []) ++ rest)) place (sym place_is)

    behind_it : drop (place + 1) staged ≡ (counted payload ++ 0 ∷ []) ++ rest
    behind_it =
        ap (λ (l : List ℕ). drop (place + 1) l) (sym (append_assoc front (gate ∷ []) ((counted payload ++ 0 ∷ []) ++ rest)))
        ∙ drop_at (front ++ gate ∷ []) ((counted payload ++ 0 ∷ []) ++ rest) (place + 1) size

    -- it stands whole in each outcome of the second write
    pub torn_gate : (image : List ℕ) → IsTorn place 1 staged image → (recovered image ≡ whole entries) ⊎ (recovered image ≡ whole (entries ++ entry ∷ []))
    torn_gate image torn =
        let g = get_or image place 0 in
        let long : place < length image = omega (arith, torn.no_shorter, length-append front (gate ∷ ((counted payload ++ 0 ∷ []) ++ rest)), place_is) in
        let end : drop place image ≡ g ∷ ((counted payload ++ 0 ∷ []) ++ rest) =
        drop_more image place 0 long ∙ ap (λ (l : List ℕ). g ∷ l) (torn.after ∙ behind_it) in
        let all : image ≡ front ++ g ∷ ((counted payload ++ 0 ∷ []) ++ rest) =
        sym (take-append-drop place image) ∙ ap (λ (l : List ℕ). l ++ drop place image) (torn.before ∙ before_it) ∙ ap (λ (l : List ℕ). front ++ l) end in
        let P : List ℕ → Type 0 = λ f. (recovered f ≡ whole entries) ⊎ (recovered f ≡ whole (entries ++ entry ∷ [])) in
        subst P (sym all) (any_gate g)

    pub written_gate : written place (1 ∷ []) staged ≡ (front ++ block payload) ++ 0 ∷ rest
    written_gate =
        ap (λ (l : List ℕ). l ++ (1 ∷ []) ++ drop (place + 1) staged) before_it
        ∙ ap (λ (l : List ℕ). front ++ (1 ∷ []) ++ l) behind_it
        ∙ append_assoc front (1 ∷ []) ((counted payload ++ 0 ∷ []) ++ rest)
        ∙ opened
