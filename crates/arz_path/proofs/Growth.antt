-- Lists of nodes that grow up to the widest.
use Rattle.std.proofs.Common.{◌≡◌, ◌≤◌, List, [], ◌∷◌, ◌++◌, length, Bool, true, false, nat_lt, cond, Result, Ok, Err, refl, sym, ap, subst, ◌∙◌, append_assoc, append-nil, length-append, arith}
use Rattle.std.proofs.lemmas.Grind.{common_steps}
use Rattle.arz_path.specs.Outcome.{Outcome, given, wide, untold, and_then, outcome_map, each, Covers}
use Rattle.arz_json.specs.Answer.{◌>>=◌}
use Rattle.arz_path.specs.declared.fault.SelectFault.{SelectFault}
use Rattle.arz_path.specs.declared.fault.SelectFault.TheVariants.{TooWide}
use Rattle.arz_path.specs.Selected.{widest, told_of}
use Rattle.arz_path.specs.Spots.{within, narrow, grown}
use Rattle.arz_path.proofs.Outcomes.{covers_same, covers_equal, covers_trans, covers_untold}

pub within_none : {Y : Type 0} (old : List Y) → length old ≤ widest → within (old ++ []) ≡ Ok old
within_none old h = grind (arith, common_steps, append-nil)

-- what is too wide stays so
within_more : {Y : Type 0} (old xs ys : List Y) → within (old ++ (xs ++ ys)) ≡ (within (old ++ xs) >>= λ mid. within (mid ++ ys))
within_more old xs ys = grind (arith, common_steps, append_assoc, length-append)

pub within_step : {Y : Type 0} (old mid : List Y) (x : Y) (ys : List Y) → within (old ++ x ∷ []) ≡ Ok mid → within (old ++ x ∷ ys) ≡ within (mid ++ ys)
within_step old mid x ys h = within_more old (x ∷ []) ys ∙ ap (λ r. r >>= λ m. within (m ++ ys)) h

pub within_stop : {Y : Type 0} (old : List Y) (x : Y) (ys : List Y) → within (old ++ x ∷ []) ≡ Err TooWide → within (old ++ x ∷ ys) ≡ Err TooWide
within_stop old x ys h = within_more old (x ∷ []) ys ∙ ap (λ r. r >>= λ m. within (m ++ ys)) h

told_then : {X Y : Type 0} (f : X → Result Y SelectFault) (r : Result X SelectFault) → told_of (r >>= f) ≡ and_then (λ x. told_of (f x)) (told_of r)
told_then f (Ok x) = refl
told_then f (Err e) = refl

pub narrow_none : {Y : Type 0} (old : List Y) → length old ≤ widest → narrow (old ++ []) ≡ given old
narrow_none old h = ap told_of (within_none old h)

narrow_more : {Y : Type 0} (old xs ys : List Y) → narrow (old ++ (xs ++ ys)) ≡ and_then (λ mid. narrow (mid ++ ys)) (narrow (old ++ xs))
narrow_more old xs ys = ap told_of (within_more old xs ys) ∙ told_then (λ mid. within (mid ++ ys)) (within (old ++ xs))

pub narrow_steps : {Y : Type 0} (old xs mid ys : List Y) → narrow (old ++ xs) ≡ given mid → narrow (old ++ (xs ++ ys)) ≡ narrow (mid ++ ys)
narrow_steps old xs mid ys h = narrow_more old xs ys ∙ ap (and_then (λ m. narrow (m ++ ys))) h

pub narrow_stops : {Y : Type 0} (old xs ys : List Y) → narrow (old ++ xs) ≡ wide → narrow (old ++ (xs ++ ys)) ≡ wide
narrow_stops old xs ys h = narrow_more old xs ys ∙ ap (and_then (λ m. narrow (m ++ ys))) h

-- ---- the lists of all, a part at a time

-- a part that is given
part_given : {X Y : Type 0} (f : X → Outcome (List Y)) (old ys : List Y) (x : X) (xs : List X) → Covers (f x) (given ys) →
    Covers (grown old (each f (x ∷ xs))) (grown old (outcome_map (λ more. ys ++ more) (each f xs)))
part_given {Y = Y} f old ys x xs k = of (f x) k
  where
    of : (o : Outcome (List Y)) → Covers o (given ys) → Covers (grown old (and_then (λ zs. outcome_map (λ more. zs ++ more) (each f xs)) o)) (grown old (outcome_map (λ more. ys ++ more) (each f xs)))
    of (given zs) k = subst (λ o. Covers (grown old (and_then (λ zs. outcome_map (λ more. zs ++ more) (each f xs)) o)) (grown old (outcome_map (λ more. ys ++ more) (each f xs)))) (sym k) (covers_same _)
    of wide k = absurd (cc)
    of untold k = tt

rest_taken : {Y : Type 0} (old ys mid : List Y) (o : Outcome (List Y)) → narrow (old ++ ys) ≡ given mid → grown old (outcome_map (λ more. ys ++ more) o) ≡ grown mid o
rest_taken old ys mid (given zs) h = narrow_steps old ys mid zs h
rest_taken old ys mid wide h = refl
rest_taken old ys mid untold h = refl

rest_refused : {Y : Type 0} (w : Outcome (List Y)) (old ys : List Y) (o : Outcome (List Y)) → narrow (old ++ ys) ≡ wide → Covers w (grown old (outcome_map (λ more. ys ++ more) o)) → Covers w wide
rest_refused w old ys (given zs) h k = subst (Covers w) (narrow_stops old ys zs h) k
rest_refused w old ys wide h k = k
rest_refused w old ys untold h k = covers_untold w wide k

pub grown_step : {X Y : Type 0} (w : Outcome (List Y)) (f : X → Outcome (List Y)) (old ys mid : List Y) (x : X) (xs : List X) →
    Covers w (grown old (each f (x ∷ xs))) → Covers (f x) (given ys) → narrow (old ++ ys) ≡ given mid → Covers w (grown mid (each f xs))
grown_step w f old ys mid x xs h k e = subst (Covers w) (rest_taken old ys mid (each f xs) e) (covers_trans w _ _ h (part_given f old ys x xs k))

pub grown_wide : {X Y : Type 0} (w : Outcome (List Y)) (f : X → Outcome (List Y)) (old ys : List Y) (x : X) (xs : List X) →
    Covers w (grown old (each f (x ∷ xs))) → Covers (f x) (given ys) → narrow (old ++ ys) ≡ wide → Covers w wide
grown_wide w f old ys x xs h k e = rest_refused w old ys (each f xs) e (covers_trans w _ _ h (part_given f old ys x xs k))

pub grown_fault : {X Y : Type 0} (w : Outcome (List Y)) (f : X → Outcome (List Y)) (old : List Y) (x : X) (xs : List X) →
    Covers w (grown old (each f (x ∷ xs))) → Covers (f x) wide → Covers w wide
grown_fault {Y = Y} w f old x xs h k = covers_trans w _ _ h (of (f x) k)
  where
    of : (o : Outcome (List Y)) → Covers o wide → Covers (grown old (and_then (λ zs. outcome_map (λ more. zs ++ more) (each f xs)) o)) wide
    of (given zs) k = absurd (cc)
    of wide k = refl
    of untold k = tt

-- a list narrows to itself or to nothing, and never untold
covers_narrow : {Y : Type 0} (ns : List Y) (o : Outcome (List Y)) → Covers (narrow ns) o → narrow ns ≡ o
covers_narrow {Y = Y} ns o h = of (nat_lt widest (length ns)) h
  where
    of : (b : Bool) → Covers (told_of (cond b (Err TooWide) (Ok ns))) o → told_of (cond b (Err TooWide) (Ok ns)) ≡ o
    of true h = h
    of false h = h

-- the same where each part was grown already
pub all_step : {X Y : Type 0} (w : Outcome (List Y)) (f : X → Outcome (List Y)) (old mid : List Y) (x : X) (xs : List X) →
    Covers w (grown old (each f (x ∷ xs))) → Covers (grown old (f x)) (given mid) → Covers w (grown mid (each f xs))
all_step {Y = Y} w f old mid x xs h k = covers_trans w _ _ h (of (f x) k)
  where
    of : (o : Outcome (List Y)) → Covers (grown old o) (given mid) → Covers (grown old (and_then (λ zs. outcome_map (λ more. zs ++ more) (each f xs)) o)) (grown mid (each f xs))
    of (given ys) k = covers_equal _ _ (rest_taken old ys mid (each f xs) (covers_narrow (old ++ ys) (given mid) k))
    of wide k = absurd (cc)
    of untold k = tt

pub all_wide : {X Y : Type 0} (w : Outcome (List Y)) (f : X → Outcome (List Y)) (old : List Y) (x : X) (xs : List X) →
    Covers w (grown old (each f (x ∷ xs))) → Covers (grown old (f x)) wide → Covers w wide
all_wide {Y = Y} w f old x xs h k = of (f x) k h
  where
    of : (o : Outcome (List Y)) → Covers (grown old o) wide → Covers w (grown old (and_then (λ zs. outcome_map (λ more. zs ++ more) (each f xs)) o)) → Covers w wide
    of (given ys) k h = rest_refused w old ys (each f xs) (covers_narrow (old ++ ys) wide k) h
    of wide k h = h
    of untold k h = covers_untold w wide h

pub grown_end : {Y : Type 0} (w : Outcome (List Y)) (old : List Y) → length old ≤ widest → Covers w (grown old (given [])) → Covers w (given old)
grown_end w old room h = subst (Covers w) (narrow_none old room) h
