-- Outcomes that say what another is, or nothing.
use Rattle.std.proofs.Common.{◌≡◌, List, [], ◌∷◌, ◌++◌, refl, sym, ap, subst, append_assoc, append-nil}
use Rattle.arz_path.specs.Outcome.{Outcome, given, wide, untold, and_then, outcome_map, each, Covers}
use Rattle.arz_path.specs.Spots.{joined}

pub covers_same : {X : Type 0} (o : Outcome X) → Covers o o
covers_same (given x) = refl
covers_same wide = refl
covers_same untold = tt

pub covers_equal : {X : Type 0} (a b : Outcome X) → a ≡ b → Covers a b
covers_equal a b e = subst (Covers a) e (covers_same a)

pub covers_trans : {X : Type 0} (a b c : Outcome X) → Covers a b → Covers b c → Covers a c
covers_trans (given x) b c h k = subst (λ o. Covers o c) (sym h) k
covers_trans wide b c h k = subst (λ o. Covers o c) (sym h) k
covers_trans untold b c h k = tt

pub covers_untold : {X : Type 0} (w o : Outcome X) → Covers w untold → Covers w o
covers_untold (given x) o h = absurd (cc)
covers_untold wide o h = absurd (cc)
covers_untold untold o h = tt

pub through : {X Y : Type 0} (f : X → Outcome Y) (o : Outcome X) (x : X) → Covers o (given x) → Covers (and_then f o) (f x)
through f (given z) x h = subst (λ o. Covers (and_then f o) (f x)) (sym h) (covers_same (f x))
through f wide x h = absurd (cc)
through f untold x h = tt

pub stops : {X Y : Type 0} (f : X → Outcome Y) (o : Outcome X) → Covers o wide → Covers (and_then f o) wide
stops f (given z) h = absurd (cc)
stops f wide h = refl
stops f untold h = tt

pub through_map : {X Y : Type 0} (f : X → Y) (o : Outcome X) (x : X) → Covers o (given x) → Covers (outcome_map f o) (given (f x))
through_map f (given z) x h = subst (λ o. Covers (outcome_map f o) (given (f x))) (sym h) refl
through_map f wide x h = absurd (cc)
through_map f untold x h = tt

pub stops_map : {X Y : Type 0} (f : X → Y) (o : Outcome X) → Covers o wide → Covers (outcome_map f o) wide
stops_map f (given z) h = absurd (cc)
stops_map f wide h = refl
stops_map f untold h = tt

-- one part more of the lists of all
pub joined_step : {X Y : Type 0} (w : Outcome (List Y)) (f : X → Outcome (List Y)) (old ys : List Y) (x : X) (xs : List X) →
    Covers w (joined old (each f (x ∷ xs))) → Covers (f x) (given ys) → Covers w (joined (old ++ ys) (each f xs))
joined_step {Y = Y} w f old ys x xs h k = covers_trans w _ _ h (covers_trans _ (joined old (outcome_map (λ more. ys ++ more) (each f xs))) _ (first (f x) k) (covers_equal _ _ (flat (each f xs))))
  where
    first : (o : Outcome (List Y)) → Covers o (given ys) → Covers (joined old (and_then (λ zs. outcome_map (λ more. zs ++ more) (each f xs)) o)) (joined old (outcome_map (λ more. ys ++ more) (each f xs)))
    first (given zs) k = subst (λ o. Covers (joined old (and_then (λ zs. outcome_map (λ more. zs ++ more) (each f xs)) o)) (joined old (outcome_map (λ more. ys ++ more) (each f xs)))) (sym k) (covers_same _)
    first wide k = absurd (cc)
    first untold k = tt

    flat : (o : Outcome (List Y)) → joined old (outcome_map (λ more. ys ++ more) o) ≡ joined (old ++ ys) o
    flat (given zs) = ap given (sym (append_assoc old ys zs))
    flat wide = refl
    flat untold = refl

pub joined_stop : {X Y : Type 0} (w : Outcome (List Y)) (f : X → Outcome (List Y)) (old : List Y) (x : X) (xs : List X) →
    Covers w (joined old (each f (x ∷ xs))) → Covers (f x) wide → Covers w wide
joined_stop {Y = Y} w f old x xs h k = covers_trans w _ _ h (last (f x) k)
  where
    last : (o : Outcome (List Y)) → Covers o wide → Covers (joined old (and_then (λ zs. outcome_map (λ more. zs ++ more) (each f xs)) o)) wide
    last (given zs) k = absurd (cc)
    last wide k = refl
    last untold k = tt

pub joined_begin : {Y : Type 0} (old : List Y) → old ≡ [] → (o : Outcome (List Y)) → Covers o (joined old o)
joined_begin {Y = Y} old none o = subst (λ ys. Covers o (joined ys o)) (sym none) (of o)
  where
    of : (o : Outcome (List Y)) → Covers o (joined [] o)
    of (given ys) = refl
    of wide = refl
    of untold = tt

pub joined_none : {Y : Type 0} (w : Outcome (List Y)) (old : List Y) → Covers w (joined old (given [])) → Covers w (given old)
joined_none w old h = subst (λ ys. Covers w (given ys)) (append-nil old) h
