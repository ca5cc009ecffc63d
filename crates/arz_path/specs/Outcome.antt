-- What evaluating a part of a query comes to.
use Rattle.std.specs.Prelude.{◌≡◌, List, [], ◌∷◌, ◌++◌}

-- what is given; a list was too wide; or nothing is told of a pattern that is needed
pub data Outcome (X : Type 0) : Type 0 where
  given : X → Outcome X
  wide : Outcome X
  untold : Outcome X

-- the first part, and then the second, which may go by what the first gave
abbrev pub and_then : {X Y : Type 0} → (X → Outcome Y) → Outcome X → Outcome Y
and_then f (given x) = f x
and_then f wide = wide
and_then f untold = untold

abbrev pub outcome_map : {X Y : Type 0} → (X → Y) → Outcome X → Outcome Y
outcome_map f (given x) = given (f x)
outcome_map f wide = wide
outcome_map f untold = untold

-- the lists of all in order, joined
abbrev pub each : {X Y : Type 0} → (X → Outcome (List Y)) → List X → Outcome (List Y)
each f [] = given []
each f (x ∷ xs) = and_then (λ ys. outcome_map (λ more. ys ++ more) (each f xs)) (f x)

-- what each part gives, in order
abbrev pub parts : {X Y : Type 0} → (X → Outcome Y) → List X → Outcome (List Y)
parts f xs = each (λ x. outcome_map (λ y. y ∷ []) (f x)) xs

-- an outcome that says what another is, or nothing
abbrev pub Covers : {X : Type 0} → Outcome X → Outcome X → Type 0
Covers (given x) o = given x ≡ o
Covers wide o = wide ≡ o
Covers untold o = Unit {0}
