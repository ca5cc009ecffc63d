-- What a call answers: a value, a fault, or that memory ran out.
use Rattle.std.specs.Prelude.{◌≡◌, Option, Some, None, Result, Ok, Err}

-- what the value makes, or the fault that comes first
infixl 10 ◌>>=◌
abbrev pub ◌>>=◌ : {A B F : Type 0} → Result A F → (A → Result B F) → Result B F
(Ok a) >>= next = next a
(Err fault) >>= next = Err fault

-- the fault that is meant; want of memory says nothing of it
abbrev pub Fails : {B F : Type 0} → Option F → Result B F → Type 0
Fails (Some fault) meant = meant ≡ Err fault
Fails None meant = Unit {0}

-- What is meant, of the value as view shows it; or the fault that is meant, as cause shows it; or memory
-- ran out, of which cause shows None.
abbrev pub Gives : {A B E F : Type 0} → (A → B) → (E → Option F) → Result A E → Result B F → Type 0
Gives view cause (Ok a) meant = meant ≡ Ok (view a)
Gives view cause (Err e) meant = Fails (cause e) meant
