-- What reading gives, and how readings are put together. Private clauses cite this.
use Rattle.std.specs.Prelude.{ℕ, zero, suc, ◌≡◌, List, [], ◌∷◌, ◌++◌, length, Option, Some, None, option_map, option_and_then, Result, Ok, Err}
use Rattle.arz_query.specs.Words.{chosen}
use Rattle.arz_cond.specs.declared.pieces.Part.{Part}
use Rattle.arz_cond.specs.declared.pieces.ReadFault.{ReadFault}
use Rattle.arz_cond.specs.declared.pieces.ReadFault.TheVariants as fault

-- what was read, and what follows it
pub record Read (V : Type 0) : Type 0 where
  pub value : V
  pub rest : List ℕ

abbrev pub Reader : Type 0 → Type 0
Reader V = List ℕ → Option (Read V)

abbrev pub with_value : {V W : Type 0} → (V → W) → Read V → Read W
with_value made one = record { value = made one.value; rest = one.rest }

abbrev pub with_rest : {V : Type 0} → Read V → List ℕ → Read V
with_rest one rest = record { value = one.value; rest = rest }

-- a list of one item
abbrev pub list_of_one : {V : Type 0} → Read V → Read (List V)
list_of_one = with_value (λ v. v ∷ [])

-- one item more, that was read where the list ended
abbrev pub with_item : {V : Type 0} → Read (List V) → Read V → Read (List V)
with_item all one = record { value = all.value ++ one.value ∷ []; rest = one.rest }

-- behind what was read before
abbrev pub with_front : {V : Type 0} → List V → Read (List V) → Read (List V)
with_front front more = record { value = front ++ more.value; rest = more.rest }

abbrev pub no_more : {V : Type 0} → List ℕ → Read (List V)
no_more s = record { value = []; rest = s }

-- at most so many items, each behind a separator
unfoldable pub more_at : {V : Type 0} → ℕ → (List ℕ → Option (List ℕ)) → Reader V → Reader (List V)
more_at zero separator item s = Some (no_more s)
more_at (suc n) separator item s =
    chosen (separator s)
    (λ t. option_and_then (λ one. option_map (with_front (one.value ∷ [])) (more_at n separator item one.rest)) (item t))
    (Some (no_more s))

-- an item, and at most so many behind it as there are bytes
unfoldable pub items_at : {V : Type 0} → (List ℕ → Option (List ℕ)) → Reader V → Reader (List V)
items_at separator item s =
    option_and_then (λ one. option_map (with_front (one.value ∷ [])) (more_at (length s) separator item one.rest)) (item s)

-- ---- what the code answers

abbrev pub as_read : {V : Type 0} → Part V → Read V
as_read p = record { value = p.value; rest = p.rest.now }

-- unless memory ran out
abbrev pub Gives : {X Y : Type 0} → (X → Y) → Result X ReadFault → Option Y → Type 0
Gives view (Ok x) meant = meant ≡ Some (view x)
Gives view (Err fault.Syntax) meant = meant ≡ None
Gives view (Err fault.Memory) meant = Unit {0}
