-- Worked rows.
use Rattle.std.proofs.Common.{◌≡◌, ℕ, ℤ, pos, negsuc, List, [], ◌∷◌, None, ap, Bool}
use Rattle.std.specs.Prelude.{codes}
use Rattle.arz_json.specs.declared.tree.Json.{Json}
use Rattle.arz_json.specs.declared.tree.Json.TheOpen.{Json-F}
use Rattle.arz_json.specs.declared.tree.Json.TheVariants.{Int, Object, List as ListOf}
use Rattle.arz_json.specs.declared.tree.Json.TheViews.{outs-Int, outs-List, outs-Object}
use Rattle.arz_rx.specs.Patterns.{Told}
use Rattle.arz_query.specs.declared.query.Segment.{Segment}
use Rattle.arz_query.specs.declared.query.Segment.TheVariants.{Child, Descendant}
use Rattle.arz_query.specs.declared.query.Selector.TheVariants as selector
use Rattle.arz_query.specs.declared.query.Test.TheVariants.{Compare}
use Rattle.arz_query.specs.declared.query.Operand.{Operand}
use Rattle.arz_query.specs.declared.query.Operand.TheVariants.{Query as QueryOf, Count, Int as IntOperand}
use Rattle.arz_query.specs.declared.query.Start.TheVariants.{Current}
use Rattle.arz_query.specs.declared.query.Comparison.TheVariants.{Equal, Greater}
use Rattle.arz_json.specs.declared.place.Token.{Token}
use Rattle.arz_json.specs.declared.place.Token.TheVariants.{Name, Index}
use Rattle.arz_path.specs.Outcome.{given}
use Rattle.arz_path.specs.Values.{is_same, same_step}
use Rattle.arz_path.specs.Selected.{places, selected}
use Rattle.arz_path.proofs.Meanings.{meanings}
use Rattle.arz_path.proofs.Levels.{below-List, below-Object, below-Int}
use Rattle.arz_path.proofs.Equality.{same-Int}

same : (z : ℤ) (j : Json) → is_same (Int z) j ≡ same_step (Json-F.Int z) j
same z j = ap (λ (f : Json → Bool). f j) (same-Int z)

ruleset levels = (outs-Int, outs-List, outs-Object, below-List, below-Object, below-Int, same)

abbrev a : List ℕ
a = codes "a"

abbrev b : List ℕ
b = codes "b"

abbrev c : List ℕ
c = codes "c"

abbrev just : ℤ → Json
just n = Object (record { name = b; value = Int n } ∷ [])

-- {"a":[{"b":2},{"b":5}],"c":{"b":9}}
abbrev tree : Json
tree = Object (record { name = a; value = ListOf (just (pos 2) ∷ just (pos 5) ∷ []) } ∷ record { name = c; value = just (pos 9) } ∷ [])

-- [{"a":1,"b":1},{"a":1,"b":2},{}]
abbrev pairs : Json
pairs = ListOf (Object (record { name = a; value = Int (pos 1) } ∷ record { name = b; value = Int (pos 1) } ∷ [])
    ∷ Object (record { name = a; value = Int (pos 1) } ∷ record { name = b; value = Int (pos 2) } ∷ []) ∷ Object [] ∷ [])

abbrev selects : List Segment → Json → List (List Token) → Type 0
selects ss root found = (told : List ℕ → List ℕ → Told) → places ss (record { told = told; root = root }) ≡ given found

abbrev at : List ℕ → Segment
at name = Child (selector.Name name ∷ [])

abbrev here : List ℕ → Operand
here name = QueryOf Current (at name ∷ [])

-- $..b
descendants : selects (Descendant (selector.Name b ∷ []) ∷ []) tree ((Name a ∷ Index 0 ∷ Name b ∷ []) ∷ (Name a ∷ Index 1 ∷ Name b ∷ []) ∷ (Name c ∷ Name b ∷ []) ∷ [])
unfolding places selected
descendants told = simp (meanings, levels)

-- $.a[?@.b > 3]
filtered : selects (at a ∷ Child (selector.Filter (Compare (here b) Greater (IntOperand (pos 3))) ∷ []) ∷ []) tree ((Name a ∷ Index 1 ∷ []) ∷ [])
unfolding places selected
filtered told = simp (meanings, levels)

-- $.a[-1,0]
indices : selects (at a ∷ Child (selector.Index (negsuc 0) ∷ selector.Index (pos 0) ∷ []) ∷ []) tree ((Name a ∷ Index 1 ∷ []) ∷ (Name a ∷ Index 0 ∷ []) ∷ [])
unfolding places selected
indices told = simp (meanings, levels)

-- $.a[::-1]
backward : selects (at a ∷ Child (selector.Slice (record { start = None; end = None; step = negsuc 0 }) ∷ []) ∷ []) tree ((Name a ∷ Index 1 ∷ []) ∷ (Name a ∷ Index 0 ∷ []) ∷ [])
unfolding places selected
backward told = simp (meanings, levels)

-- $.a[::0]
step_of_zero : selects (at a ∷ Child (selector.Slice (record { start = None; end = None; step = pos 0 }) ∷ []) ∷ []) tree []
unfolding places selected
step_of_zero told = simp (meanings, levels)

-- $[?count(@.*) == 2]
counted : selects (Child (selector.Filter (Compare (Count Current (Child (selector.Wildcard ∷ []) ∷ [])) Equal (IntOperand (pos 2))) ∷ []) ∷ []) tree ((Name a ∷ []) ∷ [])
unfolding places selected
counted told = simp (meanings, levels)

-- $[?@.a == @.b]: nothing equals nothing
nothing_twice : selects (Child (selector.Filter (Compare (here a) Equal (here b)) ∷ []) ∷ []) pairs ((Index 0 ∷ []) ∷ (Index 2 ∷ []) ∷ [])
unfolding places selected
nothing_twice told = simp (meanings, levels)
