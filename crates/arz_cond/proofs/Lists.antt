-- Reading a list, an item at a time; room for nesting.
use Rattle.std.proofs.Common.{◌≡◌, ℕ, suc, ◌<◌, ◌+◌, ◌-◌, List, [], ◌∷◌, ◌++◌, Bool, Option, Some, None, option_map, option_and_then, refl, sym, ap, ◌∙◌, append_assoc, append-nil, arith}
use Rattle.arz_query.specs.Words.{chosen}
use Rattle.arz_cond.specs.Words.{Read, Reader, with_front, with_item, no_more, more_at}
use Rattle.arz_cond.specs.Reading.{plain_at, not_of, not_at}

-- ---- room

pub no_room : (f : Bool) (n : ℕ) (s : List ℕ) → n ≡ 0 → not_at f n s ≡ plain_at f s
unfolding not_at
no_room f n s e = ap (λ m. not_at f m s) e

room_of : (f : Bool) (n m : ℕ) (s : List ℕ) → n ≡ suc m → not_at f n s ≡ not_of f (not_at f m) s
unfolding not_at
room_of f n m s e = ap (λ k. not_at f k s) e

pub some_room : (f : Bool) (n : ℕ) (s : List ℕ) → 0 < n → not_at f n s ≡ not_of f (not_at f (n - 1)) s
some_room f n s h = room_of f n (n - 1) s (omega arith)

-- ---- lists

abbrev pub taken : {V : Type 0} → ℕ → (List ℕ → Option (List ℕ)) → Reader V → Read V → Option (Read (List V))
taken n separator item one = option_map (with_front (one.value ∷ [])) (more_at n separator item one.rest)

abbrev pub turned : {V : Type 0} → ℕ → (List ℕ → Option (List ℕ)) → Reader V → List ℕ → Option (List ℕ) → Option (Read (List V))
turned n separator item s o = chosen o (λ t. option_and_then (taken n separator item) (item t)) (Some (no_more s))

pub turn : {V : Type 0} (m n : ℕ) (separator : List ℕ → Option (List ℕ)) (item : Reader V) (s : List ℕ) → m ≡ suc n → more_at m separator item s ≡ turned n separator item s (separator s)
unfolding more_at
turn m n separator item s e = ap (λ k. more_at k separator item s) e

pub none_left : {V : Type 0} (m : ℕ) (separator : List ℕ → Option (List ℕ)) (item : Reader V) (s : List ℕ) → m ≡ 0 → more_at m separator item s ≡ Some (no_more s)
unfolding more_at
none_left m separator item s e = ap (λ k. more_at k separator item s) e

pub nothing_more : {V : Type 0} (front : List V) (s : List ℕ) → with_front front (no_more s) ≡ record { value = front; rest = s }
nothing_more {V} front s = ap (λ (vs : List V). let r : Read (List V) = record { value = vs; rest = s } in r) (append-nil front)

pub behind_front : {V : Type 0} (front : List V) (v : V) (more : Read (List V)) → with_front front (with_front (v ∷ []) more) ≡ with_front (front ++ v ∷ []) more
behind_front {V} front v more = ap (λ (vs : List V). let r : Read (List V) = record { value = vs; rest = more.rest } in r) (sym (append_assoc front (v ∷ []) more.value))

-- a list that goes on where all was read
abbrev pub goes_on : {V : Type 0} → ℕ → (List ℕ → Option (List ℕ)) → Reader V → Read (List V) → Option (Read (List V))
goes_on n separator item all = option_map (with_front all.value) (more_at n separator item all.rest)

pub list_none : {V : Type 0} (m : ℕ) (separator : List ℕ → Option (List ℕ)) (item : Reader V) (all : Read (List V)) → m ≡ 0 → goes_on m separator item all ≡ Some all
list_none {V} m separator item all e =
    ap (option_map (with_front all.value)) (none_left m separator item all.rest e) ∙ ap (λ (r : Read (List V)). Some r) (nothing_more all.value all.rest)

pub list_stops : {V : Type 0} (n k : ℕ) (separator : List ℕ → Option (List ℕ)) (item : Reader V) (all : Read (List V)) → k < n → separator all.rest ≡ None → goes_on (n - k) separator item all ≡ Some all
list_stops {V} n k separator item all h e =
    ap (option_map (with_front all.value)) (turn (n - k) (n - (k + 1)) separator item all.rest (omega arith) ∙ ap (turned (n - (k + 1)) separator item all.rest) e)
    ∙ ap (λ (r : Read (List V)). Some r) (nothing_more all.value all.rest)

pub list_fails : {V : Type 0} (n k : ℕ) (separator : List ℕ → Option (List ℕ)) (item : Reader V) (all : Read (List V)) (t : List ℕ) → k < n → separator all.rest ≡ Some t → item t ≡ None →
    goes_on (n - k) separator item all ≡ None
list_fails n k separator item all t h e g =
    ap (option_map (with_front all.value)) (turn (n - k) (n - (k + 1)) separator item all.rest (omega arith) ∙ ap (turned (n - (k + 1)) separator item all.rest) e ∙ ap (option_and_then (taken (n - (k + 1)) separator item)) g)

pub list_takes : {V : Type 0} (n k : ℕ) (separator : List ℕ → Option (List ℕ)) (item : Reader V) (all : Read (List V)) (t : List ℕ) (one : Read V) (longer : Read (List V)) → k < n → separator all.rest ≡ Some t → item t ≡ Some one →
    longer ≡ with_item all one → goes_on (n - k) separator item all ≡ goes_on (n - (k + 1)) separator item longer
list_takes {V} n k separator item all t one longer h e g is =
    ap (option_map (with_front all.value)) (turn (n - k) (n - (k + 1)) separator item all.rest (omega arith) ∙ ap (turned (n - (k + 1)) separator item all.rest) e ∙ ap (option_and_then (taken (n - (k + 1)) separator item)) g)
    ∙ fronts (more_at (n - (k + 1)) separator item one.rest) ∙ ap (goes_on (n - (k + 1)) separator item) (sym is)
  where
    fronts : (o : Option (Read (List V))) → option_map (with_front all.value) (option_map (with_front (one.value ∷ [])) o) ≡ option_map (with_front (all.value ++ one.value ∷ [])) o
    fronts None = refl
    fronts (Some more) = ap (λ (r : Read (List V)). Some r) (behind_front all.value one.value more)
