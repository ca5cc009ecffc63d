-- Reading a list, an item at a time.
use Rattle.std.proofs.Common.{◌≡◌, ℕ, suc, ◌<◌, ◌+◌, ◌-◌, List, [], ◌∷◌, ◌++◌, ◌&&◌, Bool, true, false, Option, Some, None, option_map, option_and_then, refl, sym, ap, ap₂, ◌∙◌, append_assoc, append-nil, arith, nat_lt, cond}
use Rattle.arz_query.specs.Words.{Read, Reader, first_flaw, fine, joined, chosen, with_front, with_item, no_more, more_at}
use Rattle.arz_query.specs.Reading.{expr_at, any_of}
use Rattle.arz_query.specs.declared.pieces.Flaw.{Flaw}
use Rattle.arz_query.specs.declared.pieces.Marks.{Marks}

-- ---- room

pub no_room : (n : ℕ) (s : List ℕ) → n ≡ 0 → expr_at n s ≡ None
unfolding expr_at
no_room n s e = ap (λ m. expr_at m s) e

room_of : (n m : ℕ) (s : List ℕ) → n ≡ suc m → expr_at n s ≡ any_of (expr_at m) s
unfolding expr_at
room_of n m s e = ap (λ k. expr_at k s) e

pub some_room : (n : ℕ) (s : List ℕ) → 0 < n → expr_at n s ≡ any_of (expr_at (n - 1)) s
some_room n s h = room_of n (n - 1) s (omega arith)

-- ---- marks

three : (x y z : Flaw) → first_flaw (Some x) (first_flaw (Some y) (Some z)) ≡ first_flaw (first_flaw (Some x) (Some y)) (Some z)
three x y z = go (nat_lt x.left y.left) refl (nat_lt y.left z.left) refl (nat_lt x.left z.left) refl
  where
    go : (a : Bool) → nat_lt x.left y.left ≡ a → (b : Bool) → nat_lt y.left z.left ≡ b → (c : Bool) → nat_lt x.left z.left ≡ c →
        first_flaw (Some x) (first_flaw (Some y) (Some z)) ≡ first_flaw (first_flaw (Some x) (Some y)) (Some z)
    go true p true q true r = simp (p, q, r) refl
    go true p true q false r = let no_such : true ≡ false = grind (arith, p, q, r) in absurd cc
    go true p false q c r = simp (p, q) refl
    go false p true q c r = simp (p, q) refl
    go false p false q true r = let no_such : true ≡ false = grind (arith, p, q, r) in absurd cc
    go false p false q false r = simp (p, q, r) refl

pub joined-assoc : (a b c : Marks) → joined a (joined b c) ≡ joined (joined a b) c
joined-assoc a b c = ap₂ (λ (f : Option Flaw) (s : Bool). let m : Marks = record { flaw = f; single = s } in m) (flaws a.flaw b.flaw c.flaw) (singles a.single b.single c.single)
  where
    flaws : (a b c : Option Flaw) → first_flaw a (first_flaw b c) ≡ first_flaw (first_flaw a b) c
    flaws None b c = refl
    flaws (Some x) None c = refl
    flaws (Some x) (Some y) None = sides (nat_lt x.left y.left)
      where
        sides : (t : Bool) → cond t (Some y) (Some x) ≡ first_flaw (cond t (Some y) (Some x)) None
        sides true = refl
        sides false = refl
    flaws (Some x) (Some y) (Some z) = three x y z

    singles : (a b c : Bool) → (a && (b && c)) ≡ ((a && b) && c)
    singles true b c = refl
    singles false b c = refl

pub joined-fine : (a : Marks) → joined a fine ≡ a
joined-fine a = ap₂ (λ (f : Option Flaw) (s : Bool). let m : Marks = record { flaw = f; single = s } in m) (flaws a.flaw) (singles a.single)
  where
    flaws : (a : Option Flaw) → first_flaw a None ≡ a
    flaws None = refl
    flaws (Some x) = refl

    singles : (a : Bool) → (a && true) ≡ a
    singles true = refl
    singles false = refl

-- ---- lists

abbrev pub taken : {V : Type 0} → ℕ → (List ℕ → Option (List ℕ)) → Reader V → Read V → Option (Read (List V))
taken n separator item one = option_map (with_front (one.value ∷ []) one.marks) (more_at n separator item one.rest)

abbrev pub turned : {V : Type 0} → ℕ → (List ℕ → Option (List ℕ)) → Reader V → List ℕ → Option (List ℕ) → Option (Read (List V))
turned n separator item s o = chosen o (λ t. option_and_then (taken n separator item) (item t)) (Some (no_more s))

pub turn : {V : Type 0} (m n : ℕ) (separator : List ℕ → Option (List ℕ)) (item : Reader V) (s : List ℕ) → m ≡ suc n → more_at m separator item s ≡ turned n separator item s (separator s)
unfolding more_at
turn m n separator item s e = ap (λ k. more_at k separator item s) e

pub none_left : {V : Type 0} (m : ℕ) (separator : List ℕ → Option (List ℕ)) (item : Reader V) (s : List ℕ) → m ≡ 0 → more_at m separator item s ≡ Some (no_more s)
unfolding more_at
none_left m separator item s e = ap (λ k. more_at k separator item s) e

pub nothing_more : {V : Type 0} (front : List V) (marks : Marks) (s : List ℕ) → with_front front marks (no_more s) ≡ record { value = front; marks = marks; rest = s }
nothing_more {V} front marks s = ap₂ (λ (vs : List V) (m : Marks). let r : Read (List V) = record { value = vs; marks = m; rest = s } in r) (append-nil front) (joined-fine marks)

pub behind_front : {V : Type 0} (front : List V) (marks : Marks) (v : V) (other : Marks) (more : Read (List V)) →
    with_front front marks (with_front (v ∷ []) other more) ≡ with_front (front ++ v ∷ []) (joined marks other) more
behind_front {V} front marks v other more = ap₂ (λ (vs : List V) (m : Marks). let r : Read (List V) = record { value = vs; marks = m; rest = more.rest } in r) (sym (append_assoc front (v ∷ []) more.value)) (joined-assoc marks other more.marks)

-- f of a list that goes on where all was read
abbrev pub goes_on : {V W : Type 0} → (Read (List V) → W) → ℕ → (List ℕ → Option (List ℕ)) → Reader V → Read (List V) → Option W
goes_on f n separator item all = option_map (λ more. f (with_front all.value all.marks more)) (more_at n separator item all.rest)

pub list_none : {V W : Type 0} (f : Read (List V) → W) (m : ℕ) (separator : List ℕ → Option (List ℕ)) (item : Reader V) (all : Read (List V)) → m ≡ 0 →
    goes_on f m separator item all ≡ Some (f all)
list_none {V} {W} f m separator item all e =
    ap (option_map (λ more. f (with_front all.value all.marks more))) (none_left m separator item all.rest e) ∙ ap (λ (r : Read (List V)). Some (f r)) (nothing_more all.value all.marks all.rest)

pub list_stops : {V W : Type 0} (f : Read (List V) → W) (n k : ℕ) (separator : List ℕ → Option (List ℕ)) (item : Reader V) (all : Read (List V)) → k < n → separator all.rest ≡ None →
    goes_on f (n - k) separator item all ≡ Some (f all)
list_stops {V} {W} f n k separator item all h e =
    ap (option_map (λ more. f (with_front all.value all.marks more))) (turn (n - k) (n - (k + 1)) separator item all.rest (omega arith) ∙ ap (turned (n - (k + 1)) separator item all.rest) e)
    ∙ ap (λ (r : Read (List V)). Some (f r)) (nothing_more all.value all.marks all.rest)

pub list_fails : {V W : Type 0} (f : Read (List V) → W) (n k : ℕ) (separator : List ℕ → Option (List ℕ)) (item : Reader V) (all : Read (List V)) (t : List ℕ) → k < n → separator all.rest ≡ Some t → item t ≡ None →
    goes_on f (n - k) separator item all ≡ None
list_fails f n k separator item all t h e g =
    ap (option_map (λ more. f (with_front all.value all.marks more))) (turn (n - k) (n - (k + 1)) separator item all.rest (omega arith) ∙ ap (turned (n - (k + 1)) separator item all.rest) e ∙ ap (option_and_then (taken (n - (k + 1)) separator item)) g)

pub list_takes : {V W : Type 0} (f : Read (List V) → W) (n k : ℕ) (separator : List ℕ → Option (List ℕ)) (item : Reader V) (all : Read (List V)) (t : List ℕ) (one : Read V) (longer : Read (List V)) → k < n → separator all.rest ≡ Some t → item t ≡ Some one →
    longer ≡ with_item all one → goes_on f (n - k) separator item all ≡ goes_on f (n - (k + 1)) separator item longer
list_takes {V} {W} f n k separator item all t one longer h e g is =
    ap (option_map (λ more. f (with_front all.value all.marks more))) (turn (n - k) (n - (k + 1)) separator item all.rest (omega arith) ∙ ap (turned (n - (k + 1)) separator item all.rest) e ∙ ap (option_and_then (taken (n - (k + 1)) separator item)) g)
    ∙ fronts (more_at (n - (k + 1)) separator item one.rest) ∙ ap (goes_on f (n - (k + 1)) separator item) (sym is)
  where
    fronts : (o : Option (Read (List V))) → option_map (λ more. f (with_front all.value all.marks more)) (option_map (with_front (one.value ∷ []) one.marks) o)
        ≡ option_map (λ more. f (with_front (all.value ++ one.value ∷ []) (joined all.marks one.marks) more)) o
    fronts None = refl
    fronts (Some more) = ap (λ (r : Read (List V)). Some (f r)) (behind_front all.value all.marks one.value one.marks more)
