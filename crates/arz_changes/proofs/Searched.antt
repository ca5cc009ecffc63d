-- A search among members in the order of their names.
use Rattle.std.proofs.Common.{◌≡◌, inl, inr, ℕ, zero, suc, ◌<◌, List, [], ◌∷◌, map, length, get_or, Bool, true, false, ◌&&◌, cond, Option, Some, None, option_map, Result, Ok, Err, refl, sym, ap, ◌∙◌, arith, add-one}
use Rattle.std.specs.declared.cmp.Ordering.{Ordering}
use Rattle.std.specs.declared.cmp.Ordering.TheVariants.{Less, Equal, Greater}
use Rattle.std.specs.Result.{result_ok}
use Rattle.std.specs.Ordering.{nat_cmp, is_lt, is_eq, ordering_reverse, ordering_index}
use Rattle.std.specs.Cmp.Lexicographic.{slice_cmp}
use Rattle.std.specs.List.Sorted.{IsBinarySearchResult, IsSearchInRange, IsNonDecreasingBy}
use Rattle.std.specs.Str.{bytes_eq}
use Rattle.std.proofs.lemmas.Cmp.{nat_list_cmp_total}
use Rattle.std.proofs.lemmas.List.Sorted.{searchable_from_sorted}
use Rattle.std.proofs.lemmas.Bool.{cases_lt}
use Rattle.std.proofs.lemmas.Map.Lookups.{exact_bytes}
use Rattle.std.proofs.lemmas.Map.Text.{is_eq-slice_cmp}
use Rattle.arz_json.specs.Tree.{are_ordered, is_below_first, has_form}
use Rattle.arz_json.specs.Put.{place_of}
use Rattle.arz_json.specs.declared.tree.Member.{Member}

abbrev pub form_of : Member → List ℕ × Bool
form_of m = (m.name, has_form m.value)

abbrev pub by_name : List ℕ → Member → Ordering
by_name name m = slice_cmp nat_cmp m.name name

-- where no name is the one that is looked for
absent_at : (b : Bool) (o : Option ℕ) → b ≡ false → o ≡ None → cond b (Some 0) (option_map (λ i. suc i) o) ≡ None
absent_at b o e h = rw (e, h) refl

unequal : (o : Ordering) → (o ≡ Equal → ⊥) → is_eq o ≡ false
unequal Less h = refl
unequal Equal h = absurd (h refl)
unequal Greater h = refl

pub absent : (ms : List Member) (name : List ℕ) → ((k : ℕ) (d : Member) → k < length ms → by_name name (get_or ms k d) ≡ Equal → ⊥) → place_of ms name ≡ None
absent [] name h = refl
absent (m ∷ ms) name h =
    absent_at (bytes_eq m.name name) (place_of ms name) (sym (is_eq-slice_cmp m.name name) ∙ unequal (by_name name m) (h 0 m (omega arith)))
    (absent ms name (λ k d less. h (suc k) d (omega arith)))

-- ---- where one is found

is_below_first-head : (k : List ℕ) (ms : List Member) → is_below_first k (map form_of ms) ≡ true → (d : Member) → 0 < length ms → is_lt (slice_cmp nat_cmp k (get_or ms 0 d).name) ≡ true
is_below_first-head k [] e d h = absurd (omega arith)
is_below_first-head k (m ∷ ms) e d h = e

left : (a b : Bool) → (a && b) ≡ true → a ≡ true
left true b p = refl
left false b p = p

right : (a b : Bool) → (a && b) ≡ true → b ≡ true
right true b p = p
right false b p = absurd (cc)

not_lt_back : (o p : Ordering) → o ≡ ordering_reverse p → is_lt p ≡ true → is_lt o ≡ false
not_lt_back o Less e h = ap is_lt e
not_lt_back o Equal e h = absurd (cc)
not_lt_back o Greater e h = absurd (cc)

adjacent : (ms : List Member) → are_ordered (map form_of ms) ≡ true → (k : ℕ) (d : Member) → suc k < length ms
    → is_lt (slice_cmp nat_cmp (get_or ms (suc k) d).name (get_or ms k d).name) ≡ false
adjacent [] e k d h = absurd (omega arith)
adjacent (m ∷ ms) e zero d h =
    not_lt_back _ _ (nat_list_cmp_total.antisymm (get_or ms 0 d).name m.name) (is_below_first-head m.name ms (left _ _ e) d (omega arith))
adjacent (m ∷ ms) e (suc k) d h = adjacent ms (right _ _ e) k d (omega arith)

pub rising : (ms : List Member) (name : List ℕ) → are_ordered (map form_of ms) ≡ true → IsNonDecreasingBy (λ m. ordering_index (by_name name m)) ms
rising ms name e = searchable_from_sorted nat_list_cmp_total (λ m. m.name) ms name (λ k d low high. rw add-one (adjacent ms e k d (omega arith)))

-- no name stands before the one that is found
pub equal : (o : Ordering) → is_eq o ≡ true → o ≡ Equal
equal Less e = absurd (cc)
equal Equal e = refl
equal Greater e = absurd (cc)

less_is_other : (o : Ordering) → is_lt o ≡ true → is_eq o ≡ false
less_is_other Less e = refl
less_is_other Equal e = absurd (cc)
less_is_other Greater e = absurd (cc)

less : (o : Ordering) → is_lt o ≡ true → o ≡ Less
less Less e = refl
less Equal e = absurd (cc)
less Greater e = absurd (cc)

-- a first name is less than each later one
pub below_later : (k : List ℕ) (ms : List Member) → is_below_first k (map form_of ms) ≡ true → are_ordered (map form_of ms) ≡ true → (i : ℕ) (d : Member) → i < length ms
    → slice_cmp nat_cmp k (get_or ms i d).name ≡ Less
below_later k [] e f i d h = absurd (omega arith)
below_later k (m ∷ ms) e f zero d h = less _ e
below_later k (m ∷ ms) e f (suc i) d h =
    nat_list_cmp_total.trans k m.name (get_or ms i d).name (less _ e) (below_later m.name ms (left _ _ f) (right _ _ f) i d (omega arith))

found_at : (b : Bool) (o : Option ℕ) (i : ℕ) → b ≡ false → o ≡ Some i → cond b (Some 0) (option_map (λ k. suc k) o) ≡ Some (suc i)
found_at b o i e h = rw (e, h) refl

pub present : (ms : List Member) (name : List ℕ) (i : ℕ) (d : Member) → are_ordered (map form_of ms) ≡ true → i < length ms → by_name name (get_or ms i d) ≡ Equal → place_of ms name ≡ Some i
present [] name i d o h e = absurd (omega arith)
present (m ∷ ms) name zero d o h e = let same : bytes_eq m.name name ≡ true = sym (is_eq-slice_cmp m.name name) ∙ ap is_eq e in rw same refl
present (m ∷ ms) name (suc i) d o h e =
    let there : slice_cmp nat_cmp m.name (get_or ms i d).name ≡ Less = below_later m.name ms (left _ _ o) (right _ _ o) i d (omega arith) in
    let is : (get_or ms i d).name ≡ name = exact_bytes _ _ e in
    let other : bytes_eq m.name name ≡ false = sym (is_eq-slice_cmp m.name name) ∙ ap is_eq (ap (slice_cmp nat_cmp m.name) (sym is) ∙ there) in
    found_at (bytes_eq m.name name) (place_of ms name) i other (present ms name i d (right _ _ o) (omega arith) e)

not_less : (o : Ordering) → o ≡ Less → o ≡ Equal → ⊥
not_less o e h = absurd (cc)

not_greater : (o : Ordering) → o ≡ Greater → o ≡ Equal → ⊥
not_greater o e h = absurd (cc)

pub searched : (ms : List Member) (name : List ℕ) (r : Result ℕ ℕ) → are_ordered (map form_of ms) ≡ true → IsSearchInRange r (length ms) → IsBinarySearchResult (by_name name) ms r
    → result_ok r ≡ place_of ms name
searched [] name (Ok i) o bound h = absurd (omega arith)
searched (m ∷ ms) name (Ok i) o bound h = sym (present (m ∷ ms) name i m o bound (h m))
searched ms name (Err i) o bound h =
    let parts = h (rising ms name o) in
    sym (absent ms name (λ k d within. elim (cases_lt k i) [ inl low ↦ not_less _ (parts.0 k d (omega arith) low) | inr high ↦ not_greater _ (parts.1 k d high within) ]))
