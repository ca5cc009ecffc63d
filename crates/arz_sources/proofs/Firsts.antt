-- The first failure of rules at places that are put together.
use Rattle.std.proofs.Common.{◌≡◌, ℕ, ◌==◌, ◌&&◌, List, [], ◌∷◌, ◌++◌, map, Option, Some, None, option_map, Bool, true, false, cond, refl, sym, ap, ap₂, ◌∙◌, arith}
use Rattle.std.specs.Prelude.{nat_lt}
use Rattle.std.specs.List.{list_all}
use Rattle.std.specs.Ordering.{is_gt}
use Rattle.std.proofs.lemmas.Bool.Decides.{nat_tests}
use Rattle.arz_json.specs.declared.place.Token.{Token}
use Rattle.arz_rules.specs.Place.{tokens_cmp, least, lesser as lesser_place, under}
use Rattle.arz_rules.specs.Phases.{Failure, failure_or, first_failure}
use Rattle.arz_rules.proofs.Places.{least-append, least-under}
use Rattle.arz_sources.specs.Failures.{numbers, first_of, placed, lesser_of, lesser_failure, under_failure}

-- of rules with these numbers
abbrev pub first_at : List ℕ → (ℕ → List (List Token)) → Option Failure
first_at ns f = first_failure (map (λ n. (n, f n)) ns)

-- the rule of a failure is above a number
abbrev is_above : ℕ → Option Failure → Bool
is_above n None = true
is_above n (Some f) = nat_lt n f.0

and_first : (a b : Bool) → (a && b) ≡ true → a ≡ true
and_first true b h = refl
and_first false b h = h

and_rest : (a b : Bool) → (a && b) ≡ true → b ≡ true
and_rest true b h = h
and_rest false b h = absurd (cc)

above_or : (n m : ℕ) (o : Option (List Token)) (F : Option Failure) → nat_lt n m ≡ true → is_above n F ≡ true → is_above n (failure_or m o F) ≡ true
above_or n m None F h k = k
above_or n m (Some p) F h k = h

first_above : (n : ℕ) (ns : List ℕ) (f : ℕ → List (List Token)) → list_all (nat_lt n) ns ≡ true → is_above n (first_at ns f) ≡ true
first_above n [] f h = refl
first_above n (m ∷ ns) f h = above_or n m (least (f m)) (first_at ns f) (and_first (nat_lt n m) (list_all (nat_lt n) ns) h) (first_above n ns f (and_rest (nat_lt n m) (list_all (nat_lt n) ns) h))

abbrev are_ascending : List ℕ → Bool
are_ascending [] = true
are_ascending (n ∷ ns) = list_all (nat_lt n) ns && are_ascending ns

-- ---- places that stand behind others

itself : (n : ℕ) → (n == n) ≡ true
itself n = grind (arith, nat_tests)

other : (n m : ℕ) → nat_lt n m ≡ true → (n == m) ≡ false
other n m h = grind (arith, nat_tests)

other_way : (n m : ℕ) → nat_lt n m ≡ true → (m == n) ≡ false
other_way n m h = grind (arith, nat_tests)

not_below : (n m : ℕ) → nat_lt n m ≡ true → nat_lt m n ≡ false
not_below n m h = grind (arith, nat_tests)

left_is_first : (n : ℕ) (p : List Token) (g : Failure) → nat_lt n g.0 ≡ true → lesser_of (n, p) g ≡ Some (n, p)
left_is_first n p g h =
    ap (λ b. cond b (placed n (lesser_place (Some p) (Some g.1))) (cond (nat_lt g.0 n) (Some g) (Some (n, p)))) (other n g.0 h)
    ∙ ap (λ b. cond b (Some g) (Some (n, p))) (not_below n g.0 h)

right_is_first : (n : ℕ) (p : List Token) (f : Failure) → nat_lt n f.0 ≡ true → lesser_of f (n, p) ≡ Some (n, p)
right_is_first n p f h =
    ap (λ b. cond b (placed f.0 (lesser_place (Some f.1) (Some p))) (cond (nat_lt n f.0) (Some (n, p)) (Some f))) (other_way n f.0 h)
    ∙ ap (λ b. cond b (Some (n, p)) (Some f)) h

choice : (n : ℕ) (p q : List Token) (b : Bool) (F : Option Failure) → failure_or n (cond b (Some q) (Some p)) F ≡ placed n (cond b (Some q) (Some p))
choice n p q true F = refl
choice n p q false F = refl

same_number : (n : ℕ) (p q : List Token) → lesser_of (n, p) (n, q) ≡ placed n (lesser_place (Some p) (Some q))
same_number n p q = ap (λ b. cond b (placed n (lesser_place (Some p) (Some q))) (cond (nat_lt n n) (Some (n, q)) (Some (n, p)))) (itself n)

one_rule : (n : ℕ) (o q : Option (List Token)) (F G : Option Failure) → is_above n F ≡ true → is_above n G ≡ true
    → failure_or n (lesser_place o q) (lesser_failure F G) ≡ lesser_failure (failure_or n o F) (failure_or n q G)
one_rule n None None F G a b = refl
one_rule n None (Some q) None G a b = refl
one_rule n None (Some q) (Some f) G a b = sym (right_is_first n q f a)
one_rule n (Some p) None F None a b = refl
one_rule n (Some p) None F (Some g) a b = sym (left_is_first n p g b)
one_rule n (Some p) (Some q) F G a b = choice n p q (is_gt (tokens_cmp p q)) (lesser_failure F G) ∙ sym (same_number n p q)

joined_at : (ns : List ℕ) (f g : ℕ → List (List Token)) → are_ascending ns ≡ true → first_at ns (λ n. f n ++ g n) ≡ lesser_failure (first_at ns f) (first_at ns g)
joined_at [] f g h = refl
joined_at (n ∷ ns) f g h =
    let all : list_all (nat_lt n) ns ≡ true = and_first (list_all (nat_lt n) ns) (are_ascending ns) h in
    ap₂ (failure_or n) (least-append (f n) (g n)) (joined_at ns f g (and_rest (list_all (nat_lt n) ns) (are_ascending ns) h))
    ∙ one_rule n (least (f n)) (least (g n)) (first_at ns f) (first_at ns g) (first_above n ns f all) (first_above n ns g all)

pub first-joined : (f g : ℕ → List (List Token)) → first_of (λ n. f n ++ g n) ≡ lesser_failure (first_of f) (first_of g)
unfolding first_of
first-joined f g = joined_at numbers f g refl

-- ---- the same places, below a step

one_below : (t : Token) (n : ℕ) (o : Option (List Token)) (F : Option Failure) → failure_or n (option_map (λ p. t ∷ p) o) (under_failure t F) ≡ under_failure t (failure_or n o F)
one_below t n None F = refl
one_below t n (Some p) F = refl

below_at : (t : Token) (ns : List ℕ) (f : ℕ → List (List Token)) → first_at ns (λ n. under t (f n)) ≡ under_failure t (first_at ns f)
below_at t [] f = refl
below_at t (n ∷ ns) f = ap₂ (failure_or n) (least-under t (f n)) (below_at t ns f) ∙ one_below t n (least (f n)) (first_at ns f)

pub first-under : (t : Token) (f : ℕ → List (List Token)) → first_of (λ n. under t (f n)) ≡ under_failure t (first_of f)
unfolding first_of
first-under t f = below_at t numbers f

-- ---- no places

pub first-none : first_of (λ n. []) ≡ None
unfolding first_of
first-none = refl
