-- Numbers are read as the grammar has them.
use Rattle.std.proofs.Common.{◌≡◌, ℕ, ◌+◌, ◌-◌, ◌*◌, ◌≤◌, ◌<◌, ◌==◌, ◌||◌, List, [], ◌∷◌, length, Bool, true, false, cond, ℤ, Option, Some, None, option_map, option_and_then, ◌⊎◌, inl, inr, refl, sym, ap, ap₂, subst, ◌∙◌, arith, nat_le, length-append}
use Rattle.std.proofs.lemmas.Bool.{cases_Bool}
use Rattle.arz_query.specs.Words.{Read, chosen}
use Rattle.arz_query.specs.Lexical.{cut, is_of, is_next, after_byte}
use Rattle.arz_query.specs.Numbers.{Whole, whole_at, whole_of, are_digits, number_from, ranged, index_limit, index_of, index_at, digits_at, after_sign, exponent_of, exponent_at, fraction_at, fraction_of, begins_fraction, literal_limit, literal_of, literal_at}
use Rattle.arz_query.specs.Reading.{begins_int}
use Rattle.arz_query.specs.Grammar.{AreDigits, value_from, IsWhole, plain, minus, IsInt, in_range, past_range, IsSign, plus_sign, minus_sign, no_sign, IsExponent, small_e, large_e, IsFraction, frac, frac_exp, exp, IsNumber, whole_number, past_number, fraction}
use Rattle.arz_query.specs.declared.words.Class.TheVariants as class
use Rattle.arz_query.specs.declared.pieces.Marks.{Marks}
use Rattle.arz_query.proofs.Inverse.{and_then, mapped, chosen_by, cond_by, byte_is, some_is}
use Rattle.arz_query.proofs.Runs.{cut-whole, cut-passes, cut-front}
use Rattle.arz_query.proofs.Tokens.{cut-stops, next_of, next_front, is_byte, no_byte, not_next}

digit_next : (b : Bool) (s : List ℕ) → are_digits b (cut class.Digit s).0 ≡ true → is_next (is_of class.Digit) s ≡ true
digit_next b [] e = cc
digit_next b (x ∷ xs) e =
    elim (cases_Bool (is_of class.Digit x)) [
      | inl h ↦ h
      | inr h ↦ let none : false ≡ true = ap (λ (t : Bool). are_digits b (cond {A = List ℕ × List ℕ} t (x ∷ (cut class.Digit xs).0, (cut class.Digit xs).1) ([], x ∷ xs)).0) (sym h) ∙ e in absurd cc
    ]

digits_to : (s : List ℕ) → is_next (is_of class.Digit) s ≡ true → AreDigits s (cut class.Digit s).1 (cut class.Digit s).0
digits_to s h = record { split = cut-whole class.Digit s; some = next_of class.Digit (is_of class.Digit) s (λ b k. k) h; chars = cut-passes class.Digit s; longest = cut-stops class.Digit s }

digits_from : {s r ds : List ℕ} → AreDigits s r ds → cut class.Digit s ≡ (ds, r)
digits_from {s} {r} {ds} d = ap (cut class.Digit) d.split ∙ cut-front class.Digit ds r d.chars d.longest

digits_begin : {s r ds : List ℕ} → AreDigits s r ds → is_next (is_of class.Digit) s ≡ true
digits_begin {s} {r} {ds} d = ap (is_next (is_of class.Digit)) d.split ∙ next_front (is_of class.Digit) ds r d.some

digits_less : {s r ds : List ℕ} → AreDigits s r ds → length r ≤ length s
digits_less {s} {r} {ds} d = rw d.split (omega (arith, length-append ds r))

-- ---- whole numbers

or_none : (b : Bool) → (b || false) ≡ b
or_none true = refl
or_none false = refl

or_any : (b : Bool) → (b || true) ≡ true
or_any true = refl
or_any false = refl

whole_to : (mz : Bool) (s : List ℕ) (w : Whole) → whole_at mz s ≡ Some w → IsWhole mz s w.rest w.negative w.digits
unfolding whole_at
whole_to mz s w e =
    elim (chosen_by (after_byte 45 s) (λ t. whole_of mz true (cut class.Digit t)) (whole_of mz false (cut class.Digit s)) w e) [
      | inl p ↦
          elim (cond_by (are_digits (mz || false) (cut class.Digit p.0).0) (Some (record { negative = true; digits = (cut class.Digit p.0).0; rest = (cut class.Digit p.0).1 })) None w p.1.1) [
            | inl k ↦
                let h : are_digits mz (cut class.Digit p.0).0 ≡ true = ap (λ b. are_digits b (cut class.Digit p.0).0) (sym (or_none mz)) ∙ k.0 in
                subst (λ x. IsWhole mz x w.rest w.negative w.digits) (sym (byte_is 45 s p.0 p.1.0))
                (subst (λ (o : Whole). IsWhole mz (45 ∷ p.0) o.rest o.negative o.digits) (some_is k.1) (minus (digits_to p.0 (digit_next mz p.0 h)) h))
            | inr k ↦ let none : let o : Option Whole = None in o ≡ Some w = k.1 in absurd cc
          ]
      | inr p ↦
          elim (cond_by (are_digits (mz || true) (cut class.Digit s).0) (Some (record { negative = false; digits = (cut class.Digit s).0; rest = (cut class.Digit s).1 })) None w p.1) [
            | inl k ↦
                let h : are_digits true (cut class.Digit s).0 ≡ true = ap (λ b. are_digits b (cut class.Digit s).0) (sym (or_any mz)) ∙ k.0 in
                subst (λ (o : Whole). IsWhole mz s o.rest o.negative o.digits) (some_is k.1) (plain (digits_to s (digit_next true s h)) h)
            | inr k ↦ let none : let o : Option Whole = None in o ≡ Some w = k.1 in absurd cc
          ]
    ]

whole_from : {mz n : Bool} {s r ds : List ℕ} → IsWhole mz s r n ds → whole_at mz s ≡ Some (record { negative = n; digits = ds; rest = r })
unfolding whole_at
whole_from {mz} (plain {s} {r} {ds} d h) =
    ap (λ c. chosen c (λ t. whole_of mz true (cut class.Digit t)) (whole_of mz false (cut class.Digit s))) (no_byte (is_of class.Digit) 45 s (digits_begin d) refl)
    ∙ ap (whole_of mz false) (digits_from d)
    ∙ ap (λ b. let o : Option Whole = cond (are_digits b ds) (Some (record { negative = false; digits = ds; rest = r })) None in o) (or_any mz)
    ∙ ap (λ b. let o : Option Whole = cond b (Some (record { negative = false; digits = ds; rest = r })) None in o) h
whole_from {mz} (minus {s} {r} {ds} d h) =
    ap (whole_of mz true) (digits_from d)
    ∙ ap (λ b. let o : Option Whole = cond (are_digits b ds) (Some (record { negative = true; digits = ds; rest = r })) None in o) (or_none mz)
    ∙ ap (λ b. let o : Option Whole = cond b (Some (record { negative = true; digits = ds; rest = r })) None in o) h

whole_less : {mz n : Bool} {s r ds : List ℕ} → IsWhole mz s r n ds → length r ≤ length s
whole_less (plain d h) = digits_less d
whole_less (minus d h) = omega (arith, digits_less d)

digit_int : (s : List ℕ) → is_next (is_of class.Digit) s ≡ true → is_next begins_int s ≡ true
digit_int [] e = e
digit_int (x ∷ xs) e = rw e refl

whole_starts : {mz n : Bool} {s r ds : List ℕ} → IsWhole mz s r n ds → is_next begins_int s ≡ true
whole_starts (plain {s} d h) = digit_int s (digits_begin d)
whole_starts (minus d h) = refl

-- ---- values

value_grows : (v : ℕ) (ds : List ℕ) → v ≤ value_from v ds
value_grows v [] = omega arith
value_grows v (d ∷ ds) = omega (arith, value_grows (v * 10 + (d - 48)) ds)

number_is : (limit v : ℕ) (ds : List ℕ) → v ≤ limit → number_from limit v ds ≡ cond (nat_le (value_from v ds) limit) (Some (value_from v ds)) None
number_is limit v [] h = let le : nat_le v limit ≡ true = grind arith in rw le refl
number_is limit v (d ∷ ds) h = go (λ le. number_is limit (v * 10 + (d - 48)) ds le) (nat_le (v * 10 + (d - 48)) limit) refl
  where
    go : (v * 10 + (d - 48) ≤ limit → number_from limit (v * 10 + (d - 48)) ds ≡ cond (nat_le (value_from (v * 10 + (d - 48)) ds) limit) (Some (value_from (v * 10 + (d - 48)) ds)) None) →
        (b : Bool) → nat_le (v * 10 + (d - 48)) limit ≡ b → number_from limit v (d ∷ ds) ≡ cond (nat_le (value_from v (d ∷ ds)) limit) (Some (value_from v (d ∷ ds))) None
    go more true e = let le : v * 10 + (d - 48) ≤ limit = grind (arith, e) in rw e (more le)
    go further false e =
        let more = value_grows (v * 10 + (d - 48)) ds in
        let gt : limit < v * 10 + (d - 48) = grind (arith, e) in
        let no_le : nat_le (value_from (v * 10 + (d - 48)) ds) limit ≡ false = grind (arith, more, gt) in
        rw e (rw no_le refl)

pub int_to : (s : List ℕ) (one : Read ℤ) → index_at s ≡ Some one → IsInt s one.rest one.value one.marks
unfolding index_at
int_to s one e =
    let q = mapped (index_of (length s)) (whole_at false s) one e in
    let w = whole_to false s q.0 q.1.0 in
    let made : ranged (length s) q.0.negative q.0.rest (cond (nat_le (value_from 0 q.0.digits) index_limit) (Some (value_from 0 q.0.digits)) None) ≡ one =
    ap (ranged (length s) q.0.negative q.0.rest) (sym (number_is index_limit 0 q.0.digits (omega arith))) ∙ q.1.1 in
    elim (cases_Bool (nat_le (value_from 0 q.0.digits) index_limit)) [
      | inl h ↦ subst (λ (o : Read ℤ). IsInt s o.rest o.value o.marks) (ap (λ b. ranged (length s) q.0.negative q.0.rest (cond b (Some (value_from 0 q.0.digits)) None)) (sym h) ∙ made) (in_range w h)
      | inr h ↦ subst (λ (o : Read ℤ). IsInt s o.rest o.value o.marks) (ap (λ b. ranged (length s) q.0.negative q.0.rest (cond b (Some (value_from 0 q.0.digits)) None)) (sym h) ∙ made) (past_range w h)
    ]

pub int_from : {s r : List ℕ} {z : ℤ} {m : Marks} → IsInt s r z m → index_at s ≡ Some (record { value = z; marks = m; rest = r })
unfolding index_at
int_from (in_range {s} {r} {ds} {n} w h) =
    ap (option_map (index_of (length s))) (whole_from w)
    ∙ ap (λ o. let p : Option (Read ℤ) = Some (ranged (length s) n r o) in p) (number_is index_limit 0 ds (omega arith) ∙ ap (λ b. cond b (Some (value_from 0 ds)) None) h)
int_from (past_range {s} {r} {ds} {n} w h) =
    ap (option_map (index_of (length s))) (whole_from w)
    ∙ ap (λ o. let p : Option (Read ℤ) = Some (ranged (length s) n r o) in p) (number_is index_limit 0 ds (omega arith) ∙ ap (λ b. cond b (Some (value_from 0 ds)) None) h)

pub int_shorter : (s r : List ℕ) (z : ℤ) (m : Marks) → IsInt s r z m → length r ≤ length s
int_shorter s r z m (in_range w h) = whole_less w
int_shorter s r z m (past_range w h) = whole_less w

pub int_begins : (s r : List ℕ) (z : ℤ) (m : Marks) → IsInt s r z m → is_next begins_int s ≡ true
int_begins s r z m (in_range w h) = whole_starts w
int_begins s r z m (past_range w h) = whole_starts w

-- ---- fractions and exponents

nothing_some : (r : List ℕ) → (let o : Option (List ℕ) = None in o ≡ Some r) → ⊥
nothing_some r e = let none : let o : Option (List ℕ) = None in o ≡ Some r = e in absurd cc

some_digits_to : (s r : List ℕ) → digits_at s ≡ Some r → AreDigits s r (cut class.Digit s).0
some_digits_to s r e =
    elim (cond_by (is_next (is_of class.Digit) s) (Some (cut class.Digit s).1) None r e) [
      | inl p ↦ subst (λ x. AreDigits s x (cut class.Digit s).0) (some_is p.1) (digits_to s p.0)
      | inr p ↦ absurd (nothing_some r p.1)
    ]

some_digits_from : {s r ds : List ℕ} → AreDigits s r ds → digits_at s ≡ Some r
some_digits_from {s} {r} {ds} d = ap (λ b. cond b (Some (cut class.Digit s).1) None) (digits_begin d) ∙ ap (λ (c : List ℕ × List ℕ). Some c.1) (digits_from d)

sign_to : (s : List ℕ) → IsSign s (after_sign s)
sign_to [] = no_sign
sign_to (x ∷ xs) = go (x == 45) refl (x == 43) refl
  where
    go : (a : Bool) → (x == 45) ≡ a → (b : Bool) → (x == 43) ≡ b → IsSign (x ∷ xs) (after_sign (x ∷ xs))
    go true e b f = rw e (rw (is_byte x 45 e) minus_sign)
    go false e true f = rw e (rw f (rw (is_byte x 43 f) plus_sign))
    go false e false f = rw e (rw f no_sign)

sign_from : {s t : List ℕ} → IsSign s t → is_next (is_of class.Digit) t ≡ true → after_sign s ≡ t
sign_from plus_sign h = refl
sign_from minus_sign h = refl
sign_from {s} no_sign h =
    ap (λ c. chosen c (λ t. t) (chosen (after_byte 43 s) (λ t. t) s)) (no_byte (is_of class.Digit) 45 s h refl)
    ∙ ap (λ c. chosen c (λ t. t) s) (no_byte (is_of class.Digit) 43 s h refl)

exponent_from : {s t r ds : List ℕ} → IsSign s t → AreDigits t r ds → exponent_of s ≡ Some r
exponent_from g d = ap digits_at (sign_from g (digits_begin d)) ∙ some_digits_from d

exp_from : {s r : List ℕ} → IsExponent s r → exponent_at s ≡ Some r
exp_from (small_e g d) = exponent_from g d
exp_from (large_e g d) = exponent_from g d

abbrev is_e : ℕ → Bool
is_e b = b == 101 || b == 69

-- an exponent, or nothing where none begins
exponent_to : (s r : List ℕ) → exponent_at s ≡ Some r → IsExponent s r ⊎ ((is_next is_e s ≡ false) × (s ≡ r))
exponent_to [] r e = inr (refl, some_is e)
exponent_to (x ∷ xs) r e = go (x == 101) refl (x == 69) refl
  where
    made : exponent_of xs ≡ Some r → AreDigits (after_sign xs) r (cut class.Digit (after_sign xs)).0
    made k = some_digits_to (after_sign xs) r k

    go : (a : Bool) → (x == 101) ≡ a → (b : Bool) → (x == 69) ≡ b → IsExponent (x ∷ xs) r ⊎ ((is_next is_e (x ∷ xs) ≡ false) × (x ∷ xs ≡ r))
    go true k b f =
        let there : exponent_of xs ≡ Some r = ap (λ (a : Bool). chosen (cond a (Some xs) None) exponent_of (chosen (after_byte 69 (x ∷ xs)) exponent_of (Some (x ∷ xs)))) (sym k) ∙ e in
        inl (subst (λ y. IsExponent (y ∷ xs) r) (sym (is_byte x 101 k)) (small_e (sign_to xs) (made there)))
    go false k true f =
        let there : exponent_of xs ≡ Some r =
        ap₂ (λ (a b : Bool). chosen (cond a (Some xs) None) exponent_of (chosen (cond b (Some xs) None) exponent_of (Some (x ∷ xs)))) (sym k) (sym f) ∙ e in
        inl (subst (λ y. IsExponent (y ∷ xs) r) (sym (is_byte x 69 f)) (large_e (sign_to xs) (made there)))
    go false k false f =
        let there : Some (x ∷ xs) ≡ Some r =
        ap₂ (λ (a b : Bool). chosen (cond a (Some xs) None) exponent_of (chosen (cond b (Some xs) None) exponent_of (Some (x ∷ xs)))) (sym k) (sym f) ∙ e in
        inr (ap₂ (λ a b. a || b) k f, some_is there)

fraction_to : (s r : List ℕ) → is_next begins_fraction s ≡ true → fraction_at s ≡ Some r → IsFraction s r
unfolding fraction_at
fraction_to s r h e =
    let q = and_then exponent_at (chosen (after_byte 46 s) digits_at (Some s)) r e in
    elim (chosen_by (after_byte 46 s) digits_at (Some s) q.0 q.1.0) [
      | inl p ↦
          let d = some_digits_to p.0 q.0 p.1.1 in
          subst (λ x. IsFraction x r) (sym (byte_is 46 s p.0 p.1.0))
          (elim (exponent_to q.0 r q.1.1) [
            | inl k ↦ frac_exp d k
            | inr k ↦ subst (λ x. IsFraction (46 ∷ p.0) x) k.1 (frac d k.0)
          ])
      | inr p ↦
          let there : exponent_at s ≡ Some r = ap exponent_at (some_is p.1) ∙ q.1.1 in
          elim (exponent_to s r there) [
            | inl k ↦ exp k
            | inr k ↦ let none : true ≡ false = sym h ∙ no_begin s p.0 k.0 in absurd cc
          ]
    ]
  where
    no_begin : (s : List ℕ) → after_byte 46 s ≡ None → is_next is_e s ≡ false → is_next begins_fraction s ≡ false
    no_begin [] a b = refl
    no_begin (x ∷ xs) a b = rw (not_next 46 x xs a) b

fraction_from : {s r : List ℕ} → IsFraction s r → fraction_at s ≡ Some r
unfolding fraction_at
fraction_from (frac {s} {r} d h) = ap (option_and_then exponent_at) (some_digits_from d) ∙ no_exponent r h
  where
    no_exponent : (r : List ℕ) → is_next is_e r ≡ false → exponent_at r ≡ Some r
    no_exponent [] h = refl
    no_exponent (x ∷ xs) h = go (x == 101) refl (x == 69) refl
      where
        go : (a : Bool) → (x == 101) ≡ a → (b : Bool) → (x == 69) ≡ b → exponent_at (x ∷ xs) ≡ Some (x ∷ xs)
        go true k b f = let none : true ≡ false = ap (λ a. a || (x == 69)) (sym k) ∙ h in absurd cc
        go false k true f = let none : true ≡ false = ap₂ (λ a b. a || b) (sym k) (sym f) ∙ h in absurd cc
        go false k false f = rw k (rw f refl)
fraction_from (frac_exp d k) = ap (option_and_then exponent_at) (some_digits_from d) ∙ exp_from k
fraction_from (exp (small_e g d)) = exponent_from g d
fraction_from (exp (large_e g d)) = exponent_from g d

fraction_begins : {s r : List ℕ} → IsFraction s r → is_next begins_fraction s ≡ true
fraction_begins (frac d h) = refl
fraction_begins (frac_exp d k) = refl
fraction_begins (exp (small_e g d)) = refl
fraction_begins (exp (large_e g d)) = refl

sign_less : {s r : List ℕ} → IsSign s r → length r ≤ length s
sign_less plus_sign = omega arith
sign_less minus_sign = omega arith
sign_less no_sign = omega arith

exp_less : {s r : List ℕ} → IsExponent s r → length r ≤ length s
exp_less (small_e g d) = omega (arith, sign_less g, digits_less d)
exp_less (large_e g d) = omega (arith, sign_less g, digits_less d)

fraction_less : {s r : List ℕ} → IsFraction s r → length r ≤ length s
fraction_less (frac d h) = omega (arith, digits_less d)
fraction_less (frac_exp d k) = omega (arith, digits_less d, exp_less k)
fraction_less (exp k) = exp_less k

-- ---- literal numbers

pub number_to : (s : List ℕ) (one : Read ℤ) → literal_at s ≡ Some one → IsNumber s one.rest one.value one.marks
unfolding literal_at
number_to s one e =
    let q = and_then (literal_of (length s)) (whole_at true s) one e in
    let w = whole_to true s q.0 q.1.0 in
    let limit = literal_limit q.0.negative in
    let v = value_from 0 q.0.digits in
    elim (cases_Bool (is_next begins_fraction q.0.rest)) [
      | inl h ↦
          let f = mapped (fraction_of (length s)) (fraction_at q.0.rest) one (ap (λ b. cond b (option_map (fraction_of (length s)) (fraction_at q.0.rest)) (Some (ranged (length s) q.0.negative q.0.rest (number_from limit 0 q.0.digits)))) (sym h) ∙ q.1.1) in
          subst (λ (o : Read ℤ). IsNumber s o.rest o.value o.marks) f.1.1 (fraction w (fraction_to q.0.rest f.0 h f.1.0))
      | inr h ↦
          let plain_one : Some (ranged (length s) q.0.negative q.0.rest (number_from limit 0 q.0.digits)) ≡ Some one =
          ap (λ b. cond b (option_map (fraction_of (length s)) (fraction_at q.0.rest)) (Some (ranged (length s) q.0.negative q.0.rest (number_from limit 0 q.0.digits)))) (sym h) ∙ q.1.1 in
          let made : ranged (length s) q.0.negative q.0.rest (cond (nat_le v limit) (Some v) None) ≡ one =
          ap (ranged (length s) q.0.negative q.0.rest) (sym (number_is limit 0 q.0.digits (omega arith))) ∙ some_is plain_one in
          elim (cases_Bool (nat_le v limit)) [
            | inl k ↦ subst (λ (o : Read ℤ). IsNumber s o.rest o.value o.marks) (ap (λ b. ranged (length s) q.0.negative q.0.rest (cond b (Some v) None)) (sym k) ∙ made) (whole_number w h k)
            | inr k ↦ subst (λ (o : Read ℤ). IsNumber s o.rest o.value o.marks) (ap (λ b. ranged (length s) q.0.negative q.0.rest (cond b (Some v) None)) (sym k) ∙ made) (past_number w h k)
          ]
    ]

plain_given : {s r ds : List ℕ} {n : Bool} → IsWhole true s r n ds → is_next begins_fraction r ≡ false → (b : Bool) → nat_le (value_from 0 ds) (literal_limit n) ≡ b →
    literal_at s ≡ Some (ranged (length s) n r (cond b (Some (value_from 0 ds)) None))
unfolding literal_at
plain_given {s} {r} {ds} {n} w h b k =
    ap (option_and_then (literal_of (length s))) (whole_from w)
    ∙ ap (λ c. cond c (option_map (fraction_of (length s)) (fraction_at r)) (Some (ranged (length s) n r (number_from (literal_limit n) 0 ds)))) h
    ∙ ap (λ o. let p : Option (Read ℤ) = Some (ranged (length s) n r o) in p) (number_is (literal_limit n) 0 ds (omega arith) ∙ ap (λ b. cond b (Some (value_from 0 ds)) None) k)

pub number_given : {s r : List ℕ} {z : ℤ} {m : Marks} → IsNumber s r z m → literal_at s ≡ Some (record { value = z; marks = m; rest = r })
unfolding literal_at
number_given (whole_number w h k) = plain_given w h true k
number_given (past_number w h k) = plain_given w h false k
number_given (fraction {s} {t} {r} {ds} {n} w f) =
    ap (option_and_then (literal_of (length s))) (whole_from w)
    ∙ ap (λ c. cond c (option_map (fraction_of (length s)) (fraction_at t)) (Some (ranged (length s) n t (number_from (literal_limit n) 0 ds)))) (fraction_begins f)
    ∙ ap (option_map (fraction_of (length s))) (fraction_from f)

pub number_shorter : (s r : List ℕ) (z : ℤ) (m : Marks) → IsNumber s r z m → length r ≤ length s
number_shorter s r z m (whole_number w h k) = whole_less w
number_shorter s r z m (past_number w h k) = whole_less w
number_shorter s r z m (fraction w f) = omega (arith, whole_less w, fraction_less f)

pub number_begins : (s r : List ℕ) (z : ℤ) (m : Marks) → IsNumber s r z m → is_next begins_int s ≡ true
number_begins s r z m (whole_number w h k) = whole_starts w
number_begins s r z m (past_number w h k) = whole_starts w
number_begins s r z m (fraction w f) = whole_starts w
