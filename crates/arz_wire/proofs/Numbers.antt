-- Numbers in LEB128, seven bits at a time.
use Rattle.std.proofs.Common.{◌≡◌, ℕ, zero, suc, ◌+◌, ◌*◌, ◌/◌, ◌%◌, ◌<◌, ◌≤◌, List, [], ◌∷◌, ◌++◌, length, Bool, true, false, cond, refl, sym, ◌∙◌, arith, lt-ltb, append_assoc}
use Rattle.std.specs.Prelude.{nat_lt}
use Rattle.std.proofs.lemmas.Bool.{ltb-true, le-ltb}
use Rattle.arz_wire.specs.Spelling.{number_within, number, counted}

-- what so many bytes more can hold, where the last has one bit
abbrev pub reach : ℕ → ℕ
reach zero = 2
reach (suc k) = 128 * reach k

pub number_within-last : (k n : ℕ) → n < 128 → number_within k n ≡ n ∷ []
unfolding number_within
number_within-last zero n h = refl
number_within-last (suc k) n h = rw (lt-ltb n 128 h)

pub number_within-suc : (k n : ℕ) → 128 ≤ n → number_within (suc k) n ≡ (n % 128 + 128) ∷ number_within k (n / 128)
unfolding number_within
number_within-suc k n h = rw (le-ltb n 128 h)

pub number_within-more : (k n : ℕ) → 128 ≤ n → n < reach k → (l : ℕ) × (n / 128 < reach l) × (number_within k n ≡ (n % 128 + 128) ∷ number_within l (n / 128))
unfolding number_within
number_within-more zero n h less = absurd (omega arith)
number_within-more (suc k) n h less = (k, omega arith, rw (le-ltb n 128 h))

heads : (a b : ℕ) (x y : List ℕ) → a ∷ x ≡ b ∷ y → a ≡ b
heads a b x y e = cc

tails : (a b : ℕ) (x y : List ℕ) → a ∷ x ≡ b ∷ y → x ≡ y
tails a b x y e = cc

same_at : (k n m : ℕ) (x y : List ℕ) (b c : Bool) → nat_lt n 128 ≡ b → nat_lt m 128 ≡ c
    → (number_within k (n / 128) ++ x ≡ number_within k (m / 128) ++ y → (n / 128 ≡ m / 128) × (x ≡ y))
    → cond b (n ∷ []) ((n % 128 + 128) ∷ number_within k (n / 128)) ++ x ≡ cond c (m ∷ []) ((m % 128 + 128) ∷ number_within k (m / 128)) ++ y → (n ≡ m) × (x ≡ y)
same_at k n m x y true true p q more e = (heads _ _ _ _ e, tails _ _ _ _ e)
same_at k n m x y true false p q more e = let h = heads _ _ _ _ e in let less = ltb-true n 128 p in absurd (omega (arith, h, less))
same_at k n m x y false true p q more e = let h = heads _ _ _ _ e in let less = ltb-true m 128 q in absurd (omega (arith, h, less))
same_at k n m x y false false p q more e =
    let h : n % 128 + 128 ≡ m % 128 + 128 = heads _ _ _ _ e in
    let rest = more (tails _ _ _ _ e) in
    (omega (arith, h, rest.0), rest.1)

-- no number begins another one
number_within-same : (k n m : ℕ) (x y : List ℕ) → number_within k n ++ x ≡ number_within k m ++ y → (n ≡ m) × (x ≡ y)
unfolding number_within
number_within-same zero n m x y e = (heads _ _ _ _ e, tails _ _ _ _ e)
number_within-same (suc k) n m x y e = same_at k n m x y (nat_lt n 128) (nat_lt m 128) refl refl (number_within-same k (n / 128) (m / 128) x y) e

pub number-same : (n m : ℕ) (x y : List ℕ) → number n ++ x ≡ number m ++ y → (n ≡ m) × (x ≡ y)
number-same n m x y e = number_within-same 9 n m x y e

pub parts_same : (s t x y : List ℕ) → length s ≡ length t → s ++ x ≡ t ++ y → (s ≡ t) × (x ≡ y)
parts_same [] [] x y l e = (refl, e)
parts_same [] (b ∷ t) x y l e = absurd (omega arith)
parts_same (a ∷ s) [] x y l e = absurd (omega arith)
parts_same (a ∷ s) (b ∷ t) x y l e =
    let rest = parts_same s t x y (omega arith) (tails _ _ _ _ e) in
    (let h : a ≡ b = heads _ _ _ _ e in let g : s ≡ t = rest.0 in cc, rest.1)

pub counted-same : (s t x y : List ℕ) → counted s ++ x ≡ counted t ++ y → (s ≡ t) × (x ≡ y)
counted-same s t x y e =
    let split = number-same (length s) (length t) (s ++ x) (t ++ y) (sym (append_assoc (number (length s)) s x) ∙ e ∙ append_assoc (number (length t)) t y) in
    parts_same s t x y split.0 split.1
