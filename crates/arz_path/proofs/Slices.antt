-- The range in which a slice takes items.
use Rattle.std.proofs.Common.{◌≡◌, ℕ, zero, suc, ◌+◌, ◌<◌, ◌≤◌, Bool, true, false, cond, ℤ, pos, negsuc, List, [], ◌∷◌, length, drop, refl, sym, ap, ◌∙◌, arith, add-zero, zero-add}
use Rattle.std.specs.Prelude.{filter}
use Rattle.std.specs.List.{enumerate_from}
use Rattle.std.proofs.lemmas.Grind.{common_steps}
use Rattle.arz_json.specs.declared.tree.Json.{Json}
use Rattle.arz_query.specs.declared.query.Slice.{Slice}
use Rattle.arz_path.specs.Selected.{is_taken}
use Rattle.arz_path.specs.Seen.{lowest, highest, taken_from}

before : (s : Slice) (n : ℕ) (z : ℤ) (i : ℕ) → i < lowest s n z → is_taken s n z i ≡ false
before s n (pos step) i h = grind (arith, common_steps)
before s n (negsuc k) i h = grind (arith, common_steps)

after : (s : Slice) (n : ℕ) (z : ℤ) (i : ℕ) → highest s n z ≤ i → is_taken s n z i ≡ false
after s n (pos step) i h = grind (arith, common_steps)
after s n (negsuc k) i h = grind (arith, common_steps)

skipped : (p : ℕ → Bool) (k m : ℕ) (js : List Json) → ((i : ℕ) → i < k + m → p i ≡ false) →
    filter (λ q. p q.0) (enumerate_from k js) ≡ filter (λ q. p q.0) (enumerate_from (k + m) (drop m js))
skipped p k zero js f = ap (λ n. filter (λ q. p q.0) (enumerate_from n js)) (sym (add-zero k))
skipped p k (suc m) [] f = refl
skipped p k (suc m) (j ∷ js) f =
    let here : p k ≡ false = f k (omega arith) in
    let next : k + 1 + m ≡ k + suc m = omega arith in
    ap (λ b. cond b ((k, j) ∷ filter (λ q. p q.0) (enumerate_from (k + 1) js)) (filter (λ q. p q.0) (enumerate_from (k + 1) js))) here
    ∙ skipped p (k + 1) m js (λ i h. f i (omega (arith, h)))
    ∙ ap (λ n. filter (λ q. p q.0) (enumerate_from n (drop m js))) next

ended : (p : ℕ → Bool) (k : ℕ) (js : List Json) → ((i : ℕ) → k ≤ i → p i ≡ false) → filter (λ q. p q.0) (enumerate_from k js) ≡ []
ended p k [] f = refl
ended p k (j ∷ js) f =
    ap (λ b. cond b ((k, j) ∷ filter (λ q. p q.0) (enumerate_from (k + 1) js)) (filter (λ q. p q.0) (enumerate_from (k + 1) js))) (f k (omega arith))
    ∙ ended p (k + 1) js (λ i h. f i (omega (arith, h)))

pub from_lowest : (s : Slice) (n : ℕ) (js : List Json) → taken_from s n 0 js ≡ taken_from s n (lowest s n s.step) (drop (lowest s n s.step) js)
unfolding taken_from
from_lowest s n js = skipped (is_taken s n s.step) 0 (lowest s n s.step) js (λ i h. before s n s.step i (omega (arith, h)))
    ∙ ap (λ k. filter (λ (q : ℕ × Json). is_taken s n s.step q.0) (enumerate_from k (drop (lowest s n s.step) js))) (zero-add (lowest s n s.step))

pub to_highest : (s : Slice) (n k : ℕ) (js : List Json) → highest s n s.step ≤ k → taken_from s n k js ≡ []
unfolding taken_from
to_highest s n k js h = ended (is_taken s n s.step) k js (λ i g. after s n s.step i (omega (arith, h, g)))

pub taken_yes : (s : Slice) (n k : ℕ) (j : Json) (js : List Json) → is_taken s n s.step k ≡ true → taken_from s n k (j ∷ js) ≡ (k, j) ∷ taken_from s n (k + 1) js
unfolding taken_from
taken_yes s n k j js h = ap (λ b. cond b ((k, j) ∷ filter (λ (q : ℕ × Json). is_taken s n s.step q.0) (enumerate_from (k + 1) js)) (filter (λ (q : ℕ × Json). is_taken s n s.step q.0) (enumerate_from (k + 1) js))) h

pub taken_no : (s : Slice) (n k : ℕ) (j : Json) (js : List Json) → is_taken s n s.step k ≡ false → taken_from s n k (j ∷ js) ≡ taken_from s n (k + 1) js
unfolding taken_from
taken_no s n k j js h = ap (λ b. cond b ((k, j) ∷ filter (λ (q : ℕ × Json). is_taken s n s.step q.0) (enumerate_from (k + 1) js)) (filter (λ (q : ℕ × Json). is_taken s n s.step q.0) (enumerate_from (k + 1) js))) h

pub taken_all : (s : Slice) (js : List Json) → taken_from s (length js) 0 js ≡ filter (λ p. is_taken s (length js) s.step p.0) (enumerate_from 0 js)
unfolding taken_from
taken_all s js = refl
