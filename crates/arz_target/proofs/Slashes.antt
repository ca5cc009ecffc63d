-- Where the authority of a URL ends, and the `/` at the end of its path.
use Rattle.std.proofs.Common.{◌≡◌, ◌≢◌, inl, inr, ℕ, ◌<◌, ◌-◌, ◌==◌, nat_eq, not, List, [], ◌∷◌, ◌++◌, length, get_or, take, drop, true, codes, refl, ap, sym, ◌∙◌, arith}
use Rattle.std.specs.List.{position_or_len, ends_with}
use Rattle.std.proofs.lemmas.Bool.{ne_eqb, eq-eqb, cases_Bool}
use Rattle.std.proofs.lemmas.Bool.Decides.{Decides-eqb}
use Rattle.std.proofs.lemmas.Grind.{common_steps}
use Rattle.std.proofs.lemmas.List.Folds.{length-prefix_len}
use Rattle.std.proofs.lemmas.List.Sums.{position_or_len_is}
use Rattle.std.proofs.lemmas.Slice.Eq.{ends_is}
use Rattle.std.proofs.Math.Seq.{drop-length, take-length}
use Rattle.arz_target.specs.Urls.{authority_of, path_of, without_slash}

abbrev Before : List ℕ → ℕ → Type 0
Before text at = (i : ℕ) → i < at → get_or text i 0 ≢ 47

-- the first `/`
pub slash-at : (text : List ℕ) (at : ℕ) → at < length text → get_or text at 0 ≡ 47 → Before text at → position_or_len (λ b. b == 47) text ≡ at
slash-at text at lt is before = position_or_len_is (λ b. b == 47) text at 0 (omega arith) (λ i l. ne_eqb (get_or text i 0) 47 (before i l)) (λ l. eq-eqb (get_or text at 0) 47 is)

pub no-slash : (text : List ℕ) → Before text (length text) → position_or_len (λ b. b == 47) text ≡ length text
no-slash text before = position_or_len_is (λ b. b == 47) text (length text) 0 (omega arith) (λ i l. ne_eqb (get_or text i 0) 47 (before i l)) (λ l. absurd (omega arith))

pub authority-at : (text : List ℕ) (at : ℕ) → position_or_len (λ b. b == 47) text ≡ at → take at text ≡ authority_of text
authority-at text at is = ap (λ n. take n text) (sym is)

pub path-at : (text : List ℕ) (at : ℕ) → position_or_len (λ b. b == 47) text ≡ at → drop at text ≡ path_of text
path-at text at is = ap (λ n. drop n text) (sym (length-prefix_len (λ b. not (b == 47)) text ∙ is))

pub authority-all : (text : List ℕ) → Before text (length text) → text ≡ authority_of text
authority-all text before = sym (take-length text) ∙ authority-at text (length text) (no-slash text before)

pub path-none : (text : List ℕ) → Before text (length text) → [] ≡ path_of text
path-none text before = sym (drop-length text) ∙ path-at text (length text) (no-slash text before)

-- ---- the `/` at the end

take-front : (front : List ℕ) → take (length (front ++ 47 ∷ []) - 1) (front ++ 47 ∷ []) ≡ front
take-front front = grind (arith, common_steps)

pub dropped : (path front : List ℕ) → path ≡ front ++ 47 ∷ [] → front ≡ without_slash path
dropped path front is =
    let ends : ends_with nat_eq path (codes "/") ≡ true = (ends_is Decides-eqb path (codes "/") _ refl).1 front is in
    rw ends (sym (ap (λ (p : List ℕ). take (length p - 1) p) is ∙ take-front front))

pub kept : (path : List ℕ) → ((front : List ℕ) → path ≢ front ++ 47 ∷ []) → path ≡ without_slash path
kept path none =
    elim (cases_Bool (ends_with nat_eq path (codes "/"))) [
      | inl e ↦ absurd (none _ ((ends_is Decides-eqb path (codes "/") _ refl).0 e))
      | inr e ↦ rw e refl
    ]
