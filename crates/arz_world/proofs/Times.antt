-- How often a path stands in a list that grew by one.
use Rattle.std.proofs.Common.{◌≡◌, ◌+◌, ℕ, List, [], ◌∷◌, ◌++◌, arith, refl, ap, sum_by, cond}
use Rattle.std.proofs.lemmas.List.Sums.{sum_by-append}
use Rattle.std.proofs.lemmas.Slice.Eq.{bytes_eq-Decides}
use Rattle.std.specs.Str.{bytes_eq}
use Rattle.arz_world.specs.Memory.{times}

more : (f : List ℕ → ℕ) (paths : List (List ℕ)) (p : List ℕ) → sum_by f (paths ++ p ∷ []) ≡ sum_by f paths + f p
more f paths p = rw (sum_by-append f paths (p ∷ [])) (omega arith)

pub times-push : (paths : List (List ℕ)) (path : List ℕ) → times (paths ++ path ∷ []) path ≡ times paths path + 1
times-push paths path =
    let f : List ℕ → ℕ = λ q. cond (bytes_eq q path) 1 0 in
    let one : f path ≡ 1 = ap (λ b. cond b 1 0) ((bytes_eq-Decides path path).1 refl) in
    omega (arith, more f paths path, one)
