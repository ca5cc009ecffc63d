-- The texts of pieces, joined.
use Rattle.std.proofs.Common.{◌≡◌, ℕ, List, [], ◌∷◌, ◌++◌, map, Option, Result, Ok, Err, refl, ap, sym, ◌∙◌, append_assoc, append-nil}
use Rattle.std.specs.List.{concat}
use Rattle.arz_json.specs.Answer.{◌>>=◌}
use Rattle.arz_json.specs.declared.tree.Json.{Json}
use Rattle.arz_expr.specs.Filling.{Fault, Piece, Byte, mapped, all_of, pieces, text_of_piece, joined, mixed}
use Rattle.arz_expr.specs.declared.syntax.Base.{Base}

mapped-mapped : (xs ys : List ℕ) (r : Result (List ℕ) Fault) → mapped (λ t. xs ++ t) (mapped (λ t. ys ++ t) r) ≡ mapped (λ t. (xs ++ ys) ++ t) r
mapped-mapped xs ys (Ok t) = ap Ok (sym (append_assoc xs ys t))
mapped-mapped xs ys (Err f) = refl

mapped-none : (r : Result (List ℕ) Fault) → mapped (λ t. [] ++ t) r ≡ r
mapped-none (Ok t) = refl
mapped-none (Err f) = refl

cons : (r : Result (List ℕ) Fault) (rs : Result (List (List ℕ)) Fault)
    → mapped concat (r >>= (λ a. mapped (λ others. a ∷ others) rs)) ≡ (r >>= (λ t. mapped (λ u. t ++ u) (mapped concat rs)))
cons (Ok t) (Ok ts) = refl
cons (Ok t) (Err f) = refl
cons (Err f) rs = refl

joined-cons : (found : Base → Option Json) (p : Piece) (ps : List Piece) → joined found (p ∷ ps) ≡ (text_of_piece found p >>= (λ t. mapped (λ u. t ++ u) (joined found ps)))
unfolding joined
joined-cons found p ps = cons (text_of_piece found p) (all_of (map (text_of_piece found) ps))

joined-nil : (found : Base → Option Json) → joined found [] ≡ Ok []
unfolding joined
joined-nil found = refl

through : (r s t : Result (List ℕ) Fault)
    → (r >>= (λ a. mapped (λ u. a ++ u) (s >>= (λ b. mapped (λ u. b ++ u) t)))) ≡ ((r >>= (λ a. mapped (λ u. a ++ u) s)) >>= (λ b. mapped (λ u. b ++ u) t))
through (Ok a) (Ok b) t = mapped-mapped a b t
through (Ok a) (Err f) t = refl
through (Err f) s t = refl

pub joined-append : (found : Base → Option Json) (ps qs : List Piece) → joined found (ps ++ qs) ≡ (joined found ps >>= (λ t. mapped (λ u. t ++ u) (joined found qs)))
joined-append found [] qs = sym (ap (λ (r : Result (List ℕ) Fault). r >>= (λ t. mapped (λ u. t ++ u) (joined found qs))) (joined-nil found) ∙ mapped-none (joined found qs))
joined-append found (p ∷ ps) qs =
    joined-cons found p (ps ++ qs)
    ∙ ap (λ (r : Result (List ℕ) Fault). (text_of_piece found p >>= (λ t. mapped (λ u. t ++ u) r))) (joined-append found ps qs)
    ∙ through (text_of_piece found p) (joined found ps) (joined found qs)
    ∙ ap (λ (r : Result (List ℕ) Fault). r >>= (λ t. mapped (λ u. t ++ u) (joined found qs))) (sym (joined-cons found p ps))

pub joined-bytes : (found : Base → Option Json) (xs : List ℕ) → joined found (map Byte xs) ≡ Ok xs
joined-bytes found [] = joined-nil found
joined-bytes found (x ∷ xs) = joined-cons found (Byte x) (map Byte xs) ∙ ap (mapped (λ u. x ∷ u)) (joined-bytes found xs)

alone : (r : Result (List ℕ) Fault) → (r >>= (λ t. mapped (λ u. t ++ u) (Ok []))) ≡ r
alone (Ok t) = ap Ok (append-nil t)
alone (Err f) = refl

last : (found : Base → Option Json) (p : Piece) → joined found (p ∷ []) ≡ text_of_piece found p
last found p =
    joined-cons found p [] ∙ ap (λ (r : Result (List ℕ) Fault). (text_of_piece found p >>= (λ t. mapped (λ u. t ++ u) r))) (joined-nil found) ∙ alone (text_of_piece found p)

-- bytes, and a last piece
pub joined-behind : (found : Base → Option Json) (plain : List ℕ) (p : Piece) → joined found (map Byte plain ++ p ∷ []) ≡ mapped (λ t. plain ++ t) (text_of_piece found p)
joined-behind found plain p =
    joined-append found (map Byte plain) (p ∷ []) ∙ ap (λ (r : Result (List ℕ) Fault). r >>= (λ t. mapped (λ u. t ++ u) (joined found (p ∷ [])))) (joined-bytes found plain)
    ∙ ap (mapped (λ u. plain ++ u)) (last found p)

-- the same behind a text
pub joined-cut : (found : Base → Option Json) (old plain : List ℕ) (p : Piece)
    → mapped (λ t. old ++ t) (joined found (map Byte plain ++ p ∷ [])) ≡ mapped (λ t. (old ++ plain) ++ t) (text_of_piece found p)
joined-cut found old plain p = ap (mapped (λ t. old ++ t)) (joined-behind found plain p) ∙ mapped-mapped old plain (text_of_piece found p)

-- ---- the loop

pub mix-begun : (r : Result (List ℕ) Fault) → mapped (λ t. [] ++ t) r ≡ r
mix-begun r = mapped-none r

go : (out new : List ℕ) (r s : Result (List ℕ) Fault) → mapped (λ t. out ++ t) r ≡ Ok new
    → mapped (λ t. new ++ t) s ≡ mapped (λ t. out ++ t) (r >>= (λ t. mapped (λ u. t ++ u) s))
go out new (Ok t) s h = let same : out ++ t ≡ new = cc in ap (λ (xs : List ℕ). mapped (λ u. xs ++ u) s) (sym same) ∙ sym (mapped-mapped out t s)
go out new (Err f) s h = absurd (cc)

-- one cut is written, and what is left follows
pub mix-on : (found : Base → Option Json) (out new rest more : List ℕ) (ps : List Piece) → pieces rest ≡ ps ++ pieces more → mapped (λ t. out ++ t) (joined found ps) ≡ Ok new
    → mapped (λ t. new ++ t) (mixed found more) ≡ mapped (λ t. out ++ t) (mixed found rest)
mix-on found out new rest more ps is h =
    go out new (joined found ps) (mixed found more) h ∙ sym (ap (λ qs. mapped (λ t. out ++ t) (joined found qs)) is ∙ ap (mapped (λ t. out ++ t)) (joined-append found ps (pieces more)))

stop : (out : List ℕ) (r s : Result (List ℕ) Fault) (f : Fault) → mapped (λ t. out ++ t) r ≡ Err f → mapped (λ t. out ++ t) (r >>= (λ t. mapped (λ u. t ++ u) s)) ≡ Err f
stop out (Ok t) s f h = absurd (cc)
stop out (Err g) s f h = h

-- a fault of a cut is the text's
pub mix-stops : (found : Base → Option Json) (out rest more : List ℕ) (ps : List Piece) (f : Fault) → pieces rest ≡ ps ++ pieces more → mapped (λ t. out ++ t) (joined found ps) ≡ Err f
    → mapped (λ t. out ++ t) (mixed found rest) ≡ Err f
mix-stops found out rest more ps f is h =
    ap (λ qs. mapped (λ t. out ++ t) (joined found qs)) is ∙ ap (mapped (λ t. out ++ t)) (joined-append found ps (pieces more)) ∙ stop out (joined found ps) (mixed found more) f h

pub mix-done : (found : Base → Option Json) (out rest : List ℕ) → pieces rest ≡ map Byte rest → mapped (λ t. out ++ t) (mixed found rest) ≡ Ok (out ++ rest)
mix-done found out rest is = ap (λ ps. mapped (λ t. out ++ t) (joined found ps)) is ∙ ap (mapped (λ t. out ++ t)) (joined-bytes found rest)
