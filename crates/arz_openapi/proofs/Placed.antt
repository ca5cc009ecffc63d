-- What a pointer names with its place, a token at a time.
use Rattle.std.proofs.Common.{◌≡◌, ◌≢◌, ◌<◌, ◌-◌, ℕ, zero, suc, ap₂, List, [], ◌∷◌, ◌++◌, length, Option, Some, None, option_map, option_and_then, refl, sym, ap, ◌∙◌, arith, append_assoc, append-nil, ne_eqb}
use Rattle.arz_json.proofs.Splits.{Lacks}
use Rattle.arz_json.specs.declared.tree.Json.{Json}
use Rattle.arz_json.specs.declared.place.Token.{Token}
use Rattle.arz_rules.specs.Place.{least, lesser, under}
use Rattle.arz_rules.proofs.Places.{least-under, least-append}
use Rattle.arz_openapi.specs.Rules.{Spot, step_to, going_on, behind_step, last_step, spot_from, spot, below, item_misses, spot_of, pointer_of, behind as behind_chain}

abbrev pub shift : List Token → Spot → Spot
shift tokens s = (tokens ++ s.0, s.1)

abbrev with_tree : Json → List Token → Option Spot
with_tree j tokens = Some (tokens, j)

spot_over : (token xs rest : List ℕ) (j : Json) → Lacks 47 xs → spot_from token (xs ++ rest) j ≡ spot_from (token ++ xs) rest j
unfolding spot_from
spot_over token [] rest j h = rw append-nil
spot_over token (x ∷ xs) rest j h =
    rw (ne_eqb x 47 (h 0 (omega arith))) (spot_over (token ++ x ∷ []) xs rest j (λ i less. h (suc i) (omega arith)) ∙ rw append_assoc)

spot_token : (xs rest : List ℕ) (j : Json) → Lacks 47 xs → spot_from [] (xs ++ 47 ∷ rest) j ≡ option_and_then (going_on (spot_from [] rest)) (step_to xs j)
unfolding spot_from
spot_token xs rest j h = spot_over [] xs (47 ∷ rest) j h

spot_last : (xs : List ℕ) (j : Json) → Lacks 47 xs → spot_from [] xs j ≡ option_map last_step (step_to xs j)
unfolding spot_from
spot_last xs j h = ap (λ l. spot_from [] l j) (sym (append-nil xs)) ∙ spot_over [] xs [] j h

pub no_slash : (text : List ℕ) (j : Json) → 0 < length text → ((rest : List ℕ) → text ≢ 47 ∷ rest) → None ≡ spot text j
no_slash [] j some h = absurd (omega arith)
no_slash (x ∷ text) j some h = rw (ne_eqb x 47 (λ e. h text (ap (λ y. y ∷ text) e))) refl

behind : (tokens : List Token) (t : Token) (o : Option Spot) → option_map (shift tokens) (option_map (behind_step t) o) ≡ option_map (shift (tokens ++ t ∷ [])) o
behind tokens t None = refl
behind tokens t (Some s) = ap (with_tree s.1) (sym (append_assoc tokens (t ∷ []) s.0))

-- one step more
pub goes-on : (whole : Option Spot) (tokens new : List Token) (rest token more : List ℕ) (j k : Json) (t : Token)
    → option_map (shift tokens) (spot_from [] rest j) ≡ whole → rest ≡ token ++ 47 ∷ more → Lacks 47 token → Some (t, k) ≡ step_to token j
    → new ≡ tokens ++ t ∷ [] → option_map (shift new) (spot_from [] more k) ≡ whole
goes-on whole tokens new rest token more j k t before is lacks step pushed =
    ap (λ ts. option_map (shift ts) (spot_from [] more k)) pushed
    ∙ sym (behind tokens t (spot_from [] more k))
    ∙ ap (λ o. option_map (shift tokens) (option_and_then (going_on (spot_from [] more)) o)) step
    ∙ ap (option_map (shift tokens)) (sym (ap (λ text. spot_from [] text j) is ∙ spot_token token more j lacks))
    ∙ before

-- a step that leads nowhere
pub ends : (whole : Option Spot) (tokens : List Token) (rest token more : List ℕ) (j : Json)
    → option_map (shift tokens) (spot_from [] rest j) ≡ whole → rest ≡ token ++ 47 ∷ more → Lacks 47 token → None ≡ step_to token j → None ≡ whole
ends whole tokens rest token more j before is lacks step =
    ap (λ o. option_map (shift tokens) (option_and_then (going_on (spot_from [] more)) o)) step
    ∙ ap (option_map (shift tokens)) (sym (ap (λ text. spot_from [] text j) is ∙ spot_token token more j lacks))
    ∙ before

pub last-lost : (whole : Option Spot) (tokens : List Token) (rest : List ℕ) (j : Json)
    → option_map (shift tokens) (spot_from [] rest j) ≡ whole → Lacks 47 rest → None ≡ step_to rest j → None ≡ whole
last-lost whole tokens rest j before lacks step =
    ap (λ o. option_map (shift tokens) (option_map last_step o)) step
    ∙ ap (option_map (shift tokens)) (sym (spot_last rest j lacks)) ∙ before

pub last-found : (whole : Option Spot) (tokens new : List Token) (rest : List ℕ) (j k : Json) (t : Token)
    → option_map (shift tokens) (spot_from [] rest j) ≡ whole → Lacks 47 rest → Some (t, k) ≡ step_to rest j → new ≡ tokens ++ t ∷ [] → Some (new, k) ≡ whole
last-found whole tokens new rest j k t before lacks step pushed =
    ap (with_tree k) pushed
    ∙ ap (λ o. option_map (shift tokens) (option_map last_step o)) step
    ∙ ap (option_map (shift tokens)) (sym (spot_last rest j lacks)) ∙ before

-- ---- places below another

all-same : (ps : List (List Token)) → below [] ps ≡ ps
all-same [] = refl
all-same (p ∷ ps) = ap (λ qs. p ∷ qs) (all-same ps)

below-step : (t : Token) (place : List Token) (ps : List (List Token)) → below (t ∷ place) ps ≡ under t (below place ps)
below-step t place [] = refl
below-step t place (p ∷ ps) = ap (λ qs. (t ∷ (place ++ p)) ∷ qs) (below-step t place ps)

same-place : (o : Option (List Token)) → o ≡ option_map (λ q. [] ++ q) o
same-place None = refl
same-place (Some q) = refl

twice : (t : Token) (place : List Token) (o : Option (List Token)) → option_map (λ q. t ∷ q) (option_map (λ q. place ++ q) o) ≡ option_map (λ q. (t ∷ place) ++ q) o
twice t place None = refl
twice t place (Some q) = refl

pub least-below : (place : List Token) (ps : List (List Token)) → least (below place ps) ≡ option_map (λ q. place ++ q) (least ps)
least-below [] ps = ap least (all-same ps) ∙ same-place (least ps)
least-below (t ∷ place) ps =
    ap least (below-step t place ps) ∙ least-under t (below place ps) ∙ ap (option_map (λ q. t ∷ q)) (least-below place ps) ∙ twice t place (least ps)

-- ---- a chain of references

last_of : (n : ℕ) → suc n - 1 ≡ n
last_of n = omega arith

pub chain : (n : ℕ) (root item : Json) (s : Spot) → 0 < n → spot_of root (pointer_of item) ≡ Some s
    → behind_chain n root item ≡ below s.0 (item_misses s.1) ++ behind_chain (n - 1) root s.1
chain zero root item s some is = absurd (omega arith)
chain (suc n) root item s some is = rw is (ap (λ k. below s.0 (item_misses s.1) ++ behind_chain k root s.1) (sym (last_of n)))

pub joined : (ps qs : List (List Token)) (best own more : Option (List Token)) → best ≡ lesser own more → own ≡ least ps → more ≡ least qs → best ≡ least (ps ++ qs)
joined ps qs best own more is p q = is ∙ ap₂ lesser p q ∙ sym (least-append ps qs)
