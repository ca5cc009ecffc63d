-- Places told apart by bytes, and places each once.
use Rattle.std.proofs.Common.{◌≡◌, ℕ, ◌+◌, ◌<◌, List, [], ◌∷◌, ◌++◌, map, length, take, drop, get_or, add-one, arith, Bool, true, false, ◌||◌, cond, refl, sym, ap, ap₂, ◌∙◌, rules, append_assoc, Some, pos}
use Rattle.std.specs.Str.{bytes_eq}
use Rattle.std.proofs.lemmas.Bool.{eqb-true}
use Rattle.std.proofs.lemmas.Bool.Decides.{Decides-eqb}
use Rattle.std.proofs.lemmas.List.{get_or-map, length-map, map-append}
use Rattle.std.proofs.Math.Seq.{take-suc}
use Rattle.std.proofs.lemmas.Slice.Eq.{bytes_eq-Decides}
use Rattle.arz_json.specs.Look.{text_in, int_in}
use Rattle.arz_json.specs.declared.tree.Json.{the_lemmas}
use Rattle.arz_json.specs.declared.tree.Json.TheVariants.{Int, Text}
use Rattle.arz_json.specs.declared.place.Place.{Place}
use Rattle.arz_json.specs.declared.place.Token.{Token}
use Rattle.arz_json.specs.declared.place.Token.TheVariants.{Name, Index}
use Rattle.arz_wire.specs.Spelling.{spelling, counted, number}
use Rattle.arz_wire.proofs.Once.{one_spelling}
use Rattle.arz_overlay.specs.Applied.{token_tree, key_of}
use Rattle.arz_overlay.specs.Steps.{same_place, is_among, once_after}
use Rattle.arz_changes.specs.Removal.{Places, same_token}
use Rattle.arz_changes.proofs.Forms.{both}
use Rattle.arz_changes.proofs.Lists.{drop_at, left, right, Some_inj}
use Rattle.arz_changes.specs.Groups.{place_tokens, places_seen}

-- ---- bytes

text_begins : (s : List ℕ) → spelling (Text s) ≡ 5 ∷ counted s
text_begins s = search (rules, the_lemmas)

int_begins : (i : ℕ) → spelling (Int (pos i)) ≡ 3 ∷ number i
int_begins i = search (rules, the_lemmas)

not_empty : (t : Token) (more : List ℕ) → [] ≡ spelling (token_tree t) ++ more → ⊥
not_empty (Name s) more e = cc (ap (λ l. l ++ more) (text_begins s))
not_empty (Index i) more e = cc (ap (λ l. l ++ more) (int_begins i))

text_back : (s : List ℕ) → text_in (Text s) ≡ Some s
text_back s = search (rules, the_lemmas)

no_text : (z : ℕ) → int_in (Int (pos z)) ≡ Some (pos z)
no_text z = search (rules, the_lemmas)

token_inj : (t u : Token) → token_tree t ≡ token_tree u → t ≡ u
token_inj (Name a) (Name b) e = ap (λ s. Name s) (Some_inj a b (sym (text_back a) ∙ ap text_in e ∙ text_back b))
token_inj (Name a) (Index k) e = absurd (cc (ap spelling e, text_begins a, int_begins k))
token_inj (Index i) (Name b) e = absurd (cc (ap spelling e, int_begins i, text_begins b))
token_inj (Index i) (Index k) e = let z = Some_inj (pos i) (pos k) (sym (no_text i) ∙ ap int_in e ∙ no_text k) in let n : i ≡ k = cc in ap (λ m. Index m) n

key_inj : (p q : List Token) → key_of p ≡ key_of q → p ≡ q
key_inj [] [] e = refl
key_inj [] (u ∷ us) e = absurd (not_empty u (key_of us) e)
key_inj (t ∷ ts) [] e = absurd (not_empty t (key_of ts) (sym e))
key_inj (t ∷ ts) (u ∷ us) e =
    let parts = one_spelling (token_tree t) (token_tree u) (key_of ts) (key_of us) e in
    ap₂ (λ (x : Token) (xs : List Token). x ∷ xs) (token_inj t u parts.0) (key_inj ts us parts.1)

-- ---- tests

token_true : (t u : Token) → same_token t u ≡ true → t ≡ u
token_true (Name a) (Name b) e = ap (λ s. Name s) ((bytes_eq-Decides a b).0 e)
token_true (Name a) (Index k) e = absurd (cc)
token_true (Index i) (Name b) e = absurd (cc)
token_true (Index i) (Index k) e = ap (λ n. Index n) (eqb-true i k e)

token_itself : (t : Token) → same_token t t ≡ true
token_itself (Name a) = (bytes_eq-Decides a a).1 refl
token_itself (Index i) = (Decides-eqb i i).1 refl

place_true : (p q : List Token) → same_place p q ≡ true → p ≡ q
place_true [] [] e = refl
place_true [] (u ∷ us) e = absurd (cc)
place_true (t ∷ ts) [] e = absurd (cc)
place_true (t ∷ ts) (u ∷ us) e = ap₂ (λ (x : Token) (xs : List Token). x ∷ xs) (token_true t u (left _ _ e)) (place_true ts us (right (same_token t u) _ e))

place_itself : (p : List Token) → same_place p p ≡ true
place_itself [] = refl
place_itself (t ∷ ts) = both (same_token t t) _ (token_itself t) (place_itself ts)

by_both : (a b : Bool) → (a ≡ true → b ≡ true) → (b ≡ true → a ≡ true) → a ≡ b
by_both true true f g = refl
by_both true false f g = sym (f refl)
by_both false true f g = g refl
by_both false false f g = refl

-- bytes are the same where places are
key_tells : (p q : List Token) → bytes_eq (key_of p) (key_of q) ≡ same_place p q
key_tells p q = by_both _ _
    (λ e. ap (same_place p) (sym (key_inj p q ((bytes_eq-Decides _ _).0 e))) ∙ place_itself p)
    (λ e. (bytes_eq-Decides _ _).1 (ap key_of (place_true p q e)))

-- ---- sets of bytes

abbrev pub keyed : Places → List ℕ → Bool
keyed [] q = false
keyed (p ∷ ps) q = bytes_eq (key_of p) q || keyed ps q

pub keyed_tells : (ps : Places) (p : List Token) → keyed ps (key_of p) ≡ is_among ps p
keyed_tells [] p = refl
keyed_tells (q ∷ ps) p = ap₂ (λ a b. a || b) (key_tells q p) (keyed_tells ps p)

or_last : (a b c : Bool) → (a || (b || c)) ≡ (b || (a || c))
or_last true true c = refl
or_last true false c = refl
or_last false b c = refl

pub keyed_more : (ps : Places) (p : List Token) (q : List ℕ) → keyed (ps ++ p ∷ []) q ≡ (bytes_eq (key_of p) q || keyed ps q)
keyed_more [] p q = refl
keyed_more (r ∷ ps) p q = ap (λ b. bytes_eq (key_of r) q || b) (keyed_more ps p q) ∙ or_last (bytes_eq (key_of r) q) (bytes_eq (key_of p) q) (keyed ps q)

-- ---- a place more

by_among : (b : Bool) (p : List Token) (more : Places) → cond b more (p ∷ more) ≡ cond b [] (p ∷ []) ++ more
by_among true p more = refl
by_among false p more = refl

-- what is kept of the places so far, and of the others
pub one_more : (kept earlier rest now : Places) (p : List Token) (b : Bool) → b ≡ is_among earlier p → now ≡ kept ++ cond b [] (p ∷ [])
    → now ++ once_after (earlier ++ p ∷ []) rest ≡ kept ++ once_after earlier (p ∷ rest)
one_more kept earlier rest now p b is pushed =
    let more = once_after (earlier ++ p ∷ []) rest in
    ap (λ l. l ++ more) pushed ∙ append_assoc kept (cond b [] (p ∷ [])) more ∙ ap (λ l. kept ++ l) (sym (by_among b p more)) ∙ ap (λ a. kept ++ cond a more (p ∷ more)) is

-- ---- places as the code holds them

-- the bytes of a place by its number
pub key_at : (places : List Place) (keys : List (List ℕ)) (i : ℕ) (place : Place) (k : List ℕ) → keys ≡ map key_of (places_seen places) → i < length places → place ≡ get_or places i place → k ≡ get_or keys i k → k ≡ key_of place.tokens
key_at places keys i place k all less is got =
    let long = length-map places place_tokens in
    got ∙ ap (λ l. get_or l i k) all
    ∙ get_or-map key_of (places_seen places) i place.tokens k (omega (arith, long))
    ∙ ap key_of (get_or-map place_tokens places i place place.tokens less ∙ ap place_tokens (sym is))

-- the places so far, and the others
pub so_far : (places : List Place) (i : ℕ) (place : Place) → i < length places → place ≡ get_or places i place → places_seen (take (i + 1) places) ≡ places_seen (take i places) ++ place.tokens ∷ []
so_far places i place less is =
    let more : take (i + 1) places ≡ take i places ++ place ∷ [] = rw add-one (take-suc places i place less ∙ ap (λ p. take i places ++ p ∷ []) (sym is)) in
    ap places_seen more ∙ map-append place_tokens (take i places) (place ∷ [])

pub the_others : (places : List Place) (i : ℕ) (place : Place) → i < length places → place ≡ get_or places i place → places_seen (drop i places) ≡ place.tokens ∷ places_seen (drop (i + 1) places)
the_others places i place less is = ap places_seen (drop_at places i place less is)
