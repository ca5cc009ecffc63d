-- The parts of a path, cut by cut.
use Rattle.std.proofs.Common.{◌≡◌, ◌≢◌, ℕ, suc, ◌+◌, ◌<◌, List, [], ◌∷◌, ◌++◌, map, length, get_or, Some, None, refl, ap, sym, ◌∙◌, arith, append_assoc, append-nil, length-append}
use Rattle.std.specs.List.{flat_map, filter_map}
use Rattle.std.proofs.lemmas.List.Concat.{flat_map-cons}
use Rattle.std.proofs.lemmas.List.Elements.{filter_map-append}
use Rattle.std.proofs.lemmas.Bool.{ne_eqb}
use Rattle.std.proofs.lemmas.Grind.{flat_map-append}
use Rattle.arz_json.specs.Texts.{split_once}
use Rattle.arz_target.specs.Templates.{Part, Name, Byte, name_before, name_at, parts_after, parts, name_in, names, path_byte, expanded_part, expanded}

-- no byte is c
abbrev pub Lacks : ℕ → List ℕ → Type 0
Lacks c xs = (i : ℕ) → i < length xs → get_or xs i 0 ≢ c

lacks-rest : (c x : ℕ) (xs : List ℕ) → Lacks c (x ∷ xs) → Lacks c xs
lacks-rest c x xs lacks i lt = lacks (suc i) (omega arith)

lacks-first : (c x : ℕ) (xs : List ℕ) → Lacks c (x ∷ xs) → x ≢ c
lacks-first c x xs lacks = lacks 0 (omega arith)

plain-at : (b : ℕ) (rest : List ℕ) → b ≢ 123 → name_at (b ∷ rest) ≡ None
plain-at b rest ne = rw (ne_eqb b 123 ne) refl

parts-plain : (plain rest : List ℕ) → Lacks 123 plain → parts (plain ++ rest) ≡ map Byte plain ++ parts rest
parts-plain [] rest lacks = refl
parts-plain (b ∷ plain) rest lacks =
    rw (plain-at b (plain ++ rest) (lacks-first 123 b plain lacks)) (ap (λ ps. Byte b ∷ ps) (parts-plain plain rest (lacks-rest 123 b plain lacks)))

-- the bytes that belong to a part before are passed over
parts-skip : (xs ys : List ℕ) → parts_after (length xs) (xs ++ ys) ≡ parts ys
parts-skip [] ys = refl
parts-skip (x ∷ xs) ys = parts-skip xs ys

-- a `{` that begins a name
parts-name : (tail name rest : List ℕ) → name_before (split_once 125 tail) ≡ Some name → tail ≡ name ++ 125 ∷ rest → parts (123 ∷ tail) ≡ Name name ∷ parts rest
parts-name tail name rest named is =
    let size : length (name ++ 125 ∷ []) ≡ length name + 1 = length-append name (125 ∷ []) in
    let cut : tail ≡ (name ++ 125 ∷ []) ++ rest = is ∙ sym (append_assoc name (125 ∷ []) rest) in
    rw named (ap (λ ps. Name name ∷ ps) (rw (cut, ← size) (parts-skip (name ++ 125 ∷ []) rest)))

-- a `{` that begins none
parts-open : (tail : List ℕ) → name_before (split_once 125 tail) ≡ None → parts (123 ∷ tail) ≡ Byte 123 ∷ parts tail
parts-open tail none = rw none refl

pub parts-all : (path : List ℕ) → Lacks 123 path → parts path ≡ map Byte path
parts-all path lacks = sym (ap parts (append-nil path)) ∙ parts-plain path [] lacks ∙ append-nil (map Byte path)

shorter : (plain tail rest front : List ℕ) (x : ℕ) → tail ≡ front ++ rest → length rest < length (plain ++ x ∷ tail)
shorter plain tail rest front x is = omega (arith, length-append plain (x ∷ tail), ap length is, length-append front rest)

-- a cut at a `{name}`
pub cut-name : (path plain tail name rest : List ℕ) → path ≡ plain ++ 123 ∷ tail → Lacks 123 plain
    → name_before (split_once 125 tail) ≡ Some name → tail ≡ name ++ 125 ∷ rest
    → (parts path ≡ (map Byte plain ++ Name name ∷ []) ++ parts rest) × (length rest < length path)
cut-name path plain tail name rest is lacks named cut = (
  ap parts is ∙ parts-plain plain (123 ∷ tail) lacks ∙ ap (λ ps. map Byte plain ++ ps) (parts-name tail name rest named cut) ∙ sym (append_assoc (map Byte plain) (Name name ∷ []) (parts rest)),
  rw is (shorter plain tail rest (name ++ 125 ∷ []) 123 (cut ∙ sym (append_assoc name (125 ∷ []) rest))),
)

-- a cut at a `{` that begins none
pub cut-open : (path plain tail : List ℕ) → path ≡ plain ++ 123 ∷ tail → Lacks 123 plain → name_before (split_once 125 tail) ≡ None
    → (parts path ≡ (map Byte plain ++ Byte 123 ∷ []) ++ parts tail) × (length tail < length path)
cut-open path plain tail is lacks none = (
  ap parts is ∙ parts-plain plain (123 ∷ tail) lacks ∙ ap (λ ps. map Byte plain ++ ps) (parts-open tail none) ∙ sym (append_assoc (map Byte plain) (Byte 123 ∷ []) (parts tail)),
  rw is (shorter plain tail tail [] 123 refl),
)

-- ---- the path of a target, written cut by cut

-- bytes that stand for themselves
pub expanded-plain : (texts : List ℕ → List ℕ) (plain : List ℕ) → flat_map (expanded_part texts) (map Byte plain) ≡ flat_map path_byte plain
expanded-plain texts [] = refl
expanded-plain texts (b ∷ plain) =
    flat_map-cons (expanded_part texts) (Byte b) (map Byte plain) ∙ ap (λ ys. path_byte b ++ ys) (expanded-plain texts plain) ∙ sym (flat_map-cons path_byte b plain)

-- a path without a `{`
pub expanded-all : (texts : List ℕ → List ℕ) (path : List ℕ) → parts path ≡ map Byte path → expanded texts path ≡ flat_map path_byte path
expanded-all texts path is = ap (flat_map (expanded_part texts)) is ∙ expanded-plain texts path

-- one cut, and what is left
pub expanded-cut : (texts : List ℕ → List ℕ) (path plain rest : List ℕ) (part : Part) → parts path ≡ (map Byte plain ++ part ∷ []) ++ parts rest
    → expanded texts path ≡ (flat_map path_byte plain ++ expanded_part texts part) ++ expanded texts rest
expanded-cut texts path plain rest part is =
    let f = expanded_part texts in
    ap (flat_map f) is ∙ flat_map-append f (map Byte plain ++ part ∷ []) (parts rest)
    ∙ ap (λ ys. ys ++ expanded texts rest) (flat_map-append f (map Byte plain) (part ∷ []) ∙ ap (λ ys. ys ++ flat_map f (part ∷ [])) (expanded-plain texts plain)
    ∙ ap (λ ys. flat_map path_byte plain ++ ys) (flat_map-cons f part [] ∙ append-nil (f part)))

-- one cut was written behind what was there
pub goes-on : (texts : List ℕ → List ℕ) (whole out new path plain rest : List ℕ) (part : Part) → out ++ expanded texts path ≡ whole
    → parts path ≡ (map Byte plain ++ part ∷ []) ++ parts rest → new ≡ out ++ (flat_map path_byte plain ++ expanded_part texts part) → new ++ expanded texts rest ≡ whole
goes-on texts whole out new path plain rest part before cut here =
    let piece = flat_map path_byte plain ++ expanded_part texts part in
    ap (λ ys. ys ++ expanded texts rest) here ∙ append_assoc out piece (expanded texts rest)
    ∙ ap (λ ys. out ++ ys) (sym (expanded-cut texts path plain rest part cut)) ∙ before

-- ---- the names

names-plain : (plain : List ℕ) → filter_map name_in (map Byte plain) ≡ []
names-plain [] = refl
names-plain (b ∷ plain) = names-plain plain

names-all : (path : List ℕ) → parts path ≡ map Byte path → names path ≡ []
names-all path is = ap (filter_map name_in) is ∙ names-plain path

names-cut : (path plain rest : List ℕ) (part : Part) → parts path ≡ (map Byte plain ++ part ∷ []) ++ parts rest
    → names path ≡ filter_map name_in (part ∷ []) ++ names rest
names-cut path plain rest part is =
    ap (filter_map name_in) is ∙ filter_map-append name_in (map Byte plain ++ part ∷ []) (parts rest)
    ∙ ap (λ ns. ns ++ names rest) (filter_map-append name_in (map Byte plain) (part ∷ []) ∙ ap (λ ns. ns ++ filter_map name_in (part ∷ [])) (names-plain plain))

-- the name of one cut was put behind those before
pub names-go : (whole out new : List (List ℕ)) (path plain rest : List ℕ) (part : Part) → out ++ names path ≡ whole
    → parts path ≡ (map Byte plain ++ part ∷ []) ++ parts rest → new ≡ out ++ filter_map name_in (part ∷ []) → new ++ names rest ≡ whole
names-go whole out new path plain rest part before cut here =
    let found = filter_map name_in (part ∷ []) in
    ap (λ ns. ns ++ names rest) here ∙ append_assoc out found (names rest) ∙ ap (λ ns. out ++ ns) (sym (names-cut path plain rest part cut)) ∙ before

pub names-end : (whole out : List (List ℕ)) (path : List ℕ) → out ++ names path ≡ whole → parts path ≡ map Byte path → out ≡ whole
names-end whole out path before is = sym (append-nil out) ∙ ap (λ ns. out ++ ns) (sym (names-all path is)) ∙ before
