-- What is made of a list, one item after the other, behind what was made before.
use Rattle.std.proofs.Common.{◌≡◌, ℕ, ◌+◌, ◌<◌, Bool, List, [], ◌∷◌, ◌++◌, length, drop, get_or, Option, Some, None, Ok, Err, refl, ap, sym, ◌∙◌, append_assoc, append-nil, drop-cons, add-one}
use Rattle.arz_json.specs.Answer.{◌>>=◌, Fails}
use Rattle.arz_json.specs.declared.tree.Json.{Json}
use Rattle.arz_json.specs.declared.tree.Member.{Member}
use Rattle.arz_style.specs.Forms.{field_of, item_fields, member_fields, fields_of, join}
use Rattle.arz_style.specs.Texts.{Made, made_of, told, text_of, texts_of, pair_of, pairs_of, with}
use Rattle.arz_style.specs.declared.fault.StyleFault.{StyleFault}
use Rattle.arz_style.specs.declared.fault.StyleFault.TheVariants.{NotSerializable, FractionUsed, Memory}
use Rattle.arz_style.specs.declared.texts.Pair.{Pair}

-- these, and behind them those
abbrev pub front : {X : Type 0} → List X → Made (List X) → Made (List X)
front xs made = made_of (λ ys. xs ++ ys) made

abbrev pub first_of_all : {X : Type 0} → Made (Option X) → Made (List X) → Made (List X)
first_of_all p rest = p >>= λ x. made_of (with x) rest

-- ---- parts that may be there

one-more : {X : Type 0} (xs : List X) (x : X) (rest : Made (List X)) → front xs (made_of (with (Some x)) rest) ≡ front (xs ++ x ∷ []) rest
one-more xs x (Ok ys) = ap Ok (sym (append_assoc xs (x ∷ []) ys))
one-more xs x (Err f) = refl

no-more : {X : Type 0} (xs : List X) (rest : Made (List X)) → front xs (made_of (with None) rest) ≡ front xs rest
no-more xs (Ok ys) = refl
no-more xs (Err f) = refl

pub taken : {X : Type 0} (all : Made (List X)) (xs zs : List X) (x : X) (p : Made (Option X)) (rest : Made (List X))
    → all ≡ front xs (first_of_all p rest) → p ≡ Ok (Some x) → zs ≡ xs ++ x ∷ [] → all ≡ front zs rest
taken all xs zs x p rest whole is here =
    whole ∙ ap (λ q. front xs (first_of_all q rest)) is ∙ one-more xs x rest ∙ ap (λ ys. front ys rest) (sym here)

pub passed : {X : Type 0} (all : Made (List X)) (xs : List X) (p : Made (Option X)) (rest : Made (List X))
    → all ≡ front xs (first_of_all p rest) → p ≡ Ok None → all ≡ front xs rest
passed all xs p rest whole is = whole ∙ ap (λ q. front xs (first_of_all q rest)) is ∙ no-more xs rest

stopped : {X : Type 0} (all : Made (List X)) (xs : List X) (p : Made (Option X)) (rest : Made (List X)) (f : StyleFault)
    → all ≡ front xs (first_of_all p rest) → p ≡ Err f → all ≡ Err f
stopped all xs p rest f whole is = whole ∙ ap (λ q. front xs (first_of_all q rest)) is

pub fails : {X : Type 0} (all : Made (List X)) (xs : List X) (p : Made (Option X)) (rest : Made (List X)) (f : StyleFault)
    → all ≡ front xs (first_of_all p rest) → Fails (told f) p → Fails (told f) all
fails all xs p rest NotSerializable whole is = stopped all xs p rest _ whole is
fails all xs p rest FractionUsed whole is = stopped all xs p rest _ whole is
fails all xs p rest Memory whole is = tt

-- ---- lists of parts

joined-front : (xs ps : List Pair) (rest : Made (List Pair)) → front xs (made_of (λ qs. ps ++ qs) rest) ≡ front (xs ++ ps) rest
joined-front xs ps (Ok qs) = ap Ok (sym (append_assoc xs ps qs))
joined-front xs ps (Err f) = refl

pushed-made : (xs ys : List Pair) (first rest : Made (List Pair)) → made_of (λ ps. xs ++ ps) first ≡ Ok ys → front xs (join first rest) ≡ front ys rest
pushed-made xs ys (Ok ps) rest is = joined-front xs ps rest ∙ (let same : xs ++ ps ≡ ys = cc in ap (λ zs. front zs rest) same)
pushed-made xs ys (Err f) rest is = absurd (cc)

pub pushed : (all : Made (List Pair)) (xs ys : List Pair) (first rest : Made (List Pair))
    → all ≡ front xs (join first rest) → made_of (λ ps. xs ++ ps) first ≡ Ok ys → all ≡ front ys rest
pushed all xs ys first rest whole is = whole ∙ pushed-made xs ys first rest is

same-fault : (xs : List Pair) (all : Made (List Pair)) (f : StyleFault) → front xs all ≡ Err f → all ≡ Err f
same-fault xs (Ok ys) f e = absurd (cc)
same-fault xs (Err g) f e = let same : g ≡ f = cc in ap Err same

halted : (old xs : List Pair) (all first rest : Made (List Pair)) (f : StyleFault)
    → front old all ≡ front xs (join first rest) → first ≡ Err f → all ≡ Err f
halted old xs all first rest f whole is = same-fault old all f (whole ∙ ap (λ q. front xs (join q rest)) is)

pub push-fails : (old xs : List Pair) (all first rest : Made (List Pair)) (f : StyleFault)
    → front old all ≡ front xs (join first rest) → Fails (told f) first → Fails (told f) all
push-fails old xs all first rest NotSerializable whole is = halted old xs all first rest _ whole is
push-fails old xs all first rest FractionUsed whole is = halted old xs all first rest _ whole is
push-fails old xs all first rest Memory whole is = tt

-- behind nothing
pub front-none : {X : Type 0} (made : Made (List X)) → front [] made ≡ made
front-none (Ok xs) = refl
front-none (Err f) = refl

-- ---- lists from an item on

pub texts-from : (escape : Bool) (js : List Json) (i : ℕ) (j : Json) → i < length js → j ≡ get_or js i j
    → texts_of escape (drop i js) ≡ first_of_all (text_of escape j) (texts_of escape (drop (i + 1) js))
texts-from escape js i j lt is = rw (add-one, drop-cons js i j lt, ← is) refl

pub pairs-from : (escape : Bool) (ms : List Member) (i : ℕ) (m : Member) → i < length ms → m ≡ get_or ms i m
    → pairs_of escape (drop i ms) ≡ first_of_all (pair_of escape m) (pairs_of escape (drop (i + 1) ms))
pairs-from escape ms i m lt is = rw (add-one, drop-cons ms i m lt, ← is) refl

pub items-from : (name : List ℕ) (js : List Json) (i : ℕ) (j : Json) → i < length js → j ≡ get_or js i j
    → item_fields name (drop i js) ≡ join (field_of name j) (item_fields name (drop (i + 1) js))
items-from name js i j lt is = rw (add-one, drop-cons js i j lt, ← is) refl

pub fields-from : (ms : List Member) (i : ℕ) (m : Member) → i < length ms → m ≡ get_or ms i m
    → fields_of (drop i ms) ≡ join (member_fields m) (fields_of (drop (i + 1) ms))
fields-from ms i m lt is = rw (add-one, drop-cons ms i m lt, ← is) refl
