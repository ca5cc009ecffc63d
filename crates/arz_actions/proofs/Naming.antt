-- Actions by their names.
use Rattle.std.proofs.Common.{◌≡◌, ℕ, ◌+◌, ◌<◌, ◌||◌, ◌++◌, Bool, true, false, cond, List, [], ◌∷◌, length, get_or, take, map, codes, refl, sym, ap, ap₂, ◌∙◌}
use Rattle.std.specs.Prelude.{not, filter}
use Rattle.std.specs.List.{list_any}
use Rattle.std.specs.Str.{bytes_eq}
use Rattle.std.specs.Ordering.{nat_cmp, is_eq}
use Rattle.std.specs.Cmp.Lexicographic.{slice_cmp}
use Rattle.std.specs.declared.alloc.Global.{Global}
use Rattle.std.specs.declared.rc.Rc.{Rc}
use Rattle.std.proofs.lemmas.List.{map-append}
use Rattle.std.proofs.lemmas.List.Folds.{list_any_more}
use Rattle.std.proofs.lemmas.Map.Text.{is_eq-slice_cmp}
use Rattle.arz_json.specs.Look.{text_at}
use Rattle.arz_json.specs.declared.tree.Json.{Json}
use Rattle.arz_actions.specs.Ready.{ready_of, readies, joined_actions}
use Rattle.arz_actions.specs.Shared.{has_name}
use Rattle.arz_actions.specs.declared.ready.Ready.{Ready}

-- ---- one name more

any_mapped : {X Y : Type 0} (f : X → Y) (test : Y → Bool) (xs : List X) → list_any test (map f xs) ≡ list_any (λ x. test (f x)) xs
any_mapped f test [] = refl
any_mapped f test (x ∷ xs) = ap (λ b. test (f x) || b) (any_mapped f test xs)

put : (test old : Bool) → cond test true old ≡ (old || test)
put true true = refl
put true false = refl
put false true = refl
put false false = refl

pub name_put : (actions : List (Rc Ready Global)) (i : ℕ) (action : Rc Ready Global) (q : List ℕ) (old new : Bool) → i < length actions → action ≡ get_or actions i action
    → old ≡ has_name (readies (take i actions)) q → new ≡ cond (is_eq (slice_cmp nat_cmp action.value.name q)) true old
    → new ≡ has_name (readies (take (i + 1) actions)) q
name_put actions i action q old new lt is before now =
    let named = λ (rc : Rc Ready Global). bytes_eq rc.value.name q in
    now
    ∙ ap (λ b. cond b true old) (is_eq-slice_cmp action.value.name q)
    ∙ put (named action) old
    ∙ ap₂ (λ a b. a || b) (before ∙ any_mapped (λ rc. rc.value) (λ o. bytes_eq o.name q) (take i actions)) (ap named is)
    ∙ sym (list_any_more named actions i action lt)
    ∙ sym (any_mapped (λ rc. rc.value) (λ o. bytes_eq o.name q) (take (i + 1) actions))

-- ---- actions that are read are joined as they are written

kept : {X Y : Type 0} (f : X → Y) (a b : Bool) (x : X) (xs : List X) (ys : List Y) → b ≡ a → map f xs ≡ ys → map f (cond a (x ∷ xs) xs) ≡ cond b (f x ∷ ys) ys
kept f true b x xs ys same rest = ap₂ (λ c zs. cond c (f x ∷ zs) zs) (sym same) rest
kept f false b x xs ys same rest = ap₂ (λ c zs. cond c (f x ∷ zs) zs) (sym same) rest

filter_mapped : {X Y : Type 0} (f : X → Y) (p : X → Bool) (q : Y → Bool) → ((x : X) → q (f x) ≡ p x) → (xs : List X) → map f (filter p xs) ≡ filter q (map f xs)
filter_mapped f p q same [] = refl
filter_mapped f p q same (x ∷ xs) = kept f (p x) (q (f x)) x (filter p xs) (filter q (map f xs)) (same x) (filter_mapped f p q same xs)

-- the actions of a step, and then those of its workflow that have none of their names
abbrev pub joined_as_written : (own others : List Json) → List Json
joined_as_written own others = own ++ filter (λ a. not (list_any (λ o. bytes_eq (text_at (codes "name") o) (text_at (codes "name") a)) own)) others

pub joined_as_read : (own others : List Json) → map ready_of (joined_as_written own others) ≡ joined_actions (map ready_of own) (map ready_of others)
joined_as_read own others =
    map-append ready_of own _
    ∙ ap (λ rest. map ready_of own ++ rest)
    (filter_mapped ready_of _ _ (λ a. ap not (any_mapped ready_of (λ o. bytes_eq o.name (text_at (codes "name") a)) own)) others)
