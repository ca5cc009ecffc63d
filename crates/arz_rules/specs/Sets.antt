-- Texts that stand a second time, and texts that are or aren't among others.
use Rattle.std.specs.Prelude.{ℕ, suc, List, [], ◌∷◌, ◌++◌, map, Bool, false, ◌||◌, Option, Some, None, if◌then◌else◌}
use Rattle.std.specs.Str.{bytes_eq}
use Rattle.std.specs.Cmp.Lexicographic.{slice_cmp}
use Rattle.std.specs.Ordering.{nat_cmp}
use Rattle.std.specs.Option.{is_some}
use Rattle.std.specs.BTreeMap.{get_by}
use Rattle.arz_json.specs.declared.tree.Json.{Json}
use Rattle.arz_json.specs.declared.tree.Member.{Member}
use Rattle.arz_json.specs.Look.{text_in}
use Rattle.arz_json.specs.declared.place.Token.{Token}
use Rattle.arz_json.specs.declared.place.Token.TheVariants.{Name, Index}
use Rattle.arz_rules.specs.declared.sets.TextSet.{TextSet}
use Rattle.arz_rules.specs.Place.{here_unless, under}
use Rattle.arz_rules.specs.Sites.{Step, Check, found, items, members}

-- whether there is a text, and it is this one
abbrev pub is_text : Option (List ℕ) → List ℕ → Bool
is_text None s = false
is_text (Some t) s = bytes_eq t s

abbrev pub is_among : List (Option (List ℕ)) → List ℕ → Bool
is_among [] s = false
is_among (t ∷ ts) s = is_text t s || is_among ts s

-- the texts that the steps lead to
abbrev pub texts_at : List Step → Json → List (Option (List ℕ))
texts_at steps j = map text_in (found steps j)

-- whether a text is in a set of texts
abbrev pub has : TextSet → List ℕ → Bool
has texts q = is_some (get_by (λ k. slice_cmp nat_cmp q k.now) texts.there)

abbrev pub has_text : TextSet → Option (List ℕ) → Bool
has_text texts None = false
has_text texts (Some q) = has texts q

-- ---- what stands a second time in a list, by a text that each item may have

-- an item has this text
abbrev pub some_has : (Json → Option (List ℕ)) → List Json → List ℕ → Bool
some_has key [] s = false
some_has key (j ∷ js) s = is_text (key j) s || some_has key js s

abbrev pub stands_before : (Json → Option (List ℕ)) → List Json → Option (List ℕ) → Bool
stands_before key earlier None = false
stands_before key earlier (Some s) = some_has key earlier s

abbrev pub repeats_after : (Json → Option (List ℕ)) → (Json → List ℕ) → List Json → ℕ → List Json → List (List Token)
repeats_after key told earlier i [] = []
repeats_after key told earlier i (j ∷ js) =
    (if stands_before key earlier (key j) then (Index i ∷ Name (told j) ∷ []) ∷ [] else [])
    ++ repeats_after key told (earlier ++ j ∷ []) (suc i) js

-- the items of a list whose text by `key` an earlier item has too, at the member that `told` names
abbrev pub repeats : (Json → Option (List ℕ)) → (Json → List ℕ) → Check
repeats key told j = repeats_after key told [] 0 (items j)

-- ---- checks of a text, and of the names of members

abbrev pub unless : (List ℕ → Bool) → Option (List ℕ) → List (List Token)
unless test None = []
unless test (Some s) = here_unless (test s)

-- a text that the test does not take
abbrev pub bad_text : (List ℕ → Bool) → Check
bad_text test j = unless test (text_in j)

abbrev pub bad_names_in : (List ℕ → Bool) → List Member → List (List Token)
bad_names_in test [] = []
bad_names_in test (m ∷ ms) = under (Name m.name) (here_unless (test m.name)) ++ bad_names_in test ms

-- members whose names the test does not take
abbrev pub bad_names : (List ℕ → Bool) → Check
bad_names test j = bad_names_in test (members j)
