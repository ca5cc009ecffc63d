-- Trees made from tokens, beside the data that `serde_json` reads of them.
use Rattle.std.proofs.Common.{◌≡◌, ℕ, List, [], ◌∷◌, ◌++◌, map, Option, Some, None, option_map, String, Global, Ordering, Less, Equal, Greater, string_bytes, string_cmp, nat_cmp, refl, sym, ap, ◌∙◌}
use Rattle.std.specs.Cmp.Lexicographic.{slice_cmp}
use Rattle.std.specs.Ordering.{match_ordering}
use Rattle.std.specs.BTreeMap.{insert_entry}
use Rattle.json.specs.Token.{Token}
use Rattle.json.specs.Json.{parse_map}
use Rattle.json.proofs.Found.{Some_inj}
use Rattle.serde_json.specs.Data as serde
use Rattle.serde_json.specs.Data.{Data, Items, no_items, item, Members, no_members, member, put}
use Rattle.arz_json.specs.declared.tree.Json.{Json}
use Rattle.arz_json.specs.declared.tree.Member.{Member}
use Rattle.arz_json.specs.Reading.{tree_of, trees_of, members_of, number_tree, entries_tree}

-- ---- items, one more at the end

abbrev pub before : List Data → Items → Items
before [] rest = rest
before (d ∷ ds) rest = item d (before ds rest)

pub trees_of-before : (ds : List Data) → trees_of (before ds no_items) ≡ map tree_of ds
trees_of-before [] = refl
trees_of-before (d ∷ ds) = ap (λ js. tree_of d ∷ js) (trees_of-before ds)

before-push : (ds : List Data) (d : Data) (rest : Items) → before ds (item d rest) ≡ before (ds ++ d ∷ []) rest
before-push [] d rest = refl
before-push (e ∷ ds) d rest = ap (item e) (before-push ds d rest)

pub one_more : (ds : List Data) (d : Data) (r : Option (Items × List Token)) → parse_map (before ds) (parse_map (item d) r) ≡ parse_map (before (ds ++ d ∷ [])) r
one_more ds d None = refl
one_more ds d (Some p) = ap (λ all. Some (all, p.1)) (before-push ds d p.0)

pub map-push : (ds : List Data) (d : Data) → map tree_of (ds ++ d ∷ []) ≡ map tree_of ds ++ tree_of d ∷ []
map-push [] d = refl
map-push (e ∷ ds) d = ap (λ js. tree_of e ∷ js) (map-push ds d)

-- ---- members, put in one after another

abbrev put_tree : List ℕ → Json → List Member → List Member
put_tree k j [] = record { name = k; value = j } ∷ []
put_tree k j (m ∷ ms) = match_ordering (slice_cmp nat_cmp k m.name) (record { name = k; value = j } ∷ m ∷ ms) (record { name = m.name; value = j } ∷ ms) (m ∷ put_tree k j ms)

members_of-match : (o : Ordering) (a b c : Members) → members_of (match_ordering o a b c) ≡ match_ordering o (members_of a) (members_of b) (members_of c)
members_of-match Less a b c = refl
members_of-match Equal a b c = refl
members_of-match Greater a b c = refl

members_of-put : (k : List ℕ) (d : Data) (ms : Members) → members_of (put k d ms) ≡ put_tree k (tree_of d) (members_of ms)
members_of-put k d no_members = refl
members_of-put k d (member l e ms) = members_of-match (slice_cmp nat_cmp k l) _ _ _ ∙ rw (members_of-put k d ms)

entries-match : (o : Ordering) (a b c : List (String Global × Json)) → entries_tree (match_ordering o a b c) ≡ match_ordering o (entries_tree a) (entries_tree b) (entries_tree c)
entries-match Less a b c = refl
entries-match Equal a b c = refl
entries-match Greater a b c = refl

entries-insert : (es : List (String Global × Json)) (k : String Global) (j : Json) → entries_tree (insert_entry string_cmp es k j) ≡ put_tree (string_bytes k) j (entries_tree es)
entries-insert [] k j = refl
entries-insert (e ∷ es) k j = entries-match (string_cmp k e.0) _ _ _ ∙ rw (entries-insert es k j)

-- a member more
pub put_entry : (es : List (String Global × Json)) (old : Members) (k : String Global) (j : Json) (d : Data) → entries_tree es ≡ members_of old → j ≡ tree_of d
    → entries_tree (insert_entry string_cmp es k j) ≡ members_of (put (string_bytes k) d old)
put_entry es old k j d same tree = entries-insert es k j ∙ ap (put_tree (string_bytes k) j) same ∙ ap (λ t. put_tree (string_bytes k) t (members_of old)) tree ∙ sym (members_of-put (string_bytes k) d old)

-- ---- small steps

pub none_before : (r : Option (Items × List Token)) → r ≡ parse_map (before []) r
none_before None = refl
none_before (Some p) = refl

pub found_number : (o : Option serde.Num) (j : Json) → Some j ≡ option_map number_tree o → (n : serde.Num) × (o ≡ Some n) × (j ≡ number_tree n)
found_number None j e = absurd (cc)
found_number (Some n) j e = (n, refl, Some_inj _ _ e)

pub no_number : (o : Option serde.Num) → None ≡ option_map number_tree o → o ≡ None
no_number None e = refl
no_number (Some n) e = absurd (cc)
