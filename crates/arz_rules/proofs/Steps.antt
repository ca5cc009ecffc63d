-- The least of the places in a list or an object, one more item or member at a time.
use Rattle.std.proofs.Common.{◌≡◌, ℕ, suc, ◌+◌, ◌<◌, List, [], ◌∷◌, ◌++◌, map, length, get_or, take, drop, drop-cons, add-one, Option, Some, None, option_map, Bool, true, false, cond, refl, sym, ap, ap₂, ◌∙◌}
use Rattle.std.proofs.lemmas.List.{take_more}
use denote.Ref.{Bor}
use Rattle.arz_json.specs.declared.tree.Json.{Json}
use Rattle.arz_json.specs.declared.tree.Member.{Member}
use Rattle.arz_json.specs.declared.place.Token.{Token}
use Rattle.arz_json.specs.declared.place.Token.TheVariants.{Name, Index}
use Rattle.arz_rules.specs.declared.kinds.Kind.{Kind}
use Rattle.arz_rules.specs.declared.forms.Others.{Others}
use Rattle.arz_rules.specs.declared.sites.Way.{Way}
use Rattle.arz_rules.specs.Place.{least, lesser, under, here_unless}
use Rattle.arz_rules.specs.Shapes.{Row}
use Rattle.arz_rules.specs.Misses.{misses, named_misses, kind_named, member_misses, item_misses}
use Rattle.arz_rules.specs.Sites.{Check, seen_site, at, at_each, in_member, in_items, in_members}
use Rattle.arz_rules.specs.Sets.{bad_names_in, repeats_after, stands_before}
use Rattle.arz_rules.proofs.Places.{lesser_grouped, least-append, least-under}

pub one_part : (best : Option (List Token)) (ps qs : List (List Token)) → lesser best (least (ps ++ qs)) ≡ lesser (lesser best (least ps)) (least qs)
one_part best ps qs = ap (lesser best) (least-append ps qs) ∙ sym (lesser_grouped best (least ps) (least qs))

pub one_more : (best : Option (List Token)) (t : Token) (ps qs : List (List Token)) → lesser best (least (under t ps ++ qs)) ≡ lesser (lesser best (option_map (λ p. t ∷ p) (least ps))) (least qs)
one_more best t ps qs = one_part best (under t ps) qs ∙ ap (λ a. lesser (lesser best a) (least qs)) (least-under t ps)

pub rest_of : {A : Type 0} (xs : List A) (i : ℕ) (x : A) → i < length xs → x ≡ get_or xs i x → drop i xs ≡ x ∷ drop (i + 1) xs
rest_of xs i x h is = drop-cons xs i x h ∙ ap₂ (λ y k. y ∷ drop k xs) (sym is) (sym (add-one i))

module _ (total best next found : Option (List Token)) where
  -- ---- one more item

  -- places of the items of a list, of which `of` gives those of one item
  module _ (all : ℕ → List Json → List (List Token)) (of : Json → List (List Token)) (more : (i : ℕ) (j : Json) (js : List Json) → all i (j ∷ js) ≡ under (Index i) (of j) ++ all (suc i) js) where
    pub item_step : (js : List Json) (i : ℕ) (item : Json)
        → total ≡ lesser best (least (all i (drop i js)))
        → i < length js → item ≡ get_or js i item
        → found ≡ least (of item) → next ≡ lesser best (option_map (λ q. Index i ∷ q) found)
        → total ≡ lesser next (least (all (i + 1) (drop (i + 1) js)))
    item_step js i item inv h is f n =
        inv
        ∙ ap (λ (ps : List (List Token)). lesser best (least ps)) (ap (all i) (rest_of js i item h is) ∙ more i item (drop (i + 1) js))
        ∙ one_more best (Index i) (of item) _
        ∙ ap (λ (o : Option (List Token)). lesser (lesser best (option_map (λ q. Index i ∷ q) o)) (least (all (suc i) (drop (i + 1) js)))) (sym f)
        ∙ ap₂ (λ (o : Option (List Token)) (k : ℕ). lesser o (least (all k (drop (i + 1) js)))) (sym n) (sym (add-one i))

  -- ---- one more member

  module _ (all : List Member → List (List Token)) (of : Member → List (List Token)) (more : (m : Member) (ms : List Member) → all (m ∷ ms) ≡ under (Name m.name) (of m) ++ all ms) where
    pub member_step : (ms : List Member) (i : ℕ) (m : Member)
        → total ≡ lesser best (least (all (drop i ms)))
        → i < length ms → m ≡ get_or ms i m
        → found ≡ least (of m) → next ≡ lesser best (option_map (λ q. Name m.name ∷ q) found)
        → total ≡ lesser next (least (all (drop (i + 1) ms)))
    member_step ms i m inv h is f n =
        inv
        ∙ ap (λ (ps : List (List Token)). lesser best (least ps)) (ap all (rest_of ms i m h is) ∙ more m (drop (i + 1) ms))
        ∙ one_more best (Name m.name) (of m) _
        ∙ ap (λ (o : Option (List Token)). lesser (lesser best (option_map (λ q. Name m.name ∷ q) o)) (least (all (drop (i + 1) ms)))) (sym f)
        ∙ ap (λ (o : Option (List Token)). lesser o (least (all (drop (i + 1) ms)))) (sym n)

-- ---- what is inside of a tree that is asked to be of a kind

pub items_step : (kind : Kind) (total best next found : Option (List Token)) (js : List Json) (i : ℕ) (item : Json)
    → total ≡ lesser best (least (item_misses kind i (map misses (drop i js))))
    → i < length js → item ≡ get_or js i item
    → found ≡ least (misses item kind) → next ≡ lesser best (option_map (λ q. Index i ∷ q) found)
    → total ≡ lesser next (least (item_misses kind (i + 1) (map misses (drop (i + 1) js))))
items_step kind total best next found = item_step total best next found (λ i js. item_misses kind i (map misses js)) (λ j. misses j kind) (λ i j js. refl)

pub members_step : (rows : List Row) (others : Others) (kind : Kind) (total best next found : Option (List Token)) (ms : List Member) (i : ℕ) (m : Member)
    → total ≡ lesser best (least (member_misses rows others (named_misses (drop i ms))))
    → i < length ms → m ≡ get_or ms i m → kind ≡ kind_named rows others m.name
    → found ≡ least (misses m.value kind) → next ≡ lesser best (option_map (λ q. Name m.name ∷ q) found)
    → total ≡ lesser next (least (member_misses rows others (named_misses (drop (i + 1) ms))))
members_step rows others kind total best next found ms i m inv h is k f n =
    member_step total best next found (λ ms. member_misses rows others (named_misses ms)) (λ m. misses m.value (kind_named rows others m.name)) (λ m ms. refl)
    ms i m inv h is (f ∙ ap (λ (k : Kind). least (misses m.value k)) k) n

-- ---- checks at sites

pub in_items_step : (check : Check) (total best next found : Option (List Token)) (js : List Json) (i : ℕ) (item : Json)
    → total ≡ lesser best (least (in_items check i (drop i js)))
    → i < length js → item ≡ get_or js i item
    → found ≡ least (check item) → next ≡ lesser best (option_map (λ q. Index i ∷ q) found)
    → total ≡ lesser next (least (in_items check (i + 1) (drop (i + 1) js)))
in_items_step check total best next found = item_step total best next found (in_items check) check (λ i j js. refl)

pub in_members_step : (check : Check) (total best next found : Option (List Token)) (ms : List Member) (i : ℕ) (m : Member)
    → total ≡ lesser best (least (in_members check (drop i ms)))
    → i < length ms → m ≡ get_or ms i m
    → found ≡ least (check m.value) → next ≡ lesser best (option_map (λ q. Name m.name ∷ q) found)
    → total ≡ lesser next (least (in_members check (drop (i + 1) ms)))
in_members_step check total best next found = member_step total best next found (in_members check) (λ m. check m.value) (λ m ms. refl)

pub bad_names_step : (test : List ℕ → Bool) (total best next found : Option (List Token)) (ms : List Member) (i : ℕ) (m : Member)
    → total ≡ lesser best (least (bad_names_in test (drop i ms)))
    → i < length ms → m ≡ get_or ms i m
    → found ≡ least (here_unless (test m.name)) → next ≡ lesser best (option_map (λ q. Name m.name ∷ q) found)
    → total ≡ lesser next (least (bad_names_in test (drop (i + 1) ms)))
bad_names_step test total best next found = member_step total best next found (bad_names_in test) (λ m. here_unless (test m.name)) (λ m ms. refl)

pub sites_step : (check : Check) (tree : Json) (total best next found : Option (List Token)) (sites : List (Bor (List Way))) (i : ℕ) (d : Bor (List Way))
    → total ≡ lesser best (least (at_each (map seen_site (drop i sites)) check tree))
    → i < length sites → found ≡ least (at (seen_site (get_or sites i d)) check tree) → next ≡ lesser best found
    → total ≡ lesser next (least (at_each (map seen_site (drop (i + 1) sites)) check tree))
sites_step check tree total best next found sites i d inv h f n =
    inv
    ∙ ap (λ (rest : List (Bor (List Way))). lesser best (least (at_each (map seen_site rest) check tree))) (drop-cons sites i d h)
    ∙ one_part best (at (seen_site (get_or sites i d)) check tree) _
    ∙ ap₂ (λ (o : Option (List Token)) (k : ℕ). lesser o (least (at_each (map seen_site (drop k sites)) check tree))) (ap (lesser best) (sym f) ∙ sym n) (sym (add-one i))

-- ---- texts that stand a second time

one_place : (b : Bool) (i : ℕ) (name : List ℕ) → least (cond b ((Index i ∷ Name name ∷ []) ∷ []) []) ≡ option_map (λ q. Index i ∷ q) (cond b (Some (Name name ∷ [])) None)
one_place true i name = refl
one_place false i name = refl

pub repeats_step : (key : Json → Option (List ℕ)) (told : Json → List ℕ) (total best next found : Option (List Token)) (js : List Json) (i : ℕ) (j : Json) (b : Bool)
    → total ≡ lesser best (least (repeats_after key told (take i js) i (drop i js)))
    → i < length js → j ≡ get_or js i j → b ≡ stands_before key (take i js) (key j)
    → found ≡ cond b (Some (Name (told j) ∷ [])) None → next ≡ lesser best (option_map (λ q. Index i ∷ q) found)
    → total ≡ lesser next (least (repeats_after key told (take (i + 1) js) (i + 1) (drop (i + 1) js)))
repeats_step key told total best next found js i j b inv h is was f n =
    inv
    ∙ ap (λ (rest : List Json). lesser best (least (repeats_after key told (take i js) i rest))) (rest_of js i j h is)
    ∙ one_part best (cond (stands_before key (take i js) (key j)) ((Index i ∷ Name (told j) ∷ []) ∷ []) []) _
    ∙ ap₂ (λ (o : Option (List Token)) (k : ℕ). lesser o (least (repeats_after key told (take i js ++ j ∷ []) k (drop (i + 1) js))))
    (ap (lesser best) (one_place _ i (told j) ∙ ap (λ (c : Bool). option_map (λ q. Index i ∷ q) (cond c (Some (Name (told j) ∷ [])) None)) (sym was) ∙ ap (option_map (λ q. Index i ∷ q)) (sym f)) ∙ sym n)
    (sym (add-one i))
    ∙ ap (λ (e : List Json). lesser next (least (repeats_after key told e (i + 1) (drop (i + 1) js)))) (sym (take_more js i j h ∙ ap (λ x. take i js ++ x ∷ []) (sym is)))

pub in_member_found : (check : Check) (name : List ℕ) (o : Option Json) (k : Json) (found : Option (List Token)) → o ≡ Some k → found ≡ least (check k)
    → option_map (λ q. Name name ∷ q) found ≡ least (in_member check name o)
in_member_found check name o k found e f = ap (option_map (λ q. Name name ∷ q)) f ∙ sym (least-under (Name name) (check k)) ∙ ap (λ o. least (in_member check name o)) (sym e)
