-- Parts of lists of places.
use Rattle.std.proofs.Common.{◌≡◌, ℕ, ◌+◌, ◌<◌, List, ◌∷◌, ◌++◌, length, get_or, drop, drop-cons, add-one, Option, option_map, sym, ap, ap₂, ◌∙◌}
use Rattle.arz_json.specs.declared.place.Token.{Token}
use Rattle.arz_rules.specs.Place.{least, lesser, under}
use Rattle.arz_json.specs.declared.tree.Json.{Json}
use Rattle.arz_rules.specs.Sites.{Step, Check, at_each}
use Rattle.arz_rules.proofs.Places.{lesser_grouped, least-append, least-under}

pub one_more : (best : Option (List Token)) (t : Token) (ps qs : List (List Token)) → lesser best (least (under t ps ++ qs)) ≡ lesser (lesser best (option_map (λ p. t ∷ p) (least ps))) (least qs)
one_more best t ps qs = ap (lesser best) (least-append (under t ps) qs ∙ ap (λ a. lesser a (least qs)) (least-under t ps)) ∙ sym (lesser_grouped best _ (least qs))

pub rest_of : {A : Type 0} (xs : List A) (i : ℕ) (x : A) → i < length xs → x ≡ get_or xs i x → drop i xs ≡ x ∷ drop (i + 1) xs
rest_of xs i x h is = drop-cons xs i x h ∙ ap₂ (λ y k. y ∷ drop k xs) (sym is) (sym (add-one i))

pub one_part : (best : Option (List Token)) (ps qs : List (List Token)) → lesser best (least (ps ++ qs)) ≡ lesser (lesser best (least ps)) (least qs)
one_part best ps qs = ap (lesser best) (least-append ps qs) ∙ sym (lesser_grouped best (least ps) (least qs))

-- the lesser of the least of two parts
pub joined : (ps qs : List (List Token)) (a b r : Option (List Token)) → r ≡ lesser a b → a ≡ least ps → b ≡ least qs → r ≡ least (ps ++ qs)
joined ps qs a b r n p q = n ∙ ap₂ lesser p q ∙ sym (least-append ps qs)

-- sites as the code writes them
pub on_sites : (check : Check) (tree : Json) (sites : List (List Step)) (r : Option (List Token)) (written : List (List Step)) → written ≡ sites → r ≡ least (at_each written check tree) → r ≡ least (at_each sites check tree)
on_sites check tree sites r written s e = e ∙ ap (λ (w : List (List Step)). least (at_each w check tree)) s
