-- The patterns of criteria, one tree or one site more at a time.
use Rattle.std.proofs.Common.{◌≡◌, ℕ, ◌+◌, ◌<◌, List, ◌∷◌, ◌++◌, map, length, get_or, drop, drop-cons, add-one, sym, ap, ◌∙◌, append_assoc}
use denote.Ref.{Bor}
use Rattle.std.proofs.lemmas.List.{map-append}
use Rattle.std.proofs.lemmas.List.Elements.{filter-append}
use Rattle.std.specs.List.{flat_map, filter}
use Rattle.arz_json.specs.declared.tree.Json.{Json}
use Rattle.arz_json.specs.declared.tree.Member.{Member}
use Rattle.arz_rules.specs.declared.sites.Way.{Way}
use Rattle.arz_rules.specs.Sites.{seen_site, found, all_items, all_members}
use Rattle.arz_sites.proofs.Parts.{rest_of}
use Rattle.arz_criteria.specs.Rules.{is_regex, pattern_of, patterns_at}
use Rattle.arz_criteria.specs.Taken.{patterns_among}

patterns_among-append : (js ks : List Json) → patterns_among (js ++ ks) ≡ patterns_among js ++ patterns_among ks
patterns_among-append js ks = ap (map pattern_of) (filter-append is_regex js ks) ∙ map-append pattern_of (filter is_regex js) (filter is_regex ks)

-- patterns that are put come from what is left to what is there
moved : (old one rest new total : List (List ℕ)) → old ++ (one ++ rest) ≡ total → new ≡ old ++ one → new ++ rest ≡ total
moved old one rest new total inv n = ap (λ l. l ++ rest) n ∙ append_assoc old one rest ∙ inv

module _ (f : Json → List Json) (total old new : List (List ℕ)) where
  pub items_gathered : (js : List Json) (i : ℕ) (j : Json) → i < length js → j ≡ get_or js i j
      → old ++ patterns_among (all_items f (drop i js)) ≡ total
      → new ≡ old ++ patterns_among (f j)
      → new ++ patterns_among (all_items f (drop (i + 1) js)) ≡ total
  items_gathered js i j h is inv n =
      moved old (patterns_among (f j)) (patterns_among (all_items f (drop (i + 1) js))) new total
      (ap (λ l. old ++ l) (sym (ap (λ (rest : List Json). patterns_among (all_items f rest)) (rest_of js i j h is) ∙ patterns_among-append (f j) (all_items f (drop (i + 1) js)))) ∙ inv) n

  pub members_gathered : (ms : List Member) (i : ℕ) (m : Member) → i < length ms → m ≡ get_or ms i m
      → old ++ patterns_among (all_members f (drop i ms)) ≡ total
      → new ≡ old ++ patterns_among (f m.value)
      → new ++ patterns_among (all_members f (drop (i + 1) ms)) ≡ total
  members_gathered ms i m h is inv n =
      moved old (patterns_among (f m.value)) (patterns_among (all_members f (drop (i + 1) ms))) new total
      (ap (λ l. old ++ l) (sym (ap (λ (rest : List Member). patterns_among (all_members f rest)) (rest_of ms i m h is) ∙ patterns_among-append (f m.value) (all_members f (drop (i + 1) ms)))) ∙ inv) n

pub sites_gathered : (root : Json) (total old new : List (List ℕ)) (sites : List (Bor (List Way))) (i : ℕ) (d : Bor (List Way)) → i < length sites
    → old ++ flat_map (λ site. patterns_at site root) (map seen_site (drop i sites)) ≡ total
    → new ≡ old ++ patterns_among (found (seen_site (get_or sites i d)) root)
    → new ++ flat_map (λ site. patterns_at site root) (map seen_site (drop (i + 1) sites)) ≡ total
sites_gathered root total old new sites i d h inv n =
    moved old (patterns_among (found (seen_site (get_or sites i d)) root)) (flat_map (λ site. patterns_at site root) (map seen_site (drop (i + 1) sites))) new total
    (ap (λ l. old ++ l) (sym (ap (λ (rest : List (Bor (List Way))). flat_map (λ site. patterns_at site root) (map seen_site rest)) (drop-cons sites i d h ∙ ap (λ k. get_or sites i d ∷ drop k sites) (sym (add-one i))))) ∙ inv) n
