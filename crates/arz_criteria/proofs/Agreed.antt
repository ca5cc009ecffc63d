-- Two tests that agree on the patterns of a description give the same places.
use Rattle.std.proofs.Common.{◌≡◌, ℕ, suc, codes, List, [], ◌∷◌, ◌++◌, map, Option, Some, None, Bool, true, false, cond, ◌&&◌, refl, sym, ap, ap₂, subst, ◌∙◌}
use Rattle.std.specs.List.{All, flat_map, filter}
use Rattle.std.specs.Option.{IsSome}
use Rattle.std.proofs.lemmas.List.{map-append}
use Rattle.std.proofs.lemmas.List.Concat.{flat_map-append}
use Rattle.std.proofs.lemmas.List.Elements.{All-nil, All-cons, All-head, All-tail, All-append, All-weaker}
use Rattle.arz_json.specs.declared.tree.Json.{Json}
use Rattle.arz_json.specs.declared.tree.Member.{Member}
use Rattle.arz_json.specs.declared.place.Token.TheVariants.{Name, Index}
use Rattle.arz_json.specs.Look.{member_in}
use Rattle.arz_rx.specs.Patterns.{Told}
use Rattle.arz_components.specs.Described.{is_reuse}
use Rattle.arz_rules.specs.Place.{under}
use Rattle.arz_rules.specs.Sites.{Step, member, each_item, each_member, Check, items, members, in_member, in_items, in_members, at, at_each, after, all_items, all_members, if_there, found}
use Rattle.arz_sites.specs.Sites.{steps, items_of, unless_reuse, listed_actions, shared_actions, criteria_of}
use Rattle.arz_criteria.specs.Rules.{SaysReading, condition_if, is_regex, pattern_of, bad_pattern, bad_patterns, patterns_at}
use Rattle.arz_criteria.specs.Laws.{ReadingsAreTold, OneOutcome}

-- ---- lists

module _ {X : Type 0} (P : X → Type 0) where
  All-left : (xs ys : List X) → All P (xs ++ ys) → All P xs
  All-left [] ys h = All-nil P
  All-left (x ∷ xs) ys h = All-cons P x xs (All-head P x (xs ++ ys) h) (All-left xs ys (All-tail P x (xs ++ ys) h))

  All-right : (xs ys : List X) → All P (xs ++ ys) → All P ys
  All-right [] ys h = h
  All-right (x ∷ xs) ys h = All-right xs ys (All-tail P x (xs ++ ys) h)

-- ---- checks that agree at what is found

module _ (c d : Check) where
  abbrev AreSame : List Json → Type 0
  AreSame js = All (λ j. c j ≡ d j) js

-- below one step
module _ (c d : Check) (P : Json → Type 0) (f : Json → List Json) (same : (j : Json) → All P (f j) → c j ≡ d j) where
  same_there : (name : List ℕ) (o : Option Json) → All P (if_there f o) → in_member c name o ≡ in_member d name o
  same_there name None h = refl
  same_there name (Some j) h = ap (under (Name name)) (same j h)

  same_items : (i : ℕ) (js : List Json) → All P (all_items f js) → in_items c i js ≡ in_items d i js
  same_items i [] h = refl
  same_items i (j ∷ js) h = ap₂ (λ a b. under (Index i) a ++ b) (same j (All-left P (f j) (all_items f js) h)) (same_items (suc i) js (All-right P (f j) (all_items f js) h))

  same_members : (ms : List Member) → All P (all_members f ms) → in_members c ms ≡ in_members d ms
  same_members [] h = refl
  same_members (m ∷ ms) h = ap₂ (λ a b. under (Name m.name) a ++ b) (same m.value (All-left P (f m.value) (all_members f ms) h)) (same_members ms (All-right P (f m.value) (all_members f ms) h))

module _ (c d : Check) where
  at_same : (site : List Step) (root : Json) → AreSame c d (found site root) → at site c root ≡ at site d root
  at_same [] root h = All-head (λ j. c j ≡ d j) root [] h
  at_same (member name ∷ site) root h = same_there (at site c) (at site d) (λ j. c j ≡ d j) (found site) (at_same site) name (member_in name root) h
  at_same (each_item ∷ site) root h = same_items (at site c) (at site d) (λ j. c j ≡ d j) (found site) (at_same site) 0 (items root) h
  at_same (each_member ∷ site) root h = same_members (at site c) (at site d) (λ j. c j ≡ d j) (found site) (at_same site) (members root) h

-- ---- what is found further on

module _ (P Q : Json → Type 0) (f g : Json → List Json) (step : (j : Json) → All P (f j) → All Q (g j)) where
  all_there : (o : Option Json) → All P (if_there f o) → All Q (if_there g o)
  all_there None h = All-nil Q
  all_there (Some j) h = step j h

  all_at_items : (js : List Json) → All P (all_items f js) → All Q (all_items g js)
  all_at_items [] h = All-nil Q
  all_at_items (j ∷ js) h = All-append Q (g j) (all_items g js) (step j (All-left P (f j) (all_items f js) h)) (all_at_items js (All-right P (f j) (all_items f js) h))

  all_at_members : (ms : List Member) → All P (all_members f ms) → All Q (all_members g ms)
  all_at_members [] h = All-nil Q
  all_at_members (m ∷ ms) h = All-append Q (g m.value) (all_members g ms) (step m.value (All-left P (f m.value) (all_members f ms) h)) (all_at_members ms (All-right P (f m.value) (all_members f ms) h))

module _ (P : Json → Type 0) (more : List Step) where
  found_after : (site : List Step) (root : Json) → All P (found (site ++ more) root) → All (λ j. All P (found more j)) (found site root)
  found_after [] root h = All-cons (λ j. All P (found more j)) root [] h (All-nil (λ j. All P (found more j)))
  found_after (member name ∷ site) root h = all_there P (λ j. All P (found more j)) (found (site ++ more)) (found site) (found_after site) (member_in name root) h
  found_after (each_item ∷ site) root h = all_at_items P (λ j. All P (found more j)) (found (site ++ more)) (found site) (found_after site) (items root) h
  found_after (each_member ∷ site) root h = all_at_members P (λ j. All P (found more j)) (found (site ++ more)) (found site) (found_after site) (members root) h

-- ---- tests of patterns

module _ (refuses refuses' : List ℕ → Bool) where
  abbrev Agree : List ℕ → Type 0
  Agree p = refuses p ≡ refuses' p

  same_at : (j : Json) (rest : List Json) (b : Bool) → is_regex j ≡ b → All Agree (map pattern_of (cond b (j ∷ rest) rest))
      → (bad_pattern refuses j ≡ bad_pattern refuses' j) × All Agree (map pattern_of rest)
  same_at j rest true e h = (ap (λ r. condition_if (is_regex j && r)) (All-head Agree (pattern_of j) (map pattern_of rest) h), All-tail Agree (pattern_of j) (map pattern_of rest) h)
  same_at j rest false e h = (ap (λ b. condition_if (b && refuses (pattern_of j))) e ∙ sym (ap (λ b. condition_if (b && refuses' (pattern_of j))) e), h)

  same_tests : (js : List Json) → All Agree (map pattern_of (filter is_regex js)) → AreSame (bad_pattern refuses) (bad_pattern refuses') js
  same_tests [] h = All-nil (λ j. bad_pattern refuses j ≡ bad_pattern refuses' j)
  same_tests (j ∷ js) h = let s = same_at j (filter is_regex js) (is_regex j) refl h in All-cons (λ j. bad_pattern refuses j ≡ bad_pattern refuses' j) j js s.0 (same_tests js s.1)

  -- at the criteria of actions
  module _ (root : Json) (through : Check → Check) (local : (c d : Check) (j : Json) → c j ≡ d j → through c j ≡ through d j) where
    same_each : (sites : List (List Step)) → All Agree (flat_map (λ site. patterns_at site root) (after criteria_of sites))
        → at_each sites (through (at criteria_of (bad_pattern refuses))) root ≡ at_each sites (through (at criteria_of (bad_pattern refuses'))) root
    same_each [] h = refl
    same_each (site ∷ sites) h =
        let c = at criteria_of (bad_pattern refuses) in
        let d = at criteria_of (bad_pattern refuses') in
        let rest = flat_map (λ site. patterns_at site root) (after criteria_of sites) in
        let here = same_tests (found (site ++ criteria_of) root) (All-left Agree (patterns_at (site ++ criteria_of) root) rest h) in
        let below = All-weaker (λ j. AreSame (bad_pattern refuses) (bad_pattern refuses') (found criteria_of j)) (λ j. through c j ≡ through d j)
        (λ j s. local c d j (at_same (bad_pattern refuses) (bad_pattern refuses') criteria_of j s)) (found site root) (found_after (λ j. bad_pattern refuses j ≡ bad_pattern refuses' j) criteria_of site root here) in
        ap₂ (λ a b. a ++ b) (at_same (through c) (through d) site root below) (same_each sites (All-right Agree (patterns_at (site ++ criteria_of) root) rest h))

  pub same_places : (root : Json) → All Agree (flat_map (λ site. patterns_at site root) ((steps ++ items_of (codes "successCriteria")) ∷ after criteria_of (listed_actions ++ shared_actions)))
      → bad_patterns refuses root ≡ bad_patterns refuses' root
  same_places root h =
      let site = steps ++ items_of (codes "successCriteria") in
      let of : List (List Step) → List (List ℕ) = λ sites. flat_map (λ site. patterns_at site root) (after criteria_of sites) in
      let listed = listed_actions in
      let shared = shared_actions in
      let apart : of (listed ++ shared) ≡ of listed ++ of shared =
      ap (flat_map (λ site. patterns_at site root)) (map-append (λ site. site ++ criteria_of) listed shared) ∙ flat_map-append (λ site. patterns_at site root) (after criteria_of listed) (after criteria_of shared) in
      let actions = subst (All Agree) apart (All-right Agree (patterns_at site root) (of (listed ++ shared)) h) in
      ap₂ (λ a b. a ++ b) (at_same (bad_pattern refuses) (bad_pattern refuses') site root (same_tests (found site root) (All-left Agree (patterns_at site root) (of (listed ++ shared)) h)))
      (ap₂ (λ a b. a ++ b) (same_each root unless_reuse (λ c d j e. ap (cond (is_reuse j) []) e) listed (All-left Agree (of listed) (of shared) actions))
      (same_each root (λ c. c) (λ c d j e. e) shared (All-right Agree (of listed) (of shared) actions)))

-- ---- the laws

no_reading : Told → Bool
no_reading None = false
no_reading (Some None) = true
no_reading (Some (Some b)) = false

says_reading : (t : Told) → SaysReading t (no_reading t)
unfolding no_reading
says_reading None = tt
says_reading (Some None) = refl
says_reading (Some (Some b)) = refl

pub readings_are_told : ReadingsAreTold
readings_are_told told root = (λ p. no_reading (told p []), record { exact = λ k d h. says_reading _ })

agreed : (t : Told) (b b' : Bool) → IsSome t → SaysReading t b → SaysReading t b' → b ≡ b'
agreed None b b' h p q = absurd (cc)
agreed (Some None) b b' h p q = p ∙ sym q
agreed (Some (Some found)) b b' h p q = p ∙ sym q

pub one_outcome : OneOutcome
one_outcome told root refuses refuses' are a b = same_places refuses refuses' root (λ k d h. agreed _ _ _ (are k d h) (a.exact k d h) (b.exact k d h))
