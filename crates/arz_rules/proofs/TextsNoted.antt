-- Texts at sites and texts that earlier items have, one item or member more at a time.
use Rattle.std.proofs.Common.{◌≡◌, ℕ, ◌+◌, ◌<◌, List, [], ◌∷◌, ◌++◌, map, length, get_or, take, drop, Option, Some, None, Bool, true, false, ◌||◌, refl, sym, ap, ◌∙◌}
use Rattle.std.proofs.lemmas.List.{take_more}
use Rattle.arz_json.specs.declared.tree.Json.{Json}
use Rattle.arz_json.specs.declared.tree.Member.{Member}
use Rattle.arz_json.specs.Look.{text_in}
use Rattle.arz_rules.specs.declared.sets.TextSet.{TextSet}
use Rattle.arz_rules.specs.Sites.{all_items, all_members}
use Rattle.arz_rules.specs.Sets.{is_among, is_text, has, has_text, some_has, stands_before}
use Rattle.arz_rules.proofs.Steps.{rest_of}

or_grouped : (a b c : Bool) → (a || (b || c)) ≡ ((a || b) || c)
or_grouped true b c = refl
or_grouped false b c = refl

or_moved : (a r o : Bool) → (r || (a || o)) ≡ ((a || r) || o)
or_moved true true o = refl
or_moved true false o = refl
or_moved false true o = refl
or_moved false false o = refl

is_among-append : (js ks : List Json) (q : List ℕ) → is_among (map text_in (js ++ ks)) q ≡ (is_among (map text_in js) q || is_among (map text_in ks) q)
is_among-append [] ks q = refl
is_among-append (j ∷ js) ks q = ap (λ b. is_text (text_in j) q || b) (is_among-append js ks q) ∙ or_grouped (is_text (text_in j) q) _ _

module _ (f : Json → List Json) (total : Bool) (q : List ℕ) where
  moved : (js ks : List Json) (old new : Bool)
      → (is_among (map text_in (js ++ ks)) q || old) ≡ total → new ≡ (is_among (map text_in js) q || old)
      → (is_among (map text_in ks) q || new) ≡ total
  moved js ks old new inv n =
      ap (λ b. is_among (map text_in ks) q || b) n
      ∙ or_moved (is_among (map text_in js) q) (is_among (map text_in ks) q) old
      ∙ ap (λ b. b || old) (sym (is_among-append js ks q))
      ∙ inv

  pub items_noted : (js : List Json) (i : ℕ) (j : Json) (old new : Bool) → i < length js → j ≡ get_or js i j
      → (is_among (map text_in (all_items f (drop i js))) q || old) ≡ total
      → new ≡ (is_among (map text_in (f j)) q || old)
      → (is_among (map text_in (all_items f (drop (i + 1) js))) q || new) ≡ total
  items_noted js i j old new h is inv n =
      moved (f j) (all_items f (drop (i + 1) js)) old new (sym (ap (λ (rest : List Json). is_among (map text_in (all_items f rest)) q || old) (rest_of js i j h is)) ∙ inv) n

  pub members_noted : (ms : List Member) (i : ℕ) (m : Member) (old new : Bool) → i < length ms → m ≡ get_or ms i m
      → (is_among (map text_in (all_members f (drop i ms))) q || old) ≡ total
      → new ≡ (is_among (map text_in (f m.value)) q || old)
      → (is_among (map text_in (all_members f (drop (i + 1) ms))) q || new) ≡ total
  members_noted ms i m old new h is inv n =
      moved (f m.value) (all_members f (drop (i + 1) ms)) old new (sym (ap (λ (rest : List Member). is_among (map text_in (all_members f rest)) q || old) (rest_of ms i m h is)) ∙ inv) n

-- ---- earlier items

module _ (key : Json → Option (List ℕ)) where
  pub seen_before : (seen : TextSet) (earlier : List Json) (o : Option (List ℕ)) → ((q : List ℕ) → has seen q ≡ some_has key earlier q) → has_text seen o ≡ stands_before key earlier o
  seen_before seen earlier None h = refl
  seen_before seen earlier (Some q) h = h q

  swapped : (a b c : Bool) → (a || (b || c)) ≡ (b || (a || c))
  swapped true true c = refl
  swapped true false c = refl
  swapped false true c = refl
  swapped false false c = refl

  some_has-one_more : (js : List Json) (j : Json) (s : List ℕ) → some_has key (js ++ j ∷ []) s ≡ (is_text (key j) s || some_has key js s)
  some_has-one_more [] j s = refl
  some_has-one_more (k ∷ ks) j s = ap (λ b. is_text (key k) s || b) (some_has-one_more ks j s) ∙ swapped (is_text (key k) s) (is_text (key j) s) (some_has key ks s)

  pub seen_step : (old new : TextSet) (js : List Json) (i : ℕ) (j : Json) → i < length js → j ≡ get_or js i j
      → ((q : List ℕ) → has old q ≡ some_has key (take i js) q)
      → ((q : List ℕ) → has new q ≡ (is_text (key j) q || has old q))
      → (q : List ℕ) → has new q ≡ some_has key (take (i + 1) js) q
  seen_step old new js i j h is before now q =
      now q
      ∙ ap (λ b. is_text (key j) q || b) (before q)
      ∙ sym (some_has-one_more (take i js) j q)
      ∙ ap (λ (e : List Json). some_has key e q) (sym (take_more js i j h ∙ ap (λ x. take i js ++ x ∷ []) (sym is)))
