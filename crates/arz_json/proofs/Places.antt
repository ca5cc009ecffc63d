-- Values that are put at places of a tree.
use Rattle.std.proofs.Common.{◌≡◌, ℕ, zero, suc, ◌<◌, List, [], ◌∷◌, map, length, set, Bool, true, false, cond, Option, Some, None, option_map, option_and_then, refl, sym, ap, ◌∙◌, arith}
use Rattle.std.specs.Prelude.{slice_get, IfSome}
use Rattle.std.specs.Str.{bytes_eq}
use Rattle.json.proofs.Found.{Some_inj}
use Rattle.arz_json.specs.Tree.{depth, depth_step, largest}
use Rattle.arz_json.specs.Pointer.{member_named}
use Rattle.arz_json.specs.Put.{place_of, set_value}
use Rattle.arz_json.specs.declared.tree.Json.{Json}
use Rattle.arz_json.specs.declared.tree.Json.TheVariants.{Object}
use Rattle.arz_json.specs.declared.tree.Member.{Member}
use Rattle.arz_json.proofs.Layers.{folded-Object, values_of-map}

pub depth_object : (ms : List Member) → depth (Object ms) ≡ suc (largest (map (λ m. depth m.value) ms))
depth_object ms = folded-Object ℕ depth_step ms ∙ ap (λ n. suc n) (ap largest (values_of-map ℕ depth_step ms))

-- ---- members

pub set_value-set : (ms : List Member) (i : ℕ) (m : Member) (k : Json) → slice_get ms i ≡ Some m → set ms i (record { name = m.name; value = k }) ≡ set_value ms i k
set_value-set [] i m k e = refl
set_value-set (l ∷ ms) zero m k e = let is : l ≡ m = Some_inj l m e in ap (λ (x : Member). (let y : Member = record { name = x.name; value = k } in y) ∷ ms) (sym is)
set_value-set (l ∷ ms) (suc i) m k e = ap (λ more. l ∷ more) (set_value-set ms i m k e)

pub slice_get-values : (ms : List Member) (i : ℕ) (m : Member) → slice_get ms i ≡ Some m → slice_get (map (λ m. m.value) ms) i ≡ Some m.value
slice_get-values [] i m e = absurd (cc)
slice_get-values (l ∷ ms) zero m e = ap (λ (x : Member). Some x.value) (Some_inj l m e)
slice_get-values (l ∷ ms) (suc i) m e = slice_get-values ms i m e

place_within_at : (b : Bool) (o : Option ℕ) (n i : ℕ) → cond b (Some 0) (option_map (λ k. suc k) o) ≡ Some i → ((k : ℕ) → o ≡ Some k → k < n) → i < suc n
place_within_at true o n i e h = let z : 0 ≡ i = Some_inj 0 i e in omega arith
place_within_at false None n i e h = absurd (cc)
place_within_at false (Some k) n i e h = let z : suc k ≡ i = Some_inj (suc k) i e in let less : k < n = h k refl in omega arith

pub place_within : (ms : List Member) (name : List ℕ) (i : ℕ) → place_of ms name ≡ Some i → i < length (map (λ m. m.value) ms)
place_within [] name i e = absurd (cc)
place_within (m ∷ ms) name i e = place_within_at (bytes_eq m.name name) (place_of ms name) (length (map (λ m. m.value) ms)) i e (λ k. place_within ms name k)

-- the value of the member with that name stands at its place
member_placed_at : (b : Bool) (m : Member) (ms : List Member) (name : List ℕ) → option_and_then (slice_get (map (λ m. m.value) ms)) (place_of ms name) ≡ member_named ms name
    → option_and_then (slice_get (map (λ m. m.value) (m ∷ ms))) (cond b (Some 0) (option_map (λ k. suc k) (place_of ms name))) ≡ cond b (Some m.value) (member_named ms name)
member_placed_at true m ms name e = refl
member_placed_at false m ms name e = later (place_of ms name) e
  where
    later : (o : Option ℕ) → option_and_then (slice_get (map (λ m. m.value) ms)) o ≡ member_named ms name → option_and_then (slice_get (map (λ m. m.value) (m ∷ ms))) (option_map (λ k. suc k) o) ≡ member_named ms name
    later None e = e
    later (Some k) e = e

pub member_placed : (ms : List Member) (name : List ℕ) → option_and_then (slice_get (map (λ m. m.value) ms)) (place_of ms name) ≡ member_named ms name
member_placed [] name = refl
member_placed (m ∷ ms) name = member_placed_at (bytes_eq m.name name) m ms name (member_placed ms name)

some_within : (o : Option ℕ) (n : ℕ) → ((i : ℕ) → o ≡ Some i → i < n) → IfSome o (λ i. i < n)
some_within None n h = tt
some_within (Some i) n h = h i refl

pub places_within : (ms : List Member) (o : Option (List ℕ)) → IfSome (option_and_then (place_of ms) o) (λ i. i < length (map (λ m. m.value) ms))
places_within ms None = tt
places_within ms (Some name) = some_within (place_of ms name) _ (λ i e. place_within ms name i e)
