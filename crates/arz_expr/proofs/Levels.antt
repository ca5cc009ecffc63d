-- Items and members of a template, one after another, and the form of what they give.
use Rattle.std.proofs.Common.{◌≡◌, ℕ, ◌+◌, drop, Bool, true, ◌&&◌, List, [], ◌∷◌, ◌++◌, map, Option, Result, Ok, Err, refl, ap, ap₂, sym, ◌∙◌, append_assoc}
use Rattle.std.proofs.lemmas.Bool.{and_parts, and_from}
use Rattle.arz_json.specs.Tree.{has_form, form_step, all_true, are_ordered, is_below_first}
use Rattle.arz_json.specs.Writing.{data_of}
use Rattle.arz_json.specs.Answer.{◌>>=◌}
use Rattle.arz_json.specs.declared.tree.Json.{Json}
use Rattle.arz_json.specs.declared.tree.Json.TheVariants.{Object}
use Rattle.arz_json.specs.declared.tree.Member.{Member}
use Rattle.arz_json.proofs.Layers.{folded-Object, values_of-map, members_order, pair_of}
use Rattle.arz_expr.specs.Filling.{Fault, mapped, all_of, filled_member, fill_step, with_values}
use Rattle.arz_expr.specs.declared.syntax.Base.{Base}

module _ {A B : Type 0} (f : A → Result B Fault) (form : A → Bool) (gave : B → Bool) where
  -- what stands there and what is left make the whole, and all of it is in form
  abbrev pub Goes : List A → ℕ → List B → Type 0
  Goes items i done =
      (mapped (λ rest. done ++ rest) (all_of (map f (drop i items))) ≡ all_of (map f items)) × (all_true (map form (drop i items)) ≡ true)
      × (all_true (map gave done) ≡ true)

  behind : (done : List B) (b : B) (r : Result (List B) Fault) → mapped (λ rest. (done ++ b ∷ []) ++ rest) r ≡ mapped (λ rest. done ++ rest) (mapped (λ rest. b ∷ rest) r)
  behind done b (Ok rest) = ap Ok (append_assoc done (b ∷ []) rest)
  behind done b (Err e) = refl

  on : (done : List B) (x : A) (b : B) (rest : List A) → f x ≡ Ok b
      → mapped (λ others. (done ++ b ∷ []) ++ others) (all_of (map f rest)) ≡ mapped (λ others. done ++ others) (all_of (map f (x ∷ rest)))
  on done x b rest is =
      behind done b (all_of (map f rest))
      ∙ sym (ap (λ (r : Result B Fault). mapped (λ others. done ++ others) (r >>= (λ a. mapped (λ others. a ∷ others) (all_of (map f rest))))) is)

  gave-push : (done : List B) (b : B) → all_true (map gave done) ≡ true → gave b ≡ true → all_true (map gave (done ++ b ∷ [])) ≡ true
  gave-push [] b h k = and_from (gave b) true k refl
  gave-push (d ∷ done) b h k =
      let parts = and_parts (gave d) (all_true (map gave done)) h in
      and_from (gave d) (all_true (map gave (done ++ b ∷ []))) parts.0 (gave-push done b parts.1 k)

  pub goes-on : (items : List A) (i : ℕ) (done new : List B) (x : A) (b : B) → drop i items ≡ x ∷ drop (i + 1) items → f x ≡ Ok b → gave b ≡ true → new ≡ done ++ b ∷ []
      → Goes items i done → Goes items (i + 1) new
  goes-on items i done new x b cut is ok pushed goes = (
    ap (λ xs. mapped (λ rest. xs ++ rest) (all_of (map f (drop (i + 1) items)))) pushed ∙ on done x b (drop (i + 1) items) is
        ∙ sym (ap (λ xs. mapped (λ rest. done ++ rest) (all_of (map f xs))) cut) ∙ goes.0,
    (and_parts (form x) (all_true (map form (drop (i + 1) items))) (sym (ap (λ xs. all_true (map form xs)) cut) ∙ goes.1)).1,
    ap (λ xs. all_true (map gave xs)) pushed ∙ gave-push done b goes.2 ok,
  )

-- ---- objects

module _ (found : Base → Option Json) where
  abbrev pub member_of : Member → Result Member Fault
  member_of m = filled_member (m.name, with_values found m.value)

  members-of : (ms : List Member) → map filled_member (map (pair_of (Result Json Fault) (fill_step found)) ms) ≡ map member_of ms
  members-of [] = refl
  members-of (m ∷ ms) = ap (λ (rs : List (Result Member Fault)). member_of m ∷ rs) (members-of ms)

  pub with_values-object : (ms : List Member) → with_values found (Object ms) ≡ mapped Object (all_of (map member_of ms))
  with_values-object ms = folded-Object (Result Json Fault) (fill_step found) ms ∙ ap (λ (rs : List (Result Member Fault)). mapped Object (all_of rs)) (members-of ms)

  names-step : (m : Member) (names : List (List ℕ)) (r : Result Json Fault) (rs : Result (List Member) Fault) (ns : List Member)
      → (filled_member (m.name, r) >>= (λ a. mapped (λ others. a ∷ others) rs)) ≡ Ok ns → ((os : List Member) → rs ≡ Ok os → map (λ n. n.name) os ≡ names) → map (λ n. n.name) ns ≡ m.name ∷ names
  names-step m names (Ok v) (Ok os) ns h rest =
      let is : ns ≡ record { name = m.name; value = v } ∷ os = cc in ap (map (λ n. n.name)) is ∙ ap (λ others. m.name ∷ others) (rest os refl)
  names-step m names (Ok v) (Err e) ns h rest = absurd (cc)
  names-step m names (Err e) rs ns h rest = absurd (cc)

  names-filled : (ms ns : List Member) → all_of (map member_of ms) ≡ Ok ns → map (λ n. n.name) ns ≡ map (λ m. m.name) ms
  names-filled [] ns h = let is : ns ≡ [] = cc in ap (map (λ n. n.name)) is
  names-filled (m ∷ ms) ns h = names-step m (map (λ m. m.name) ms) (with_values found m.value) (all_of (map member_of ms)) ns h (λ os e. names-filled ms os e)

first-by : {A B : Type 0} (f : Json → A) (g : Json → B) (k l : List ℕ) (ms ns : List Member) → k ≡ l → map (λ m. m.name) ms ≡ map (λ n. n.name) ns
    → is_below_first k (map (λ m. (m.name, f m.value)) ms) ≡ is_below_first l (map (λ n. (n.name, g n.value)) ns)
first-by f g k l [] [] e h = refl
first-by f g k l [] (n ∷ ns) e h = absurd (cc)
first-by f g k l (m ∷ ms) [] e h = absurd (cc)
first-by f g k l (m ∷ ms) (n ∷ ns) e h = let same : m.name ≡ n.name = cc in rw (e, same) refl

-- the order of members is that of their names
ordered-by : {A B : Type 0} (f : Json → A) (g : Json → B) (ms ns : List Member) → map (λ m. m.name) ms ≡ map (λ n. n.name) ns
    → are_ordered (map (λ m. (m.name, f m.value)) ms) ≡ are_ordered (map (λ n. (n.name, g n.value)) ns)
ordered-by f g [] [] h = refl
ordered-by f g [] (n ∷ ns) h = absurd (cc)
ordered-by f g (m ∷ ms) [] h = absurd (cc)
ordered-by f g (m ∷ ms) (n ∷ ns) h =
    let first : m.name ≡ n.name = cc in
    let rest : map (λ m. m.name) ms ≡ map (λ n. n.name) ns = cc in
    ap₂ (λ a b. a && b) (first-by f g m.name n.name ms ns first rest) (ordered-by f g ms ns rest)

-- a filled object has the names of the template's, in their order
pub object-form : (found : Base → Option Json) (ms ns : List Member) → has_form (Object ms) ≡ true → all_of (map (member_of found) ms) ≡ Ok ns → all_true (map (λ n. has_form n.value) ns) ≡ true
    → has_form (Object ns) ≡ true
object-form found ms ns whole h forms =
    folded-Object Bool form_step ns
    ∙ and_from _ _ (ordered-by has_form data_of ns ms (names-filled found ms ns h) ∙ members_order ms whole) (ap all_true (values_of-map Bool form_step ns) ∙ forms)
