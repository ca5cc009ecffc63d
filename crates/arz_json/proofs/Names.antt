-- A child has one token.
use Rattle.std.proofs.Common.{◌≡◌, ◌≢◌, ◌==◌, inl, inr, ℕ, suc, Bool, true, false, cond, List, [], ◌∷◌, Option, Some, None, option_map, if◌then◌else◌, refl, sym, ap, ◌∙◌, arith, ne_eqb}
use Rattle.std.specs.Str.{bytes_eq}
use Rattle.std.proofs.lemmas.Bool.{cases_eq}
use Rattle.std.proofs.lemmas.Option.{option_and_then_some}
use Rattle.std.proofs.lemmas.Slice.Eq.{bytes_eq-Decides}
use Rattle.json.proofs.Found.{Some_inj}
use Rattle.serde_json.proofs.Paths.{Lacks}
use Rattle.arz_json.specs.Pointer.{decoded}
use Rattle.arz_json.specs.Put.{place_of, child_in}
use Rattle.arz_json.specs.declared.tree.Json.{Json}
use Rattle.arz_json.specs.declared.tree.Json.TheOpen.{Json-F}
use Rattle.arz_json.specs.declared.tree.Member.{Member}
use Rattle.arz_json.proofs.Indexes.{index_spelt}
use Rattle.arz_json.proofs.Lacks.{lacks-rest}
use Rattle.arz_json.proofs.Pointers.{decoded_plain, decoded_bare, decoded_slash, decoded_tilde, decoded_other}

mapped : {A B : Type 0} (f : A → B) (o : Option A) (b : B) → option_map f o ≡ Some b → (a : A) × (o ≡ Some a) × (f a ≡ b)
mapped f None b e = absurd (cc)
mapped f (Some a) b e = (a, refl, Some_inj (f a) b e)

-- ---- a name has one token

-- the token that spells the name (RFC 6901, section 3)
abbrev token_of : List ℕ → List ℕ
token_of [] = []
token_of (x ∷ name) = if x == 47 then 126 ∷ 49 ∷ token_of name else (if x == 126 then 126 ∷ 48 ∷ token_of name else x ∷ token_of name)

plain : (x : ℕ) (rest name : List ℕ) → x ≢ 126 → x ≢ 47 → ((n : List ℕ) → decoded rest ≡ Some n → rest ≡ token_of n) → decoded (x ∷ rest) ≡ Some name → x ∷ rest ≡ token_of name
plain x rest name tilde slash more e =
    let m = mapped (λ n. x ∷ n) (decoded rest) name (sym (decoded_plain x rest tilde) ∙ e) in
    let spelt : token_of (x ∷ m.0) ≡ x ∷ token_of m.0 = rw (ne_eqb x 47 slash, ne_eqb x 126 tilde) refl in
    ap (λ t. x ∷ t) (more m.0 m.1) ∙ sym spelt ∙ ap token_of m.2

escaped : (y : ℕ) (rest name : List ℕ) → ((n : List ℕ) → decoded rest ≡ Some n → rest ≡ token_of n) → decoded (126 ∷ y ∷ rest) ≡ Some name → 126 ∷ y ∷ rest ≡ token_of name
escaped y rest name more e =
    elim (cases_eq y 49) [
      | inl one ↦
          let m = mapped (λ n. 47 ∷ n) (decoded rest) name (sym (decoded_slash rest) ∙ ap (λ z. decoded (126 ∷ z ∷ rest)) (sym one) ∙ e) in
          ap (λ z. 126 ∷ z ∷ rest) one ∙ ap (λ t. 126 ∷ 49 ∷ t) (more m.0 m.1) ∙ ap token_of m.2
      | inr slash ↦ elim (cases_eq y 48) [
        | inl zero' ↦
            let m = mapped (λ n. 126 ∷ n) (decoded rest) name (sym (decoded_tilde rest) ∙ ap (λ z. decoded (126 ∷ z ∷ rest)) (sym zero') ∙ e) in
            ap (λ z. 126 ∷ z ∷ rest) zero' ∙ ap (λ t. 126 ∷ 48 ∷ t) (more m.0 m.1) ∙ ap token_of m.2
        | inr tilde ↦ absurd (let bad : None ≡ Some name = sym (decoded_other y rest slash tilde) ∙ e in cc)
      ]
    ]

spelt : (token name : List ℕ) → Lacks 47 token → decoded token ≡ Some name → token ≡ token_of name
unfolding decoded
spelt [] name lacks e = ap token_of (Some_inj [] name e)
spelt (x ∷ []) name lacks e =
    elim (cases_eq x 126) [
      | inl tilde ↦ absurd (let bad : None ≡ Some name = sym decoded_bare ∙ ap (λ z. decoded (z ∷ [])) (sym tilde) ∙ e in cc)
      | inr other ↦ plain x [] name other (lacks 0 (omega arith)) (λ n h. ap token_of (Some_inj [] n h)) e
    ]
spelt (x ∷ y ∷ rest) name lacks e =
    elim (cases_eq x 126) [
      | inl tilde ↦ ap (λ z. z ∷ y ∷ rest) tilde ∙ escaped y rest name (λ n h. spelt rest n (lacks-rest 47 y rest (lacks-rest 47 x (y ∷ rest) lacks)) h) (ap (λ z. decoded (z ∷ y ∷ rest)) (sym tilde) ∙ e)
      | inr other ↦ plain x (y ∷ rest) name other (lacks 0 (omega arith)) (λ n h. spelt (y ∷ rest) n (lacks-rest 47 x (y ∷ rest) lacks) h) e
    ]

-- ---- a place has one name

place_at : (m : Member) (name other : List ℕ) (o p : Option ℕ) (i : ℕ) (a b : Bool) → bytes_eq m.name name ≡ a → bytes_eq m.name other ≡ b
    → cond a (Some 0) (option_map (λ k. suc k) o) ≡ Some i → cond b (Some 0) (option_map (λ k. suc k) p) ≡ Some i
    → ((k : ℕ) → o ≡ Some k → p ≡ Some k → name ≡ other) → name ≡ other
place_at m name other o p i true true x y e f more = sym ((bytes_eq-Decides m.name name).0 x) ∙ (bytes_eq-Decides m.name other).0 y
place_at m name other o p i true false x y e f more = let k = mapped (λ k. suc k) p i f in let z : 0 ≡ i = Some_inj 0 i e in absurd (omega (arith, z, k.2))
place_at m name other o p i false true x y e f more = let k = mapped (λ k. suc k) o i e in let z : 0 ≡ i = Some_inj 0 i f in absurd (omega (arith, z, k.2))
place_at m name other o p i false false x y e f more =
    let k = mapped (λ k. suc k) o i e in
    let l = mapped (λ k. suc k) p i f in
    let same : l.0 ≡ k.0 = omega (arith, k.2, l.2) in
    more k.0 k.1 (l.1 ∙ ap (λ n. Some n) same)

one_name : (ms : List Member) (name other : List ℕ) (i : ℕ) → place_of ms name ≡ Some i → place_of ms other ≡ Some i → name ≡ other
one_name [] name other i e f = absurd (cc)
one_name (m ∷ ms) name other i e f =
    place_at m name other (place_of ms name) (place_of ms other) i (bytes_eq m.name name) (bytes_eq m.name other) refl refl e f (λ k. one_name ms name other k)

-- ---- a child has one token

pub one_token : (x : Json-F Json Member) (token other : List ℕ) (i : ℕ) → Lacks 47 token → Lacks 47 other → child_in token x ≡ Some i → child_in other x ≡ Some i → token ≡ other
one_token (Json-F.List js) token other i t o e f = index_spelt token i e ∙ sym (index_spelt other i f)
one_token (Json-F.Object ms) token other i t o e f =
    option_and_then_some (place_of ms) (decoded token) i e (λ name is at.
    option_and_then_some (place_of ms) (decoded other) i f (λ second second_is second_at.
    spelt token name t is ∙ ap token_of (one_name ms name second i at second_at) ∙ sym (spelt other second o second_is)))
one_token Json-F.Null token other i t o e f = absurd (cc)
one_token (Json-F.Flag b) token other i t o e f = absurd (cc)
one_token (Json-F.Int z) token other i t o e f = absurd (cc)
one_token (Json-F.Text s) token other i t o e f = absurd (cc)
one_token Json-F.Opaque token other i t o e f = absurd (cc)
