-- A tree has one spelling, and no spelling begins another one.
use Rattle.std.proofs.Common.{◌≡◌, ℕ, ◌==◌, ℤ, pos, negsuc, List, [], ◌∷◌, ◌++◌, length, Bool, true, false, refl, sym, ap, ap₂, ◌∙◌, append_assoc, arith, rules}
use Rattle.std.specs.Prelude.{if◌then◌else◌}
use Rattle.arz_json.specs.declared.tree.Json.{Json, the_lemmas}
use Rattle.arz_json.specs.declared.tree.Json.TheOpen.{Json-F}
use Rattle.arz_json.specs.declared.tree.Json.TheVariants.{Null, Flag, Int, Text, List as ListOf, Object, Opaque}
use Rattle.arz_json.specs.declared.tree.Json.TheViews.{out-Json, roll-Json, roll-out-Json, outs-Null, outs-Flag, outs-Int, outs-Text, outs-List, outs-Object, outs-Opaque}
use Rattle.arz_json.specs.declared.tree.Member.{Member}
use Rattle.arz_json.proofs.Induction.{induction, Each, EachValue}
use Rattle.arz_wire.specs.Spelling.{number, counted, spelling, spellings, member_spellings}
use Rattle.arz_wire.proofs.Numbers.{number-same, counted-same}
use Rattle.arz_wire.proofs.Layers.{spelling_list, spelling_object}

abbrev pub Level : Type 0
Level = Json-F Json Member

-- the first byte of a spelling, and the others
abbrev pub tag_in : Level → ℕ
tag_in Json-F.Null = 0
tag_in (Json-F.Flag true) = 2
tag_in (Json-F.Flag false) = 1
tag_in (Json-F.Int (pos n)) = 3
tag_in (Json-F.Int (negsuc n)) = 4
tag_in (Json-F.Text s) = 5
tag_in (Json-F.List js) = 6
tag_in (Json-F.Object ms) = 7
tag_in Json-F.Opaque = 8

abbrev pub body_in : Level → List ℕ
body_in Json-F.Null = []
body_in (Json-F.Flag b) = []
body_in (Json-F.Int (pos n)) = number n
body_in (Json-F.Int (negsuc n)) = number n
body_in (Json-F.Text s) = counted s
body_in (Json-F.List js) = number (length js) ++ spellings js
body_in (Json-F.Object ms) = number (length ms) ++ member_spellings ms
body_in Json-F.Opaque = []

abbrev pub spelled_in : Level → List ℕ
spelled_in x = tag_in x ∷ body_in x

abbrev pub IsSpelled : Json → Type 0
IsSpelled j = spelling j ≡ spelled_in (out-Json j)

flag_spelled : (b : Bool) → IsSpelled (Flag b)
flag_spelled true = search (rules, the_lemmas)
flag_spelled false = search (rules, the_lemmas)

int_spelled : (z : ℤ) → IsSpelled (Int z)
int_spelled (pos n) = search (rules, the_lemmas)
int_spelled (negsuc n) = search (rules, the_lemmas)

pub spelled : (j : Json) → IsSpelled j
spelled = induction IsSpelled (record {
  null = search (rules, the_lemmas);
  flag = flag_spelled;
  int = int_spelled;
  text = λ s. search (rules, the_lemmas);
  list = λ js h. spelling_list js ∙ sym (ap spelled_in (outs-List js));
  object = λ ms h. spelling_object ms ∙ sym (ap spelled_in (outs-Object ms));
  opaque = search (rules, the_lemmas);
})

-- no spelling of this tree begins another one
abbrev IsOnce : Json → Type 0
IsOnce v = (w : Json) (x y : List ℕ) → spelling v ++ x ≡ spelling w ++ y → (v ≡ w) × (x ≡ y)

items_once : (js ks : List Json) (x y : List ℕ) → Each IsOnce js → length js ≡ length ks → spellings js ++ x ≡ spellings ks ++ y → (js ≡ ks) × (x ≡ y)
items_once [] [] x y h l e = (refl, e)
items_once [] (k ∷ ks) x y h l e = absurd (omega arith)
items_once (j ∷ js) [] x y h l e = absurd (omega arith)
items_once (j ∷ js) (k ∷ ks) x y h l e =
    let first = h.0 k (spellings js ++ x) (spellings ks ++ y) (sym (append_assoc (spelling j) (spellings js) x) ∙ e ∙ append_assoc (spelling k) (spellings ks) y) in
    let others = items_once js ks x y h.1 (omega arith) first.1 in
    (ap₂ (λ (a : Json) (b : List Json). a ∷ b) first.0 others.0, others.1)

regroup : (m : Member) (ms : List Member) (x : List ℕ) → member_spellings (m ∷ ms) ++ x ≡ counted m.name ++ (spelling m.value ++ (member_spellings ms ++ x))
regroup m ms x = append_assoc (counted m.name ++ spelling m.value) (member_spellings ms) x ∙ append_assoc (counted m.name) (spelling m.value) (member_spellings ms ++ x)

members_once : (js ks : List Member) (x y : List ℕ) → EachValue IsOnce js → length js ≡ length ks → member_spellings js ++ x ≡ member_spellings ks ++ y → (js ≡ ks) × (x ≡ y)
members_once [] [] x y h l e = (refl, e)
members_once [] (k ∷ ks) x y h l e = absurd (omega arith)
members_once (j ∷ js) [] x y h l e = absurd (omega arith)
members_once (j ∷ js) (k ∷ ks) x y h l e =
    let name = counted-same j.name k.name (spelling j.value ++ (member_spellings js ++ x)) (spelling k.value ++ (member_spellings ks ++ y)) (sym (regroup j js x) ∙ e ∙ regroup k ks y) in
    let first = h.0 k.value (member_spellings js ++ x) (member_spellings ks ++ y) name.1 in
    let others = members_once js ks x y h.1 (omega arith) first.1 in
    let same : j ≡ k = ap₂ (λ (a : List ℕ) (b : Json). let m : Member = record { name = a; value = b } in m) name.0 first.0 in
    (ap₂ (λ (a : Member) (b : List Member). a ∷ b) same others.0, others.1)

heads : (a b : ℕ) (x y : List ℕ) → a ∷ x ≡ b ∷ y → a ≡ b
heads a b x y e = cc

tails : (a b : ℕ) (x y : List ℕ) → a ∷ x ≡ b ∷ y → x ≡ y
tails a b x y e = cc

differ : (a b : ℕ) (x y : List ℕ) → (a ≡ b → ⊥) → a ∷ x ≡ b ∷ y → ⊥
differ a b x y h e = h (heads a b x y e)

-- what holds of the values inside
abbrev Within : Level → Type 0
Within (Json-F.List js) = Each IsOnce js
Within (Json-F.Object ms) = EachValue IsOnce ms
Within _ = Unit {0}

-- the kind that a first byte tells
abbrev kind_of : ℕ → ℕ
kind_of n = if n == 2 then 1 else (if n == 4 then 3 else n)

abbrev kind_in : Level → ℕ
kind_in Json-F.Null = 0
kind_in (Json-F.Flag b) = 1
kind_in (Json-F.Int z) = 3
kind_in (Json-F.Text s) = 5
kind_in (Json-F.List js) = 6
kind_in (Json-F.Object ms) = 7
kind_in Json-F.Opaque = 8

kind-tag : (v : Level) → kind_of (tag_in v) ≡ kind_in v
kind-tag Json-F.Null = refl
kind-tag (Json-F.Flag true) = refl
kind-tag (Json-F.Flag false) = refl
kind-tag (Json-F.Int (pos n)) = refl
kind-tag (Json-F.Int (negsuc n)) = refl
kind-tag (Json-F.Text s) = refl
kind-tag (Json-F.List js) = refl
kind-tag (Json-F.Object ms) = refl
kind-tag Json-F.Opaque = refl

same_kind : (v w : Level) (x y : List ℕ) → spelled_in v ++ x ≡ spelled_in w ++ y → kind_in v ≡ kind_in w
same_kind v w x y e = sym (kind-tag v) ∙ ap kind_of (heads _ _ _ _ e) ∙ kind-tag w

flags_once : (a b : Bool) (x y : List ℕ) → tag_in (Json-F.Flag a) ∷ x ≡ tag_in (Json-F.Flag b) ∷ y → (a ≡ b) × (x ≡ y)
flags_once true true x y e = (refl, tails _ _ _ _ e)
flags_once false false x y e = (refl, tails _ _ _ _ e)
flags_once true false x y e = absurd (differ (tag_in (Json-F.Flag true)) (tag_in (Json-F.Flag false)) x y (omega arith) e)
flags_once false true x y e = absurd (differ (tag_in (Json-F.Flag false)) (tag_in (Json-F.Flag true)) x y (omega arith) e)

ints_once : (a b : ℤ) (x y : List ℕ) → spelled_in (Json-F.Int a) ++ x ≡ spelled_in (Json-F.Int b) ++ y → (a ≡ b) × (x ≡ y)
ints_once (pos n) (pos m) x y e = let both = number-same n m x y (tails _ _ _ _ e) in (ap pos both.0, both.1)
ints_once (negsuc n) (negsuc m) x y e = let both = number-same n m x y (tails _ _ _ _ e) in (ap negsuc both.0, both.1)
ints_once (pos n) (negsuc m) x y e = absurd (differ 3 4 (number n ++ x) (number m ++ y) (omega arith) e)
ints_once (negsuc n) (pos m) x y e = absurd (differ 4 3 (number n ++ x) (number m ++ y) (omega arith) e)

counted_row : (n m : ℕ) (s t x y : List ℕ) → (number n ++ s) ++ x ≡ (number m ++ t) ++ y → (n ≡ m) × (s ++ x ≡ t ++ y)
counted_row n m s t x y e = number-same n m (s ++ x) (t ++ y) (sym (append_assoc (number n) s x) ∙ e ∙ append_assoc (number m) t y)

levels_once : (v w : Level) (x y : List ℕ) → Within v → spelled_in v ++ x ≡ spelled_in w ++ y → (v ≡ w) × (x ≡ y)
levels_once Json-F.Null Json-F.Null x y h e = (refl, tails _ _ _ _ e)
levels_once Json-F.Null w x y h e = let k = same_kind Json-F.Null w x y e in absurd (omega (arith, k))
levels_once (Json-F.Flag a) (Json-F.Flag b) x y h e = let both = flags_once a b x y e in (ap (λ f. Json-F.Flag f) both.0, both.1)
levels_once (Json-F.Flag a) w x y h e = let k = same_kind (Json-F.Flag a) w x y e in absurd (omega (arith, k))
levels_once (Json-F.Int a) (Json-F.Int b) x y h e = let both = ints_once a b x y e in (ap (λ z. Json-F.Int z) both.0, both.1)
levels_once (Json-F.Int a) w x y h e = let k = same_kind (Json-F.Int a) w x y e in absurd (omega (arith, k))
levels_once (Json-F.Text s) (Json-F.Text t) x y h e = let both = counted-same s t x y (tails _ _ _ _ e) in (ap (λ u. Json-F.Text u) both.0, both.1)
levels_once (Json-F.Text s) w x y h e = let k = same_kind (Json-F.Text s) w x y e in absurd (omega (arith, k))
levels_once (Json-F.List js) (Json-F.List ks) x y h e =
    let row = counted_row (length js) (length ks) (spellings js) (spellings ks) x y (tails _ _ _ _ e) in
    let both = items_once js ks x y h row.0 row.1 in
    (ap (λ ls. Json-F.List ls) both.0, both.1)
levels_once (Json-F.List js) w x y h e = let k = same_kind (Json-F.List js) w x y e in absurd (omega (arith, k))
levels_once (Json-F.Object js) (Json-F.Object ks) x y h e =
    let row = counted_row (length js) (length ks) (member_spellings js) (member_spellings ks) x y (tails _ _ _ _ e) in
    let both = members_once js ks x y h row.0 row.1 in
    (ap (λ ls. Json-F.Object ls) both.0, both.1)
levels_once (Json-F.Object js) w x y h e = let k = same_kind (Json-F.Object js) w x y e in absurd (omega (arith, k))
levels_once Json-F.Opaque Json-F.Opaque x y h e = (refl, tails _ _ _ _ e)
levels_once Json-F.Opaque w x y h e = let k = same_kind Json-F.Opaque w x y e in absurd (omega (arith, k))

once : (v : Json) (z : Level) → out-Json v ≡ z → Within z → IsOnce v
once v z is h w x y e =
    let spelled_v : spelling v ≡ spelled_in z = spelled v ∙ ap spelled_in is in
    let both = levels_once z (out-Json w) x y h (ap (λ s. s ++ x) (sym spelled_v) ∙ e ∙ ap (λ s. s ++ y) (spelled w)) in
    (sym (roll-out-Json v) ∙ ap roll-Json (is ∙ both.0) ∙ roll-out-Json w, both.1)

pub one_spelling : (v w : Json) (x y : List ℕ) → spelling v ++ x ≡ spelling w ++ y → (v ≡ w) × (x ≡ y)
one_spelling = induction IsOnce (record {
  null = once Null _ outs-Null tt;
  flag = λ b. once (Flag b) _ (outs-Flag b) tt;
  int = λ z. once (Int z) _ (outs-Int z) tt;
  text = λ s. once (Text s) _ (outs-Text s) tt;
  list = λ js h. once (ListOf js) _ (outs-List js) h;
  object = λ ms h. once (Object ms) _ (outs-Object ms) h;
  opaque = once Opaque _ outs-Opaque tt;
})
