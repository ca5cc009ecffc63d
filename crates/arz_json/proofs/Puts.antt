-- A well-formed value that is put into a well-formed tree leaves its numbers and names in form.
use Rattle.std.proofs.Common.{◌≡◌, ℕ, zero, suc, ◌==◌, List, [], ◌∷◌, ◌++◌, map, set, Bool, true, false, ◌&&◌, cond, Option, Some, None, option_map, refl, sym, ap, ap₂, ◌∙◌}
use Rattle.std.specs.Prelude.{slice_get}
use Rattle.json.proofs.Found.{Some_inj}
use Rattle.std.proofs.lemmas.Option.{option_and_then_some}
use Rattle.arz_json.specs.Tree.{has_form, form_step, all_true, are_ordered, is_below_first}
use Rattle.arz_json.specs.Put.{children_in, children, child_of, set_value, set_child_in, set_child, traded_at, traded_child, traded_from, traded}
use Rattle.arz_json.specs.declared.tree.Json.{Json}
use Rattle.arz_json.specs.declared.tree.Json.TheOpen.{Json-F}
use Rattle.arz_json.specs.declared.tree.Json.TheVariants.{Object}
use Rattle.arz_json.specs.declared.tree.Json.TheViews.{out-Json}
use Rattle.arz_json.specs.declared.tree.Member.{Member}
use Rattle.arz_json.proofs.Layers.{folded-List, folded-Object, values_of-map, members_form}
use Rattle.arz_json.proofs.Trades.{Trade, is_list, is_object, placed}

both : (a b : Bool) → a ≡ true → b ≡ true → (a && b) ≡ true
both true b p q = q
both false b p q = p

left : (a b : Bool) → (a && b) ≡ true → a ≡ true
left true b p = refl
left false b p = p

right : (a b : Bool) → (a && b) ≡ true → b ≡ true
right true b p = p
right false b p = absurd (cc)

items_form : (js : List Json) (i : ℕ) (c : Json) → all_true (map has_form js) ≡ true → has_form c ≡ true → all_true (map has_form (set js i c)) ≡ true
items_form [] i c h f = h
items_form (j ∷ js) zero c h f = both (has_form c) (all_true (map has_form js)) f (right (has_form j) (all_true (map has_form js)) h)
items_form (j ∷ js) (suc i) c h f =
    both (has_form j) (all_true (map has_form (set js i c))) (left (has_form j) (all_true (map has_form js)) h) (items_form js i c (right (has_form j) (all_true (map has_form js)) h) f)

values_form : (ms : List Member) (i : ℕ) (c : Json) → all_true (map (λ m. has_form m.value) ms) ≡ true → has_form c ≡ true → all_true (map (λ m. has_form m.value) (set_value ms i c)) ≡ true
values_form [] i c h f = h
values_form (m ∷ ms) zero c h f = both (has_form c) (all_true (map (λ m. has_form m.value) ms)) f (right (has_form m.value) (all_true (map (λ m. has_form m.value) ms)) h)
values_form (m ∷ ms) (suc i) c h f =
    both (has_form m.value) (all_true (map (λ m. has_form m.value) (set_value ms i c))) (left (has_form m.value) (all_true (map (λ m. has_form m.value) ms)) h)
    (values_form ms i c (right (has_form m.value) (all_true (map (λ m. has_form m.value) ms)) h) f)

abbrev pair_of : Member → List ℕ × Bool
pair_of m = (m.name, has_form m.value)

first_set : (k : List ℕ) (ms : List Member) (i : ℕ) (c : Json) → is_below_first k (map pair_of (set_value ms i c)) ≡ is_below_first k (map pair_of ms)
first_set k [] i c = refl
first_set k (m ∷ ms) zero c = refl
first_set k (m ∷ ms) (suc i) c = refl

order_set : (ms : List Member) (i : ℕ) (c : Json) → are_ordered (map pair_of (set_value ms i c)) ≡ are_ordered (map pair_of ms)
order_set [] i c = refl
order_set (m ∷ ms) zero c = refl
order_set (m ∷ ms) (suc i) c = ap₂ (λ a b. a && b) (first_set m.name ms i c) (order_set ms i c)

pub form_in : (j : Json) (x : Json-F Json Member) (i : ℕ) (c : Json) → out-Json j ≡ x → has_form j ≡ true → has_form c ≡ true → has_form (set_child_in j i c x) ≡ true
form_in j (Json-F.List js) i c e h f =
    folded-List Bool form_step (set js i c) ∙ items_form js i c (sym (folded-List Bool form_step js) ∙ ap has_form (is_list j js e) ∙ h) f
form_in j (Json-F.Object ms) i c e h f =
    let whole : has_form (Object ms) ≡ true = ap has_form (is_object j ms e) ∙ h in
    let order : are_ordered (map pair_of ms) ≡ true = left _ _ (sym (folded-Object Bool form_step ms) ∙ whole) in
    folded-Object Bool form_step (set_value ms i c)
    ∙ both _ _ (order_set ms i c ∙ order) (ap all_true (values_of-map Bool form_step (set_value ms i c)) ∙ values_form ms i c (members_form ms whole) f)
form_in j Json-F.Null i c e h f = h
form_in j (Json-F.Flag b) i c e h f = h
form_in j (Json-F.Int z) i c e h f = h
form_in j (Json-F.Text s) i c e h f = h
form_in j Json-F.Opaque i c e h f = h

-- what a trade leaves is in form
abbrev Keeps : Trade → Type 0
Keeps f = (k c r : Json) → f k ≡ Some (c, r) → has_form k ≡ true → has_form c ≡ true

-- a child of a tree in form is in form
all_get : (js : List Json) (i : ℕ) (k : Json) → slice_get js i ≡ Some k → all_true (map has_form js) ≡ true → has_form k ≡ true
all_get [] i k e h = absurd (cc)
all_get (j ∷ js) zero k e h = ap has_form (sym (Some_inj j k e)) ∙ left (has_form j) (all_true (map has_form js)) h
all_get (j ∷ js) (suc i) k e h = all_get js i k e (right (has_form j) (all_true (map has_form js)) h)

map_values : (ms : List Member) → map has_form (map (λ m. m.value) ms) ≡ map (λ m. has_form m.value) ms
map_values [] = refl
map_values (m ∷ ms) = ap (λ bs. has_form m.value ∷ bs) (map_values ms)

pub child_form : (j : Json) (x : Json-F Json Member) (i : ℕ) (k : Json) → out-Json j ≡ x → slice_get (children_in x) i ≡ Some k → has_form j ≡ true → has_form k ≡ true
child_form j (Json-F.List js) i k e g h = all_get js i k g (sym (folded-List Bool form_step js) ∙ ap has_form (is_list j js e) ∙ h)
child_form j (Json-F.Object ms) i k e g h = all_get (map (λ m. m.value) ms) i k g (ap all_true (map_values ms) ∙ members_form ms (ap has_form (is_object j ms e) ∙ h))
child_form j Json-F.Null i k e g h = absurd (cc)
child_form j (Json-F.Flag b) i k e g h = absurd (cc)
child_form j (Json-F.Int z) i k e g h = absurd (cc)
child_form j (Json-F.Text s) i k e g h = absurd (cc)
child_form j Json-F.Opaque i k e g h = absurd (cc)

keeps_child : (f : Trade) (token : List ℕ) → Keeps f → Keeps (traded_child f token)
keeps_child f token keeps j c r e h =
    option_and_then_some (traded_at f j) (child_of token j) (c, r) e (λ i place at.
    option_and_then_some (λ k. option_map (placed j i) (f k)) (slice_get (children j) i) (c, r) at (λ k here got.
    made i k here (f k) refl got))
  where
    made : (i : ℕ) (k : Json) → slice_get (children j) i ≡ Some k → (o : Option (Json × Json)) → f k ≡ o → option_map (placed j i) o ≡ Some (c, r) → has_form c ≡ true
    made i k here None is got = absurd (cc)
    made i k here (Some (d, s)) is got =
        let pair : (set_child j i d, s) ≡ (c, r) = Some_inj _ _ got in
        ap has_form (sym (ap (λ p. p.0) pair)) ∙ form_in j (out-Json j) i d refl h (keeps k d s is (child_form j (out-Json j) i k refl here h))

keeps_at : (b : Bool) (x y : Option (Json × Json)) (e : Json × Json) (P : Type 0) → (x ≡ Some e → P) → (y ≡ Some e → P) → cond b x y ≡ Some e → P
keeps_at true x y e P p q h = p h
keeps_at false x y e P p q h = q h

keeps_from : (new : Json) (token rest : List ℕ) → has_form new ≡ true → Keeps (traded_from new token rest)
unfolding traded_from
keeps_from new token [] f = keeps_child (λ k. Some (new, k)) token (λ k c r e h. let pair : (new, k) ≡ (c, r) = Some_inj _ _ e in ap has_form (sym (ap (λ p. p.0) pair)) ∙ f)
keeps_from new token (x ∷ rest) f = λ j c r e h.
    keeps_at (x == 47) _ _ (c, r) (has_form c ≡ true) (λ g. keeps_child (traded_from new [] rest) token (keeps_from new [] rest f) j c r g h) (λ g. keeps_from new (token ++ x ∷ []) rest f j c r g h) e

pub has_form-traded : (new : Json) (pointer : List ℕ) (j m r : Json) → has_form new ≡ true → has_form j ≡ true → traded new pointer j ≡ Some (m, r) → has_form m ≡ true
has_form-traded new [] j m r f h e = let pair : (new, j) ≡ (m, r) = Some_inj _ _ e in ap has_form (sym (ap (λ p. p.0) pair)) ∙ f
has_form-traded new (x ∷ rest) j m r f h e = keeps_at (x == 47) _ _ (m, r) (has_form m ≡ true) (λ g. keeps_from new [] rest f j m r g h) (λ g. absurd (cc)) e
