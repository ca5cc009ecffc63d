-- A child that changes: what the tree is then, and how many bytes it has.
use Rattle.std.proofs.Common.{◌≡◌, ℕ, zero, suc, ◌+◌, ◌<◌, List, [], ◌∷◌, map, set, length, Bool, true, false, cond, Some, None, Result, Ok, length-set, refl, sym, ap, ◌∙◌, arith}
use Rattle.std.specs.Prelude.{slice_get, nat_lt}
use Rattle.std.proofs.lemmas.Bool.{ltb-true}
use Rattle.arz_changes.proofs.Lists.{Some_inj}
use Rattle.arz_json.specs.Answer.{◌>>=◌}
use Rattle.arz_json.specs.Put.{children_in, children, set_value, set_child_in, set_child}
use Rattle.arz_json.specs.declared.tree.Json.{Json, out-Json}
use Rattle.arz_json.specs.declared.tree.Json.TheOpen.{Json-F}
use Rattle.arz_json.specs.declared.tree.Member.{Member}
use Rattle.arz_json.specs.declared.place.Token.{Token}
use Rattle.arz_json.specs.declared.place.Token.TheVariants.{Name, Index}
use Rattle.arz_json.proofs.Trades.{is_list, is_object}
use Rattle.arz_json.proofs.Places.{place_within}
use Rattle.arz_wire.specs.Spelling.{number}
use Rattle.arz_wire.proofs.Measures.{list_length, object_length}
use Rattle.arz_changes.specs.Children.{child_in, child_of, changed, changed_value, changed_child}
use Rattle.arz_changes.specs.Weight.{weight, items_weight, members_weight}
use Rattle.arz_changes.proofs.Weights.{items_weight-cons, members_weight-cons}

item_within : (i n k : ℕ) (b : Bool) → nat_lt i n ≡ b → cond b (Some i) None ≡ Some k → k < n
item_within i n k true e h = let is : i ≡ k = Some_inj i k h in let less = ltb-true i n e in omega (arith, is, less)
item_within i n k false e h = absurd (cc)

within_in : (token : Token) (x : Json-F Json Member) (i : ℕ) → child_in token x ≡ Some i → i < length (children_in x)
within_in (Index k) (Json-F.List js) i e = item_within k (length js) i (nat_lt k (length js)) refl e
within_in (Index k) (Json-F.Object ms) i e = absurd (cc)
within_in (Index k) Json-F.Null i e = absurd (cc)
within_in (Index k) (Json-F.Flag b) i e = absurd (cc)
within_in (Index k) (Json-F.Int z) i e = absurd (cc)
within_in (Index k) (Json-F.Text s) i e = absurd (cc)
within_in (Index k) Json-F.Opaque i e = absurd (cc)
within_in (Name name) (Json-F.List js) i e = absurd (cc)
within_in (Name name) (Json-F.Object ms) i e = place_within ms name i e
within_in (Name name) Json-F.Null i e = absurd (cc)
within_in (Name name) (Json-F.Flag b) i e = absurd (cc)
within_in (Name name) (Json-F.Int z) i e = absurd (cc)
within_in (Name name) (Json-F.Text s) i e = absurd (cc)
within_in (Name name) Json-F.Opaque i e = absurd (cc)

-- a child that a token names is there
pub child_within : (token : Token) (j : Json) (i : ℕ) → child_of token j ≡ Some i → i < length (children j)
child_within token j i e = within_in token (out-Json j) i e

-- a place behind a token changes the child that it names
pub changed_at : {F : Type 0} (change : Json → Result Json F) (none : F) (token : Token) (place : List Token) (j : Json) (i : ℕ) (k : Json) → child_of token j ≡ Some i → slice_get (children j) i ≡ Some k
    → changed change none (token ∷ place) j ≡ (changed change none place k >>= (λ c. Ok (set_child j i c)))
changed_at change none token place j i k named here =
    ap (changed_child (changed change none place) none j) named ∙ ap (changed_value (changed change none place) none j i) here

-- ---- bytes

items_set : (js : List Json) (i : ℕ) (k c : Json) → slice_get js i ≡ Some k → items_weight (set js i c) + weight k ≡ items_weight js + weight c
items_set [] i k c e = absurd (cc)
items_set (j ∷ js) zero k c e =
    let is = ap weight (Some_inj j k e) in
    let a = items_weight-cons c js in
    let b = items_weight-cons j js in
    omega (arith, is, a, b)
items_set (j ∷ js) (suc i) k c e =
    let more = items_set js i k c e in
    let a = items_weight-cons j (set js i c) in
    let b = items_weight-cons j js in
    omega (arith, more, a, b)

values_set : (ms : List Member) (i : ℕ) (k c : Json) → slice_get (map (λ m. m.value) ms) i ≡ Some k → members_weight (set_value ms i c) + weight k ≡ members_weight ms + weight c
values_set [] i k c e = absurd (cc)
values_set (m ∷ ms) zero k c e =
    let is = ap weight (Some_inj m.value k e) in
    let a = members_weight-cons (record { name = m.name; value = c }) ms in
    let b = members_weight-cons m ms in
    omega (arith, is, a, b)
values_set (m ∷ ms) (suc i) k c e =
    let more = values_set ms i k c e in
    let a = members_weight-cons m (set_value ms i c) in
    let b = members_weight-cons m ms in
    omega (arith, more, a, b)

length-set_value : (ms : List Member) (i : ℕ) (c : Json) → length (set_value ms i c) ≡ length ms
length-set_value [] i c = refl
length-set_value (m ∷ ms) zero c = refl
length-set_value (m ∷ ms) (suc i) c = ap (λ n. suc n) (length-set_value ms i c)

weighs_in : (j : Json) (x : Json-F Json Member) (i : ℕ) (k c : Json) → out-Json j ≡ x → slice_get (children_in x) i ≡ Some k → weight (set_child_in j i c x) + weight k ≡ weight j + weight c
weighs_in j (Json-F.List js) i k c e h =
    let a = list_length (set js i c) in
    let b = ap weight (sym (is_list j js e)) ∙ list_length js in
    let n = ap (λ l. length (number l)) (length-set js i c) in
    let m = items_set js i k c h in
    omega (arith, a, b, n, m)
weighs_in j (Json-F.Object ms) i k c e h =
    let a = object_length (set_value ms i c) in
    let b = ap weight (sym (is_object j ms e)) ∙ object_length ms in
    let n = ap (λ l. length (number l)) (length-set_value ms i c) in
    let m = values_set ms i k c h in
    omega (arith, a, b, n, m)
weighs_in j Json-F.Null i k c e h = absurd (cc)
weighs_in j (Json-F.Flag b) i k c e h = absurd (cc)
weighs_in j (Json-F.Int z) i k c e h = absurd (cc)
weighs_in j (Json-F.Text s) i k c e h = absurd (cc)
weighs_in j Json-F.Opaque i k c e h = absurd (cc)

pub set_child_weighs : (j : Json) (i : ℕ) (k c : Json) → slice_get (children j) i ≡ Some k → weight (set_child j i c) + weight k ≡ weight j + weight c
set_child_weighs j i k c h = weighs_in j (out-Json j) i k c refl h
