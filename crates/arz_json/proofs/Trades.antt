-- A value that is put at a place: what stands there then, and how it is taken back.
use Rattle.std.proofs.Common.{◌≡◌, ℕ, zero, suc, ◌<◌, ◌==◌, List, [], ◌∷◌, ◌++◌, map, length, set, Bool, true, false, cond, Option, Some, None, option_map, option_and_then, refl, sym, ap, ap₂, ◌∙◌, arith, append_assoc, append-nil, ne_eqb}
use Rattle.std.specs.Prelude.{slice_get}
use Rattle.std.specs.Str.{bytes_eq}
use Rattle.std.proofs.lemmas.List.{set-set}
use Rattle.json.proofs.Found.{Some_inj}
use Rattle.std.proofs.lemmas.Option.{option_and_then_some}
use Rattle.serde_json.proofs.Paths.{Lacks}
use Rattle.arz_json.specs.Pointer.{decoded, member_named, step_in, step, walk, named}
use Rattle.arz_json.specs.Put.{children_in, children, place_of, child_in, child_of, set_value, set_child_in, set_child, traded_at, traded_child, traded_from, traded, Trades}
use Rattle.arz_json.specs.declared.tree.Json.{Json}
use Rattle.arz_json.specs.declared.tree.Json.TheOpen.{Json-F}
use Rattle.arz_json.specs.declared.tree.Json.TheVariants.{List as ListOf, Object, rolls-List, rolls-Object}
use Rattle.arz_json.specs.declared.tree.Json.TheViews.{out-Json, roll-Json, roll-out-Json, outs-List, outs-Object}
use Rattle.arz_json.specs.declared.tree.Member.{Member}
use Rattle.arz_json.proofs.Places.{member_placed}

-- ---- lists

set-same : {A : Type 0} (xs : List A) (i : ℕ) (k : A) → slice_get xs i ≡ Some k → set xs i k ≡ xs
set-same [] i k e = refl
set-same (x ∷ xs) zero k e = ap (λ y. y ∷ xs) (sym (Some_inj x k e))
set-same (x ∷ xs) (suc i) k e = ap (λ ys. x ∷ ys) (set-same xs i k e)

pub slice_get-set : {A : Type 0} (xs : List A) (i : ℕ) (k l : A) → slice_get xs i ≡ Some l → slice_get (set xs i k) i ≡ Some k
slice_get-set [] i k l e = absurd (cc)
slice_get-set (x ∷ xs) zero k l e = refl
slice_get-set (x ∷ xs) (suc i) k l e = slice_get-set xs i k l e

set_value-same : (ms : List Member) (i : ℕ) (k : Json) → slice_get (map (λ m. m.value) ms) i ≡ Some k → set_value ms i k ≡ ms
set_value-same [] i k e = refl
set_value-same (m ∷ ms) zero k e = ap (λ v. (let n : Member = record { name = m.name; value = v } in n) ∷ ms) (sym (Some_inj m.value k e))
set_value-same (m ∷ ms) (suc i) k e = ap (λ more. m ∷ more) (set_value-same ms i k e)

set_value-again : (ms : List Member) (i : ℕ) (a b : Json) → set_value (set_value ms i a) i b ≡ set_value ms i b
set_value-again [] i a b = refl
set_value-again (m ∷ ms) zero a b = refl
set_value-again (m ∷ ms) (suc i) a b = ap (λ more. m ∷ more) (set_value-again ms i a b)

values-set_value : (ms : List Member) (i : ℕ) (k : Json) → map (λ m. m.value) (set_value ms i k) ≡ set (map (λ m. m.value) ms) i k
values-set_value [] i k = refl
values-set_value (m ∷ ms) zero k = refl
values-set_value (m ∷ ms) (suc i) k = ap (λ more. m.value ∷ more) (values-set_value ms i k)

place_of-set_value : (ms : List Member) (i : ℕ) (k : Json) (name : List ℕ) → place_of (set_value ms i k) name ≡ place_of ms name
place_of-set_value [] i k name = refl
place_of-set_value (m ∷ ms) zero k name = refl
place_of-set_value (m ∷ ms) (suc i) k name = ap (λ o. cond (bytes_eq m.name name) (Some 0) (option_map (λ n. suc n) o)) (place_of-set_value ms i k name)

-- ---- children

pub is_list : (j : Json) (js : List Json) → out-Json j ≡ Json-F.List js → ListOf js ≡ j
is_list j js e = sym (rolls-List js) ∙ ap roll-Json (sym e) ∙ roll-out-Json j

pub is_object : (j : Json) (ms : List Member) → out-Json j ≡ Json-F.Object ms → Object ms ≡ j
is_object j ms e = sym (rolls-Object ms) ∙ ap roll-Json (sym e) ∙ roll-out-Json j

same_in : (j : Json) (x : Json-F Json Member) (i : ℕ) (k : Json) → out-Json j ≡ x → slice_get (children_in x) i ≡ Some k → set_child_in j i k x ≡ j
same_in j (Json-F.List js) i k e h = ap ListOf (set-same js i k h) ∙ is_list j js e
same_in j (Json-F.Object ms) i k e h = ap Object (set_value-same ms i k h) ∙ is_object j ms e
same_in j Json-F.Null i k e h = absurd (cc)
same_in j (Json-F.Flag b) i k e h = absurd (cc)
same_in j (Json-F.Int z) i k e h = absurd (cc)
same_in j (Json-F.Text s) i k e h = absurd (cc)
same_in j Json-F.Opaque i k e h = absurd (cc)

pub set_child-same : (j : Json) (i : ℕ) (k : Json) → slice_get (children j) i ≡ Some k → set_child j i k ≡ j
set_child-same j i k h = same_in j (out-Json j) i k refl h

children_set : (j : Json) (x : Json-F Json Member) (i : ℕ) (k : Json) → out-Json j ≡ x → children (set_child_in j i k x) ≡ set (children_in x) i k
children_set j (Json-F.List js) i k e = ap children_in (outs-List (set js i k))
children_set j (Json-F.Object ms) i k e = ap children_in (outs-Object (set_value ms i k)) ∙ values-set_value ms i k
children_set j Json-F.Null i k e = ap children_in e
children_set j (Json-F.Flag b) i k e = ap children_in e
children_set j (Json-F.Int z) i k e = ap children_in e
children_set j (Json-F.Text s) i k e = ap children_in e
children_set j Json-F.Opaque i k e = ap children_in e

pub children-set_child : (j : Json) (i : ℕ) (k : Json) → children (set_child j i k) ≡ set (children j) i k
children-set_child j i k = children_set j (out-Json j) i k refl

again_in : (j : Json) (x : Json-F Json Member) (i : ℕ) (a b : Json) → out-Json j ≡ x → set_child (set_child_in j i a x) i b ≡ set_child_in j i b x
again_in j (Json-F.List js) i a b e = ap (set_child_in (ListOf (set js i a)) i b) (outs-List (set js i a)) ∙ ap ListOf (set-set js i a b)
again_in j (Json-F.Object ms) i a b e = ap (set_child_in (Object (set_value ms i a)) i b) (outs-Object (set_value ms i a)) ∙ ap Object (set_value-again ms i a b)
again_in j Json-F.Null i a b e = ap (set_child_in j i b) e
again_in j (Json-F.Flag f) i a b e = ap (set_child_in j i b) e
again_in j (Json-F.Int z) i a b e = ap (set_child_in j i b) e
again_in j (Json-F.Text s) i a b e = ap (set_child_in j i b) e
again_in j Json-F.Opaque i a b e = ap (set_child_in j i b) e

pub set_child-again : (j : Json) (i : ℕ) (a b : Json) → set_child (set_child j i a) i b ≡ set_child j i b
set_child-again j i a b = again_in j (out-Json j) i a b refl

child_of_set : (j : Json) (x : Json-F Json Member) (i : ℕ) (k : Json) (token : List ℕ) → out-Json j ≡ x → child_of token (set_child_in j i k x) ≡ child_in token x
child_of_set j (Json-F.List js) i k token e = ap (child_in token) (outs-List (set js i k))
child_of_set j (Json-F.Object ms) i k token e = ap (child_in token) (outs-Object (set_value ms i k)) ∙ each (decoded token)
  where
    each : (o : Option (List ℕ)) → option_and_then (place_of (set_value ms i k)) o ≡ option_and_then (place_of ms) o
    each None = refl
    each (Some name) = place_of-set_value ms i k name
child_of_set j Json-F.Null i k token e = ap (child_in token) e
child_of_set j (Json-F.Flag b) i k token e = ap (child_in token) e
child_of_set j (Json-F.Int z) i k token e = ap (child_in token) e
child_of_set j (Json-F.Text s) i k token e = ap (child_in token) e
child_of_set j Json-F.Opaque i k token e = ap (child_in token) e

pub child_of-set_child : (j : Json) (i : ℕ) (k : Json) (token : List ℕ) → child_of token (set_child j i k) ≡ child_of token j
child_of-set_child j i k token = child_of_set j (out-Json j) i k token refl

-- ---- a trade of a child

abbrev pub Trade : Type 0
Trade = Json → Option (Json × Json)

abbrev pub placed : Json → ℕ → Json × Json → Json × Json
placed j i r = (set_child j i r.0, r.1)

abbrev got_of : Json × Json → Json
got_of r = r.1

pub at_child : (f : Trade) (token : List ℕ) (j : Json) (i : ℕ) (k : Json) → child_of token j ≡ Some i → slice_get (children j) i ≡ Some k → traded_child f token j ≡ option_map (placed j i) (f k)
at_child f token j i k place child =
    ap (option_and_then (traded_at f j)) place ∙ ap (option_and_then (λ c. option_map (placed j i) (f c))) child

pub traded_none : (f : Trade) (token : List ℕ) (j : Json) → option_and_then (slice_get (children j)) (child_of token j) ≡ None → traded_child f token j ≡ None
traded_none f token j e = none_at (child_of token j) e
  where
    none_at : (o : Option ℕ) → option_and_then (slice_get (children j)) o ≡ None → option_and_then (traded_at f j) o ≡ None
    none_at None e = refl
    none_at (Some i) e = ap (option_and_then (λ c. option_map (placed j i) (f c))) e

pub trade_step : (f : Trade) (token : List ℕ) (j : Json) (i : ℕ) (k : Json) (found : Bool) (child item got : Json) → child_of token j ≡ Some i → slice_get (children j) i ≡ Some k
    → Trades (f k) found k child item got → Trades (traded_child f token j) found j (set_child j i child) item got
trade_step f token j i k true child item got place here h = at_child f token j i k place here ∙ ap (option_map (placed j i)) h
trade_step f token j i k false child item got place here h =
    (at_child f token j i k place here ∙ ap (option_map (placed j i)) h.0, ap (set_child j i) h.1 ∙ set_child-same j i k here, h.2)

-- ---- a trade along a pointer

traded_over : (new : Json) (token xs rest : List ℕ) (j : Json) → Lacks 47 xs → traded_from new token (xs ++ rest) j ≡ traded_from new (token ++ xs) rest j
unfolding traded_from
traded_over new token [] rest j h = rw append-nil
traded_over new token (x ∷ xs) rest j h =
    rw (ne_eqb x 47 (h 0 (omega arith))) (traded_over new (token ++ x ∷ []) xs rest j (λ i less. h (suc i) (omega arith)) ∙ rw append_assoc)

pub traded_token : (new : Json) (xs rest : List ℕ) (j : Json) → Lacks 47 xs → traded_from new [] (xs ++ 47 ∷ rest) j ≡ traded_child (traded_from new [] rest) xs j
unfolding traded_from
traded_token new xs rest j h = traded_over new [] xs (47 ∷ rest) j h

pub traded_last : (new : Json) (xs : List ℕ) (j : Json) → Lacks 47 xs → traded_from new [] xs j ≡ traded_child (λ k. Some (new, k)) xs j
unfolding traded_from
traded_last new xs j h = ap (λ l. traded_from new [] l j) (sym (append-nil xs)) ∙ traded_over new [] xs [] j h

-- ---- what stood there is what the pointer names

pub step_child_in : (token : List ℕ) (x : Json-F Json Member) → option_and_then (slice_get (children_in x)) (child_in token x) ≡ step_in token x
step_child_in token (Json-F.List js) = refl
step_child_in token (Json-F.Object ms) = each (decoded token)
  where
    each : (o : Option (List ℕ)) → option_and_then (slice_get (map (λ m. m.value) ms)) (option_and_then (place_of ms) o) ≡ option_and_then (member_named ms) o
    each None = refl
    each (Some name) = member_placed ms name
step_child_in token Json-F.Null = refl
step_child_in token (Json-F.Flag b) = refl
step_child_in token (Json-F.Int z) = refl
step_child_in token (Json-F.Text s) = refl
step_child_in token Json-F.Opaque = refl

got_child : (f : Trade) (g : Json → Option Json) (token : List ℕ) (j : Json) → ((k : Json) → option_map got_of (f k) ≡ g k)
    → option_map got_of (traded_child f token j) ≡ option_and_then g (step token j)
got_child f g token j h = each (child_of token j) ∙ ap (option_and_then g) (step_child_in token (out-Json j))
  where
    given : (i : ℕ) (k : Json) (o : Option (Json × Json)) → option_map got_of (option_map (placed j i) o) ≡ option_map got_of o
    given i k None = refl
    given i k (Some r) = refl

    here : (i : ℕ) (o : Option Json) → option_map got_of (option_and_then (λ k. option_map (placed j i) (f k)) o) ≡ option_and_then g o
    here i None = refl
    here i (Some k) = given i k (f k) ∙ h k

    each : (o : Option ℕ) → option_map got_of (option_and_then (traded_at f j) o) ≡ option_and_then g (option_and_then (slice_get (children j)) o)
    each None = refl
    each (Some i) = here i (slice_get (children j) i)

pub step_alone : (o : Option Json) → option_and_then (λ k. Some k) o ≡ o
step_alone None = refl
step_alone (Some k) = refl

got_at : (b : Bool) (x y : Option (Json × Json)) (v w : Option Json) → option_map got_of x ≡ v → option_map got_of y ≡ w → option_map got_of (cond b x y) ≡ cond b v w
got_at true x y v w p q = p
got_at false x y v w p q = q

got_from : (new : Json) (token rest : List ℕ) (j : Json) → option_map got_of (traded_from new token rest j) ≡ walk token rest j
unfolding traded_from walk
got_from new token [] j = got_child (λ k. Some (new, k)) (λ k. Some k) token j (λ k. refl) ∙ step_alone (step token j)
got_from new token (x ∷ rest) j =
    got_at (x == 47) _ _ _ _ (got_child (traded_from new [] rest) (walk [] rest) token j (λ k. got_from new [] rest k)) (got_from new (token ++ x ∷ []) rest j)

pub traded-named : (new : Json) (pointer : List ℕ) (j : Json) → option_map got_of (traded new pointer j) ≡ named pointer j
traded-named new [] j = refl
traded-named new (x ∷ rest) j = got_at (x == 47) _ _ _ _ (got_from new [] rest j) refl

-- ---- what was put is taken back

back_child : (f g : Trade) (token : List ℕ) (j m r new : Json) → ((k c : Json) → f k ≡ Some (c, r) → g c ≡ Some (k, new))
    → traded_child f token j ≡ Some (m, r) → traded_child g token m ≡ Some (j, new)
back_child f g token j m r new h e =
    option_and_then_some (traded_at f j) (child_of token j) (m, r) e (λ i place at.
    option_and_then_some (λ k. option_map (placed j i) (f k)) (slice_get (children j) i) (m, r) at (λ k here got.
    made i place k here (f k) refl got))
  where
    made : (i : ℕ) → child_of token j ≡ Some i → (k : Json) → slice_get (children j) i ≡ Some k → (o : Option (Json × Json)) → f k ≡ o → option_map (placed j i) o ≡ Some (m, r)
        → traded_child g token m ≡ Some (j, new)
    made i place k here None is got = absurd (cc)
    made i place k here (Some (c, d)) is got =
        let pair : (set_child j i c, d) ≡ (m, r) = Some_inj _ _ got in
        let tree : set_child j i c ≡ m = ap (λ p. p.0) pair in
        let last : d ≡ r = ap (λ p. p.1) pair in
        let back : g c ≡ Some (k, new) = h k c (is ∙ ap (λ x. Some (c, x)) last) in
        let child : slice_get (children (set_child j i c)) i ≡ Some c = ap (λ l. slice_get l i) (children-set_child j i c) ∙ slice_get-set (children j) i c k here in
        let whole : set_child (set_child j i c) i k ≡ j = set_child-again j i c k ∙ set_child-same j i k here in
        ap (traded_child g token) (sym tree)
        ∙ at_child g token (set_child j i c) i c (child_of-set_child j i c token ∙ place) child
        ∙ ap (option_map (placed (set_child j i c) i)) back
        ∙ ap (λ t. Some (t, new)) whole

back_at : (b : Bool) (x y v w : Option (Json × Json)) (e f : Json × Json) → (x ≡ Some e → v ≡ Some f) → (y ≡ Some e → w ≡ Some f) → cond b x y ≡ Some e → cond b v w ≡ Some f
back_at true x y v w e f p q h = p h
back_at false x y v w e f p q h = q h

back_from : (new : Json) (token rest : List ℕ) (j m r : Json) → traded_from new token rest j ≡ Some (m, r) → traded_from r token rest m ≡ Some (j, new)
unfolding traded_from
back_from new token [] j m r e = back_child (λ k. Some (new, k)) (λ k. Some (r, k)) token j m r new
    (λ k c same. let pair : (new, k) ≡ (c, r) = Some_inj _ _ same in ap₂ (λ a b. Some (a, b)) (sym (ap (λ p. p.1) pair)) (sym (ap (λ p. p.0) pair))) e
back_from new token (x ∷ rest) j m r e =
    back_at (x == 47) _ _ _ _ (m, r) (j, new) (back_child (traded_from new [] rest) (traded_from r [] rest) token j m r new (λ k c. back_from new [] rest k c r)) (back_from new (token ++ x ∷ []) rest j m r) e

none_some : {A B : Type 0} (x : A) → None ≡ Some x → B
none_some x e = absurd (cc)

pub traded-back : (new : Json) (pointer : List ℕ) (j m r : Json) → traded new pointer j ≡ Some (m, r) → traded r pointer m ≡ Some (j, new)
traded-back new [] j m r e = let pair : (new, j) ≡ (m, r) = Some_inj _ _ e in ap₂ (λ a b. Some (a, b)) (sym (ap (λ p. p.1) pair)) (sym (ap (λ p. p.0) pair))
traded-back new (x ∷ rest) j m r e = back_at (x == 47) _ _ _ _ (m, r) (j, new) (back_from new [] rest j m r) (λ h. none_some (m, r) h) e

pub traded_no_slash : (new : Json) (xs : List ℕ) (j : Json) → 0 < length xs → ((rest : List ℕ) → xs ≡ 47 ∷ rest → ⊥) → traded new xs j ≡ None
traded_no_slash new [] j some h = absurd (omega arith)
traded_no_slash new (x ∷ xs) j some h = rw (ne_eqb x 47 (λ e. h xs (ap (λ y. y ∷ xs) e)))

pub trades_back : (new : Json) (pointer : List ℕ) (j m r : Json) → traded new pointer j ≡ Some (m, r) → (found : Bool) (k got : Json) → Trades (traded r pointer m) found m k r got → (k ≡ j) × (got ≡ new)
trades_back new pointer j m r e true k got h =
    let pair : (k, got) ≡ (j, new) = Some_inj _ _ (sym h ∙ traded-back new pointer j m r e) in
    (ap (λ p. p.0) pair, ap (λ p. p.1) pair)
trades_back new pointer j m r e false k got h = none_some (j, new) (sym h.0 ∙ traded-back new pointer j m r e)

-- there is a trade exactly where the pointer names something
pub none_named : (new : Json) (pointer : List ℕ) (j : Json) → traded new pointer j ≡ None → named pointer j ≡ None
none_named new pointer j e = sym (traded-named new pointer j) ∙ ap (option_map got_of) e

pub some_named : (new : Json) (pointer : List ℕ) (j m r : Json) → traded new pointer j ≡ Some (m, r) → named pointer j ≡ None → ⊥
some_named new pointer j m r e n = none_some r (sym n ∙ sym (traded-named new pointer j) ∙ ap (option_map got_of) e)
