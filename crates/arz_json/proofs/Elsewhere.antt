-- What a value that is put at a place leaves elsewhere.
use Rattle.std.proofs.Common.{◌≡◌, ◌≢◌, ◌⊎◌, inl, inr, ℕ, zero, suc, true, false, List, [], ◌∷◌, ◌++◌, set, Option, Some, None, option_map, option_and_then, refl, sym, ap, ap₂, ◌∙◌, arith, append_assoc, append-nil, ne_eqb}
use Rattle.std.specs.Prelude.{slice_get}
use Rattle.std.specs.Str.{bytes_eq}
use Rattle.std.proofs.lemmas.Bool.{cases_Bool, cases_eq}
use Rattle.std.proofs.lemmas.Option.{option_and_then_some}
use Rattle.std.proofs.lemmas.Slice.Eq.{bytes_eq-Decides}
use Rattle.json.proofs.Found.{Some_inj}
use Rattle.serde_json.proofs.Paths.{Lacks}
use Rattle.arz_json.specs.Pointer.{step, walk, named}
use Rattle.arz_json.specs.Put.{children, child_of, set_child, traded_at, traded_child, traded_from, traded, with_value}
use Rattle.arz_json.specs.Laws.{AreTokens, IsUnder, IsPut}
use Rattle.arz_json.specs.declared.tree.Json.{Json, out-Json}
use Rattle.arz_json.proofs.Names.{one_token}
use Rattle.arz_json.proofs.Pointers.{walk_token, walk_last}
use Rattle.arz_json.proofs.Trades.{Trade, placed, slice_get-set, step_child_in, step_alone, children-set_child, child_of-set_child, traded_token, traded_last}

-- ---- one level

-- a child for which f gave c was set
record Inner (f : Trade) (token : List ℕ) (j m r : Json) : Type 0 where
  at : ℕ
  child : Json
  new : Json
  place : child_of token j ≡ Some at
  here : slice_get (children j) at ≡ Some child
  made : f child ≡ Some (new, r)
  tree : set_child j at new ≡ m

inner : (f : Trade) (token : List ℕ) (j m r : Json) → traded_child f token j ≡ Some (m, r) → Inner f token j m r
inner f token j m r e =
    option_and_then_some (traded_at f j) (child_of token j) (m, r) e (λ i place at.
    option_and_then_some (λ k. option_map (placed j i) (f k)) (slice_get (children j) i) (m, r) at (λ k here got.
    made_of i k place here (f k) refl got))
  where
    made_of : (i : ℕ) (k : Json) → child_of token j ≡ Some i → slice_get (children j) i ≡ Some k → (o : Option (Json × Json)) → f k ≡ o → option_map (placed j i) o ≡ Some (m, r) → Inner f token j m r
    made_of i k place here None is got = absurd (cc)
    made_of i k place here (Some (c, d)) is got =
        let pair : (set_child j i c, d) ≡ (m, r) = Some_inj _ _ got in
        record {
          at = i;
          child = k;
          new = c;
          place = place;
          here = here;
          made = is ∙ ap (λ x. Some (c, x)) (ap (λ p. p.1) pair);
          tree = ap (λ p. p.0) pair;
        }

step_set : (j c : Json) (i : ℕ) (token : List ℕ) → step token (set_child j i c) ≡ option_and_then (slice_get (set (children j) i c)) (child_of token j)
step_set j c i token =
    sym (step_child_in token (out-Json (set_child j i c)))
    ∙ ap₂ (λ l o. option_and_then (slice_get l) o) (children-set_child j i c) (child_of-set_child j i c token)

-- the new child is named by its token
step_there : (f : Trade) (token : List ℕ) (j m r : Json) (x : Inner f token j m r) → step token m ≡ Some x.new
step_there f token j m r x =
    ap (step token) (sym x.tree) ∙ step_set j x.new x.at token ∙ ap (option_and_then (slice_get (set (children j) x.at x.new))) x.place
    ∙ slice_get-set (children j) x.at x.new x.child x.here

-- the child that stood there was named by it
step_before : (f : Trade) (token : List ℕ) (j m r : Json) (x : Inner f token j m r) → step token j ≡ Some x.child
step_before f token j m r x = sym (step_child_in token (out-Json j)) ∙ ap (option_and_then (slice_get (children j))) x.place ∙ x.here

get-other : {A : Type 0} (xs : List A) (i k : ℕ) (x : A) → k ≢ i → slice_get (set xs i x) k ≡ slice_get xs k
get-other [] i k x ne = refl
get-other (y ∷ xs) zero zero x ne = absurd (ne refl)
get-other (y ∷ xs) zero (suc k) x ne = refl
get-other (y ∷ xs) (suc i) zero x ne = refl
get-other (y ∷ xs) (suc i) (suc k) x ne = get-other xs i k x (λ e. ne (ap (λ n. suc n) e))

others : (js : List Json) (i : ℕ) (c : Json) (o : Option ℕ) → (o ≡ Some i → ⊥) → option_and_then (slice_get (set js i c)) o ≡ option_and_then (slice_get js) o
others js i c None ne = refl
others js i c (Some k) ne = get-other js i k c (λ e. ne (ap (λ n. Some n) e))

-- another token names what it named before
step_other : (f : Trade) (token other : List ℕ) (j m r : Json) → Lacks 47 token → Lacks 47 other → other ≢ token → Inner f token j m r → step other m ≡ step other j
step_other f token other j m r t o ne x =
    ap (step other) (sym x.tree) ∙ step_set j x.new x.at other
    ∙ others (children j) x.at x.new (child_of other j) (λ e. ne (one_token (out-Json j) other token x.at o t e x.place))
    ∙ step_child_in other (out-Json j)

-- ---- tokens

-- the text of a token and of those that follow it
abbrev path : List ℕ → List (List ℕ) → List ℕ
path t [] = t
path t (u ∷ us) = t ++ 47 ∷ path u us

abbrev AllLack : List (List ℕ) → Type 0
AllLack [] = Unit {0}
AllLack (t ∷ ts) = Lacks 47 t × AllLack ts

record Split (text : List ℕ) : Type 0 where
  first : List ℕ
  more : List (List ℕ)
  lacks : Lacks 47 first
  all : AllLack more
  whole : path first more ≡ text

none_lacks : Lacks 47 []
none_lacks i lt = absurd (omega arith)

one_lacks : (x : ℕ) (xs : List ℕ) → x ≢ 47 → Lacks 47 xs → Lacks 47 (x ∷ xs)
one_lacks x xs ne lacks zero lt = ne
one_lacks x xs ne lacks (suc i) lt = lacks i (omega arith)

path-first : (x : ℕ) (t : List ℕ) (ts : List (List ℕ)) → path (x ∷ t) ts ≡ x ∷ path t ts
path-first x t [] = refl
path-first x t (u ∷ us) = refl

split : (text : List ℕ) → Split text
split [] = record { first = []; more = []; lacks = none_lacks; all = tt; whole = refl }
split (x ∷ xs) =
    let s = split xs in
    elim (cases_eq x 47) [
      | inl e ↦ record { first = []; more = s.first ∷ s.more; lacks = none_lacks; all = (s.lacks, s.all); whole = ap₂ (λ y ys. y ∷ ys) (sym e) s.whole }
      | inr ne ↦ record { first = x ∷ s.first; more = s.more; lacks = one_lacks x s.first ne s.lacks; all = s.all; whole = path-first x s.first s.more ∙ ap (λ ys. x ∷ ys) s.whole }
    ]

-- what the tokens that follow name, and what is put at them
abbrev rest_of : List (List ℕ) → Json → Option Json
rest_of [] k = Some k
rest_of (u ∷ us) k = walk [] (path u us) k

abbrev trade_of : Json → List (List ℕ) → Trade
trade_of new [] k = Some (new, k)
trade_of new (u ∷ us) k = traded_from new [] (path u us) k

walk_path : (t : List ℕ) (ts : List (List ℕ)) (j : Json) → Lacks 47 t → walk [] (path t ts) j ≡ option_and_then (rest_of ts) (step t j)
walk_path t [] j lacks = walk_last t j lacks ∙ sym (step_alone (step t j))
walk_path t (u ∷ us) j lacks = walk_token t (path u us) j lacks

traded_path : (new : Json) (t : List ℕ) (ts : List (List ℕ)) (j : Json) → Lacks 47 t → traded_from new [] (path t ts) j ≡ traded_child (trade_of new ts) t j
traded_path new t [] j lacks = traded_last new t j lacks
traded_path new t (u ∷ us) j lacks = traded_token new t (path u us) j lacks

-- ---- under the pointer

below_last : (t : List ℕ) (m new : Json) (place : List ℕ) → Lacks 47 t → step t m ≡ Some new → AreTokens place → walk [] (t ++ place) m ≡ named place new
below_last t m new place lacks is (inl none) =
    ap (λ p. walk [] (t ++ p) m) none ∙ ap (λ p. walk [] p m) (append-nil t) ∙ walk_last t m lacks ∙ is ∙ ap (λ p. named p new) (sym none)
below_last t m new place lacks is (inr (rest, more)) =
    ap (λ p. walk [] (t ++ p) m) more ∙ walk_token t rest m lacks ∙ ap (option_and_then (walk [] rest)) is ∙ ap (λ p. named p new) (sym more)

below_path : (new : Json) (t : List ℕ) (ts : List (List ℕ)) (j m r : Json) (place : List ℕ) → Lacks 47 t → AllLack ts → traded_from new [] (path t ts) j ≡ Some (m, r) → AreTokens place
    → walk [] (path t ts ++ place) m ≡ named place new
below_path new t [] j m r place lacks all e tokens =
    let x = inner (trade_of new []) t j m r (sym (traded_path new t [] j lacks) ∙ e) in
    let same : new ≡ x.new = ap (λ p. p.0) (Some_inj (new, x.child) (x.new, r) x.made) in
    below_last t m new place lacks (step_there (trade_of new []) t j m r x ∙ ap (λ k. Some k) (sym same)) tokens
below_path new t (u ∷ us) j m r place lacks all e tokens =
    let f = trade_of new (u ∷ us) in
    let x = inner f t j m r (sym (traded_path new t (u ∷ us) j lacks) ∙ e) in
    ap (λ p. walk [] p m) (append_assoc t (47 ∷ path u us) place) ∙ walk_token t (path u us ++ place) m lacks
    ∙ ap (option_and_then (walk [] (path u us ++ place))) (step_there f t j m r x) ∙ below_path new u us x.child x.new r place all.0 all.1 x.made tokens

-- ---- neither under the pointer nor above it

-- the tokens begin with those of t and ts
abbrev Begins : List ℕ → List (List ℕ) → List ℕ → List (List ℕ) → Type 0
Begins t ts s ss = (more : List (List ℕ)) × (s ≡ t) × (ss ≡ ts ++ more)

begins-next : (t u v : List ℕ) (us vs : List (List ℕ)) (s : List ℕ) → s ≡ t → Begins u us v vs → Begins t (u ∷ us) s (v ∷ vs)
begins-next t u v us vs s same (more, one, rest) = (more, same, ap₂ (λ x xs. x ∷ xs) one rest)

other_path : (new : Json) (t : List ℕ) (ts : List (List ℕ)) (s : List ℕ) (ss : List (List ℕ)) (j m r : Json) → Lacks 47 t → Lacks 47 s → s ≢ t
    → traded_from new [] (path t ts) j ≡ Some (m, r) → walk [] (path s ss) m ≡ walk [] (path s ss) j
other_path new t ts s ss j m r t_lacks s_lacks ne e =
    walk_path s ss m s_lacks
    ∙ ap (option_and_then (rest_of ss)) (step_other (trade_of new ts) t s j m r t_lacks s_lacks ne (inner (trade_of new ts) t j m r (sym (traded_path new t ts j t_lacks) ∙ e)))
    ∙ sym (walk_path s ss j s_lacks)

same_or : (s t : List ℕ) → (s ≡ t) ⊎ (s ≢ t)
same_or s t =
    elim (cases_Bool (bytes_eq s t)) [
      | inl e ↦ inl ((bytes_eq-Decides s t).0 e)
      | inr e ↦ inr (λ same. absurd (let bad : true ≡ false = sym ((bytes_eq-Decides s t).1 same) ∙ e in cc))
    ]

elsewhere_path : (new : Json) (t : List ℕ) (ts : List (List ℕ)) (s : List ℕ) (ss : List (List ℕ)) (j m r : Json) → Lacks 47 t → AllLack ts → Lacks 47 s → AllLack ss
    → traded_from new [] (path t ts) j ≡ Some (m, r) → (Begins t ts s ss → ⊥) → (Begins s ss t ts → ⊥) → walk [] (path s ss) m ≡ walk [] (path s ss) j
elsewhere_path new t [] s ss j m r t_lacks t_all s_lacks s_all e under above =
    elim (same_or s t) [
      | inl same ↦ absurd (under (ss, same, refl))
      | inr ne ↦ other_path new t [] s ss j m r t_lacks s_lacks ne e
    ]
elsewhere_path new t (u ∷ us) s [] j m r t_lacks t_all s_lacks s_all e under above =
    elim (same_or s t) [
      | inl same ↦ absurd (above (u ∷ us, sym same, refl))
      | inr ne ↦ other_path new t (u ∷ us) s [] j m r t_lacks s_lacks ne e
    ]
elsewhere_path new t (u ∷ us) s (v ∷ vs) j m r t_lacks t_all s_lacks s_all e under above =
    elim (same_or s t) [
      | inl same ↦
          let f = trade_of new (u ∷ us) in
          let x = inner f t j m r (sym (traded_path new t (u ∷ us) j t_lacks) ∙ e) in
          let more = walk [] (path v vs) in
          walk_token s (path v vs) m s_lacks ∙ ap (λ k. option_and_then more (step k m)) same ∙ ap (option_and_then more) (step_there f t j m r x)
          ∙ elsewhere_path new u us v vs x.child x.new r t_all.0 t_all.1 s_all.0 s_all.1 x.made (λ b. under (begins-next t u v us vs s same b)) (λ b. above (begins-next s v u vs us t (sym same) b))
          ∙ sym (walk_token s (path v vs) j s_lacks ∙ ap (λ k. option_and_then more (step k j)) same ∙ ap (option_and_then more) (step_before f t j m r x))
      | inr ne ↦ other_path new t (u ∷ us) s (v ∷ vs) j m r t_lacks s_lacks ne e
    ]

-- ---- pointers

tail : List (List ℕ) → List ℕ
tail [] = []
tail (m ∷ ms) = 47 ∷ path m ms

tail_tokens : (more : List (List ℕ)) → AreTokens (tail more)
unfolding tail
tail_tokens [] = inl refl
tail_tokens (m ∷ ms) = inr (path m ms, refl)

path-more : (t : List ℕ) (ts more : List (List ℕ)) → path t (ts ++ more) ≡ path t ts ++ tail more
unfolding tail
path-more t [] [] = sym (append-nil t)
path-more t [] (m ∷ ms) = refl
path-more t (u ∷ us) more = ap (λ p. t ++ 47 ∷ p) (path-more u us more) ∙ sym (append_assoc t (47 ∷ path u us) (tail more))

under_of : (t : List ℕ) (ts : List (List ℕ)) (s : List ℕ) (ss : List (List ℕ)) (pointer place : List ℕ) → path t ts ≡ pointer → path s ss ≡ place → Begins t ts s ss → IsUnder (47 ∷ pointer) (47 ∷ place)
under_of t ts s ss pointer place p q (more, same, rest) =
    (tail more, tail_tokens more, ap (λ x. 47 ∷ x) (sym q ∙ ap₂ path same rest ∙ path-more t ts more ∙ ap (λ x. x ++ tail more) p))

-- what begins with no `/` names nothing
no_tokens : (x : ℕ) (rest : List ℕ) (j : Json) → x ≢ 47 → named (x ∷ rest) j ≡ None
no_tokens x rest j ne = rw (ne_eqb x 47 ne) refl

below_put : (new : Json) (pointer : List ℕ) (j m r : Json) → traded new pointer j ≡ Some (m, r) → (place : List ℕ) → AreTokens place → named (pointer ++ place) m ≡ named place new
below_put new [] j m r e place tokens = ap (named place) (sym (ap (λ p. p.0) (Some_inj (new, j) (m, r) e)))
below_put new (x ∷ rest) j m r e place tokens =
    elim (cases_eq x 47) [
      | inl is ↦
          let s = split rest in
          let put : traded_from new [] (path s.first s.more) j ≡ Some (m, r) = ap (λ p. traded_from new [] p j) s.whole ∙ sym (ap (λ y. traded new (y ∷ rest) j) is) ∙ e in
          ap (λ y. named (y ∷ (rest ++ place)) m) is ∙ ap (λ p. walk [] (p ++ place) m) (sym s.whole) ∙ below_path new s.first s.more j m r place s.lacks s.all put tokens
      | inr ne ↦ absurd (let bad : None ≡ Some (m, r) = rw (ne_eqb x 47 ne) at e in cc)
    ]

elsewhere_at : (new : Json) (rest : List ℕ) (j m r : Json) → traded_from new [] rest j ≡ Some (m, r) → (place : List ℕ) → (IsUnder (47 ∷ rest) (47 ∷ place) → ⊥) → (IsUnder (47 ∷ place) (47 ∷ rest) → ⊥)
    → walk [] place m ≡ walk [] place j
elsewhere_at new rest j m r e place under above =
    let s = split rest in
    let t = split place in
    ap (λ p. walk [] p m) (sym t.whole)
    ∙ elsewhere_path new s.first s.more t.first t.more j m r s.lacks s.all t.lacks t.all (ap (λ p. traded_from new [] p j) s.whole ∙ e)
    (λ b. under (under_of s.first s.more t.first t.more rest place s.whole t.whole b)) (λ b. above (under_of t.first t.more s.first s.more place rest t.whole s.whole b))
    ∙ ap (λ p. walk [] p j) t.whole

-- what isn't a pointer names nothing in either tree
elsewhere_put : (new : Json) (pointer : List ℕ) (j m r : Json) → traded new pointer j ≡ Some (m, r) → (place : List ℕ) → ¬ (IsUnder pointer place) → ¬ (IsUnder place pointer) → named place m ≡ named place j
elsewhere_put new [] j m r e [] under above = absurd (under ([], inl refl, refl))
elsewhere_put new [] j m r e (y ∷ more) under above =
    elim (cases_eq y 47) [
      | inl is ↦ absurd (under (y ∷ more, inr (more, ap (λ z. z ∷ more) is), refl))
      | inr ne ↦ no_tokens y more m ne ∙ sym (no_tokens y more j ne)
    ]
elsewhere_put new (x ∷ rest) j m r e place under above =
    elim (cases_eq x 47) [
      | inl is ↦ at is place under above
      | inr ne ↦ absurd (let bad : None ≡ Some (m, r) = rw (ne_eqb x 47 ne) at e in cc)
    ]
  where
    at : x ≡ 47 → (place : List ℕ) → ¬ (IsUnder (x ∷ rest) place) → ¬ (IsUnder place (x ∷ rest)) → named place m ≡ named place j
    at is [] under above = absurd (above (x ∷ rest, inr (rest, ap (λ z. z ∷ rest) is), refl))
    at is (y ∷ more) under above =
        elim (cases_eq y 47) [
          | inl slash ↦
              let put : traded_from new [] rest j ≡ Some (m, r) = sym (ap (λ z. traded new (z ∷ rest) j) is) ∙ e in
              ap (λ z. named (z ∷ more) m) slash
              ∙ elsewhere_at new rest j m r put more
              (λ u. under (u.0, u.1, ap (λ z. z ∷ more) slash ∙ u.2 ∙ ap (λ z. z ∷ (rest ++ u.0)) (sym is)))
              (λ u. above (u.0, u.1, ap (λ z. z ∷ rest) is ∙ u.2 ∙ ap (λ z. z ∷ (more ++ u.0)) (sym slash)))
              ∙ ap (λ z. named (z ∷ more) j) (sym slash)
          | inr ne ↦ no_tokens y more m ne ∙ sym (no_tokens y more j ne)
        ]

put_traded : (new : Json) (pointer : List ℕ) (j m r : Json) → traded new pointer j ≡ Some (m, r) → IsPut new pointer j m
put_traded new pointer j m r e = record {
  there = ap (λ p. named p m) (sym (append-nil pointer)) ∙ below_put new pointer j m r e [] (inl refl);
  below = below_put new pointer j m r e;
  elsewhere = elsewhere_put new pointer j m r e;
}

put_given : (new : Json) (pointer : List ℕ) (j m : Json) (o : Option (Json × Json)) → traded new pointer j ≡ o → option_map (λ r. r.0) o ≡ Some m → IsPut new pointer j m
put_given new pointer j m None is e = absurd (cc)
put_given new pointer j m (Some (k, r)) is e = put_traded new pointer j m r (is ∙ ap (λ x. Some (x, r)) (Some_inj k m e))

pub put_changes_no_other_place : (new before after : Json) (pointer : List ℕ) → with_value new pointer before ≡ Some after → IsPut new pointer before after
put_changes_no_other_place new before after pointer e = put_given new pointer before after (traded new pointer before) refl e
