-- The inputs of a run, parameter by parameter.
use Rattle.std.proofs.Common.{◌≡◌, ℕ, ◌+◌, ◌<◌, List, [], ◌∷◌, All, map, length, drop, get_or, Option, Ok, Err, Bor, refl, ap, sym, subst, ◌∙◌, drop-cons, add-one}
use Rattle.std.proofs.lemmas.List.Elements.{All-nil, All-cons, All-head, All-tail}
use Rattle.std.proofs.lemmas.Map.Views.{All-values-insert_entry}
use Rattle.std.specs.BTreeMap.{BTreeMap, insert_entry, values}
use Rattle.std.specs.Cmp.Lexicographic.{slice_cmp}
use Rattle.std.specs.Map.{values_of}
use Rattle.std.specs.Ordering.{nat_cmp, match_ordering}
use Rattle.std.specs.declared.cmp.Ordering.{Ordering}
use Rattle.std.specs.declared.cmp.Ordering.TheVariants.{Less, Equal, Greater}
use Rattle.arz_json.specs.Answer.{◌>>=◌}
use Rattle.arz_json.specs.declared.Json.{Json}
use Rattle.arz_expr.specs.declared.syntax.Base.{Base}
use Rattle.arz_expr.specs.declared.template.Given.{Given}
use Rattle.arz_request.specs.Causes.{Made, made_of, filling}
use Rattle.arz_scope.specs.Shallow.{IsShallow, AreShallow}
use Rattle.arz_relation.specs.Requests.{Entry, all_filled, in_order, member_of}
use Rattle.arz_runs.specs.Entries.{entry_of, entries_in}

-- ---- a value under a name that is borrowed, put among others

abbrev by_name : Bor (List ℕ) → Bor (List ℕ) → Ordering
by_name a b = slice_cmp nat_cmp a.now b.now

put_same : (es : List (Bor (List ℕ) × Json)) (k : Bor (List ℕ)) (v : Json) → map entry_of (insert_entry by_name es k v) ≡ insert_entry (slice_cmp nat_cmp) (map entry_of es) k.now v
put_same [] k v = refl
put_same (e ∷ es) k v = by_order (put_same es k v) (by_name k e.0)
  where
    by_order : map entry_of (insert_entry by_name es k v) ≡ insert_entry (slice_cmp nat_cmp) (map entry_of es) k.now v → (o : Ordering)
        → map entry_of (match_ordering o ((k, v) ∷ e ∷ es) ((e.0, v) ∷ es) (e ∷ insert_entry by_name es k v))
        ≡ match_ordering o ((k.now, v) ∷ entry_of e ∷ map entry_of es) ((e.0.now, v) ∷ map entry_of es) (entry_of e ∷ insert_entry (slice_cmp nat_cmp) (map entry_of es) k.now v)
    by_order more Less = refl
    by_order more Equal = refl
    by_order more Greater = ap (λ l. entry_of e ∷ l) more

-- ---- one parameter after the other

-- those that are left, put among these
abbrev pub among : List Entry → Made (List Entry) → Made (List Entry)
among others made = made_of (λ es. in_order es others) made

abbrev with_first : List ℕ → Made Json → Made (List Entry) → Made (List Entry)
with_first name value rest = value >>= λ v. made_of (λ es. (name, v) ∷ es) rest

module _ (found : Base → Option Json) (gs : List Given) (i : ℕ) (g : Given) (lt : i < length gs) (is : g ≡ get_or gs i g) where
  from : all_filled found (drop i gs) ≡ with_first g.name (filling found g.value) (all_filled found (drop (i + 1) gs))
  from = rw (add-one, drop-cons gs i g lt, ← is) refl

  first_among : (others : List Entry) (v : Json) (rest : Made (List Entry)) → among others (made_of (λ es. (g.name, v) ∷ es) rest) ≡ among (insert_entry (slice_cmp nat_cmp) others g.name v) rest
  first_among others v (Ok es) = refl
  first_among others v (Err c) = refl

  module _ (m : BTreeMap (Bor (List ℕ)) Json) (before : among [] (all_filled found gs) ≡ among (entries_in m) (all_filled found (drop i gs))) where
    pub one_more : (n : BTreeMap (Bor (List ℕ)) Json) (k : Bor (List ℕ)) (v : Json) → filling found g.value ≡ Ok v → k.now ≡ g.name → n.entries ≡ insert_entry by_name m.entries k v
        → among [] (all_filled found gs) ≡ among (entries_in n) (all_filled found (drop (i + 1) gs))
    one_more n k v made named put =
        let rest = all_filled found (drop (i + 1) gs) in
        let here : insert_entry (slice_cmp nat_cmp) (entries_in m) g.name v ≡ entries_in n =
        ap (λ q. insert_entry (slice_cmp nat_cmp) (entries_in m) q v) (sym named) ∙ sym (put_same m.entries k v) ∙ ap (map entry_of) (sym put) in
        before ∙ ap (among (entries_in m)) (from ∙ ap (λ x. with_first g.name x rest) made) ∙ first_among (entries_in m) v rest ∙ ap (λ l. among l rest) here

-- ---- trees that nest no deeper than one that is read

pub put_shallow : (m n : BTreeMap (Bor (List ℕ)) Json) (k : Bor (List ℕ)) (v : Json) → n.entries ≡ insert_entry by_name m.entries k v → All IsShallow (values m) → IsShallow v → All IsShallow (values n)
put_shallow m n k v put all one = subst (λ (es : List (Bor (List ℕ) × Json)). All IsShallow (values_of es)) (sym put) (All-values-insert_entry by_name k v IsShallow m.entries all one)

pub shallow_members : (es : List (Bor (List ℕ) × Json)) → All IsShallow (values_of es) → AreShallow (map member_of (map entry_of es))
shallow_members [] h = All-nil (λ m. IsShallow m.value)
shallow_members (e ∷ es) h = All-cons (λ m. IsShallow m.value) (member_of (entry_of e)) (map member_of (map entry_of es)) (All-head IsShallow e.1 (values_of es) h) (shallow_members es (All-tail IsShallow e.1 (values_of es) h))
