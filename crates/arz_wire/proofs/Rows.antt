-- Items and members that are read one after the other, as a loop does.
use Rattle.std.proofs.Common.{◌≡◌, ℕ, zero, suc, lt-ltb, ne_eqb, ◌-◌, ◌+◌, ◌≤◌, ◌<◌, List, [], ◌∷◌, ◌++◌, Some, None, Ok, Err, refl, sym, ap, ◌∙◌, append_assoc, append-nil, arith}
use Rattle.std.specs.Prelude.{unwrap_or}
use Rattle.std.proofs.lemmas.Bool.{le-ltb}
use Rattle.arz_json.specs.declared.tree.Json.TheVariants.{List as ListOf, Object}
use Rattle.arz_json.specs.declared.tree.Json.{Json}
use Rattle.arz_json.specs.declared.tree.Member.{Member}
use Rattle.arz_wire.specs.declared.fault.WireFault.{WireFault}
use Rattle.arz_wire.specs.declared.fault.WireFault.TheVariants.{Short, BadTag, TooDeep}
use Rattle.arz_json.specs.Answer.{◌>>=◌}
use Rattle.arz_wire.specs.Reading.{Front, Reader, place, number_at, largest_number, name_at, items_at, members_at, list_at, object_at, scalar_at, tree_at}
use Rattle.arz_wire.specs.Names.{last_name}

-- what was read before, and what is still read
abbrev pub with_front : {A : Type 0} → List A → Front (List A) → Front (List A)
with_front front read = read >>= λ x. Ok (front ++ x.0, x.1)

regroup : {A : Type 0} (front : List A) (n : A) (read : Front (List A)) → with_front front (read >>= λ x. Ok (n ∷ x.0, x.1)) ≡ with_front (front ++ n ∷ []) read
regroup {A} front n (Ok x) = ap (λ (ns : List A). Ok (ns, x.1)) (sym (append_assoc front (n ∷ []) x.0))
regroup front n (Err f) = refl

-- ---- items

pub items_go_on : (inside : Reader) (front : List Json) (count i : ℕ) (bytes : List ℕ) (n : Json) (after : List ℕ) (total : Front (List Json)) → i < count → inside bytes ≡ Ok (n, after)
    → with_front front (items_at inside (count - i) bytes) ≡ total → with_front (front ++ n ∷ []) (items_at inside (count - (i + 1)) after) ≡ total
unfolding items_at
items_go_on inside front count i bytes n after total lt h so_far =
    let k : count - i ≡ suc (count - (i + 1)) = omega arith in
    let one : with_front front (items_at inside (count - i) bytes) ≡ with_front (front ++ n ∷ []) (items_at inside (count - (i + 1)) after) = rw (k, h) (regroup front n (items_at inside (count - (i + 1)) after)) in
    sym one ∙ so_far

pub items_end : (inside : Reader) (front : List Json) (count i : ℕ) (bytes : List ℕ) (f : WireFault) (total : Front (List Json)) → i < count → inside bytes ≡ Err f
    → with_front front (items_at inside (count - i) bytes) ≡ total → total ≡ Err f
unfolding items_at
items_end inside front count i bytes f total lt h so_far =
    let k : count - i ≡ suc (count - (i + 1)) = omega arith in
    let one : with_front front (items_at inside (count - i) bytes) ≡ Err f = rw (k, h) refl in
    sym so_far ∙ one

pub items_done : (inside : Reader) (front : List Json) (count i : ℕ) (bytes : List ℕ) (total : Front (List Json)) → count ≤ i → with_front front (items_at inside (count - i) bytes) ≡ total → total ≡ Ok (front, bytes)
unfolding items_at
items_done inside front count i bytes total le so_far =
    let k : count - i ≡ 0 = omega arith in
    let one : with_front front (items_at inside (count - i) bytes) ≡ Ok (front, bytes) = rw k (ap (λ (ns : List Json). Ok (ns, bytes)) (append-nil front)) in
    sym so_far ∙ one

-- ---- members

last_name-push : (ms : List Member) (m : Member) → last_name (ms ++ m ∷ []) ≡ Some m.name
last_name-push [] m = refl
last_name-push (l ∷ ms) m = ap (λ o. Some (unwrap_or o l.name)) (last_name-push ms m)

pub members_go_on : (inside : Reader) (at : ℕ) (front : List Member) (count i : ℕ) (bytes : List ℕ) (name : List ℕ) (middle : List ℕ) (value : Json) (after : List ℕ) (total : Front (List Member))
    → i < count → name_at at (last_name front) bytes ≡ Ok (name, middle) → inside middle ≡ Ok (value, after)
    → with_front front (members_at inside at (last_name front) (count - i) bytes) ≡ total
    → with_front (front ++ (let m : Member = record { name = name; value = value } in m) ∷ []) (members_at inside at (last_name (front ++ (let m : Member = record { name = name; value = value } in m) ∷ [])) (count - (i + 1)) after) ≡ total
unfolding members_at
members_go_on inside at front count i bytes name middle value after total lt h g so_far =
    let m : Member = record { name = name; value = value } in
    let k : count - i ≡ suc (count - (i + 1)) = omega arith in
    let one : with_front front (members_at inside at (last_name front) (count - i) bytes) ≡ with_front (front ++ m ∷ []) (members_at inside at (Some name) (count - (i + 1)) after) =
    rw (k, h, g) (regroup front m (members_at inside at (Some name) (count - (i + 1)) after)) in
    ap (λ o. with_front (front ++ m ∷ []) (members_at inside at o (count - (i + 1)) after)) (last_name-push front m) ∙ sym one ∙ so_far

pub members_end_name : (inside : Reader) (at : ℕ) (front : List Member) (count i : ℕ) (bytes : List ℕ) (f : WireFault) (total : Front (List Member)) → i < count → name_at at (last_name front) bytes ≡ Err f
    → with_front front (members_at inside at (last_name front) (count - i) bytes) ≡ total → total ≡ Err f
unfolding members_at
members_end_name inside at front count i bytes f total lt h so_far =
    let k : count - i ≡ suc (count - (i + 1)) = omega arith in
    let one : with_front front (members_at inside at (last_name front) (count - i) bytes) ≡ Err f = rw (k, h) refl in
    sym so_far ∙ one

pub members_end_value : (inside : Reader) (at : ℕ) (front : List Member) (count i : ℕ) (bytes : List ℕ) (name middle : List ℕ) (f : WireFault) (total : Front (List Member))
    → i < count → name_at at (last_name front) bytes ≡ Ok (name, middle) → inside middle ≡ Err f
    → with_front front (members_at inside at (last_name front) (count - i) bytes) ≡ total → total ≡ Err f
unfolding members_at
members_end_value inside at front count i bytes name middle f total lt h g so_far =
    let k : count - i ≡ suc (count - (i + 1)) = omega arith in
    let one : with_front front (members_at inside at (last_name front) (count - i) bytes) ≡ Err f = rw (k, h, g) refl in
    sym so_far ∙ one

pub members_done : (inside : Reader) (at : ℕ) (front : List Member) (count i : ℕ) (bytes : List ℕ) (total : Front (List Member)) → count ≤ i
    → with_front front (members_at inside at (last_name front) (count - i) bytes) ≡ total → total ≡ Ok (front, bytes)
unfolding members_at
members_done inside at front count i bytes total le so_far =
    let k : count - i ≡ 0 = omega arith in
    let one : with_front front (members_at inside at (last_name front) (count - i) bytes) ≡ Ok (front, bytes) = rw k (ap (λ (ns : List Member). Ok (ns, bytes)) (append-nil front)) in
    sym so_far ∙ one

-- ---- the number before them

pub front_none : {A : Type 0} (read : Front (List A)) → with_front [] read ≡ read
front_none (Ok x) = refl
front_none (Err f) = refl

pub items_init : (inside : Reader) (count : ℕ) (bytes : List ℕ) → with_front [] (items_at inside (count - 0) bytes) ≡ items_at inside count bytes
items_init inside count bytes = let k : count - 0 ≡ count = omega arith in rw k (front_none (items_at inside count bytes))

pub members_init : (inside : Reader) (at count : ℕ) (bytes : List ℕ) → with_front [] (members_at inside at None (count - 0) bytes) ≡ members_at inside at None count bytes
members_init inside at count bytes = let k : count - 0 ≡ count = omega arith in rw k (front_none (members_at inside at None count bytes))

pub list_counted : (inside : Reader) (total : ℕ) (bytes : List ℕ) (n : ℕ) (rest : List ℕ) → number_at total largest_number bytes ≡ Ok (n, rest) → list_at inside total bytes ≡ items_at inside n rest
unfolding list_at
list_counted inside total bytes n rest e = ap (λ r. r >>= λ n. items_at inside n.0 n.1) e

pub list_refused : (inside : Reader) (total : ℕ) (bytes : List ℕ) (f : WireFault) → number_at total largest_number bytes ≡ Err f → list_at inside total bytes ≡ Err f
unfolding list_at
list_refused inside total bytes f e = ap (λ r. r >>= λ n. items_at inside n.0 n.1) e

pub object_counted : (inside : Reader) (total : ℕ) (bytes : List ℕ) (n : ℕ) (rest : List ℕ) → number_at total largest_number bytes ≡ Ok (n, rest) → object_at inside total bytes ≡ members_at inside total None n rest
unfolding object_at
object_counted inside total bytes n rest e = ap (λ r. r >>= λ n. members_at inside total None n.0 n.1) e

pub object_refused : (inside : Reader) (total : ℕ) (bytes : List ℕ) (f : WireFault) → number_at total largest_number bytes ≡ Err f → object_at inside total bytes ≡ Err f
unfolding object_at
object_refused inside total bytes f e = ap (λ r. r >>= λ n. members_at inside total None n.0 n.1) e

-- ---- a tree by its tag

pub tree_none : (total levels : ℕ) → tree_at total levels [] ≡ Err Short
unfolding tree_at
tree_none total zero = refl
tree_none total (suc levels) = refl

pub tree_no_tag : (total levels tag : ℕ) (rest : List ℕ) → 8 < tag → tree_at total levels (tag ∷ rest) ≡ Err (BadTag (place total (tag ∷ rest)))
unfolding tree_at
tree_no_tag total zero tag rest h = rw (lt-ltb 8 tag h)
tree_no_tag total (suc levels) tag rest h = rw (lt-ltb 8 tag h)

pub tree_scalar : (total levels tag : ℕ) (rest : List ℕ) → tag ≤ 8 → (tag ≡ 6 → ⊥) → (tag ≡ 7 → ⊥) → tree_at total levels (tag ∷ rest) ≡ scalar_at total tag rest
unfolding tree_at
tree_scalar total zero tag rest h p q = rw (le-ltb 8 tag h, ne_eqb tag 6 p, ne_eqb tag 7 q)
tree_scalar total (suc levels) tag rest h p q = rw (le-ltb 8 tag h, ne_eqb tag 6 p, ne_eqb tag 7 q)

pub tree_deep_list : (total : ℕ) (rest : List ℕ) → tree_at total 0 (6 ∷ rest) ≡ Err (TooDeep (place total (6 ∷ rest)))
unfolding tree_at
tree_deep_list total rest = refl

pub tree_deep_object : (total : ℕ) (rest : List ℕ) → tree_at total 0 (7 ∷ rest) ≡ Err (TooDeep (place total (7 ∷ rest)))
unfolding tree_at
tree_deep_object total rest = refl

pub tree_list : (total levels : ℕ) (rest : List ℕ) → tree_at total (suc levels) (6 ∷ rest) ≡ (list_at (tree_at total levels) total rest >>= λ x. Ok (ListOf x.0, x.1))
unfolding tree_at
tree_list total levels rest = refl

pub tree_object : (total levels : ℕ) (rest : List ℕ) → tree_at total (suc levels) (7 ∷ rest) ≡ (object_at (tree_at total levels) total rest >>= λ x. Ok (Object x.0, x.1))
unfolding tree_at
tree_object total levels rest = refl

pub tree_deep_at_list : (total levels tag : ℕ) (rest : List ℕ) → levels ≡ 0 → tag ≡ 6 → tree_at total levels (tag ∷ rest) ≡ Err (TooDeep (place total (tag ∷ rest)))
tree_deep_at_list total levels tag rest l t = rw (l, t) (tree_deep_list total rest)

pub tree_deep_at_object : (total levels tag : ℕ) (rest : List ℕ) → levels ≡ 0 → tag ≡ 7 → tree_at total levels (tag ∷ rest) ≡ Err (TooDeep (place total (tag ∷ rest)))
tree_deep_at_object total levels tag rest l t = rw (l, t) (tree_deep_object total rest)

pub tree_at_list : (total levels tag : ℕ) (rest : List ℕ) → 0 < levels → tag ≡ 6 → tree_at total levels (tag ∷ rest) ≡ (list_at (tree_at total (levels - 1)) total rest >>= λ x. Ok (ListOf x.0, x.1))
tree_at_list total zero tag rest h t = absurd (omega arith)
tree_at_list total (suc levels) tag rest h t = let k : suc levels - 1 ≡ levels = omega arith in rw (t, k) (tree_list total levels rest)

pub tree_at_object : (total levels tag : ℕ) (rest : List ℕ) → 0 < levels → tag ≡ 7 → tree_at total levels (tag ∷ rest) ≡ (object_at (tree_at total (levels - 1)) total rest >>= λ x. Ok (Object x.0, x.1))
tree_at_object total zero tag rest h t = absurd (omega arith)
tree_at_object total (suc levels) tag rest h t = let k : suc levels - 1 ≡ levels = omega arith in rw (t, k) (tree_object total levels rest)
