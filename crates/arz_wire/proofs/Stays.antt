-- What bytes give stays whatever follows them, and bytes that end too early go on to a fault.
use Rattle.std.proofs.Common.{◌≡◌, ℕ, zero, suc, ◌+◌, ◌-◌, ◌^◌, ◌<◌, ◌≤◌, ◌&&◌, List, [], ◌∷◌, ◌++◌, length, take, drop, get_or, Bool, true, false, cond, Option, Some, None, Result, Ok, Err, refl, sym, ap, subst, ◌∙◌, arith}
use Rattle.std.specs.Prelude.{nat_lt, nat_le, ◌==◌, option_map}
use Rattle.std.specs.Str.{is_utf8, IsUtf8, chars}
use Rattle.std.proofs.lemmas.Bool.{ltb-true, ltb-false, le-ltb, leb-true, and_parts, false_from_ne_true, false≢true}
use Rattle.std.proofs.lemmas.List.{length-append, take-append-le, drop-append-le, get_or-append-add}
use Rattle.std.proofs.lemmas.Str.{IsUtf8-from_is_utf8, is_utf8-from_IsUtf8, IsUtf8-drop}
use Rattle.std.proofs.Math.Seq.{take-suc, drop-append_seam, get_or-append_seam}
use Rattle.arz_json.specs.Tree.{max_depth}
use Rattle.arz_json.specs.declared.tree.Json.{Json}
use Rattle.arz_wire.specs.declared.fault.WireFault.{WireFault}
use Rattle.arz_wire.specs.declared.fault.WireFault.TheVariants.{Short, BadTag, NotCanonical, TooDeep, Memory}
use Rattle.arz_json.specs.Answer.{◌>>=◌}
use Rattle.arz_wire.specs.Reading.{Front, Reader, place, lone, more_of, number_front, number_if, number_at, largest_number, text_if, text_at, is_above, name_at, items_at, members_at, list_at, object_at, scalar_at, tree_at, counted_bytes, first_tree}
use Rattle.arz_wire.proofs.Rows.{tree_no_tag}

-- ---- bytes that are no tag, end no number and stand in no text

ones : ℕ → List ℕ
ones zero = []
ones (suc k) = 255 ∷ ones k

ones-length : (k : ℕ) → length (ones k) ≡ k
unfolding ones
ones-length zero = refl
ones-length (suc k) = ap (λ n. suc n) (ones-length k)

ones-at : (k i : ℕ) → i < k → get_or (ones k) i 0 ≡ 255
unfolding ones
ones-at zero i h = absurd (omega arith)
ones-at (suc k) zero h = refl
ones-at (suc k) (suc i) h = ones-at k i (omega arith)

record Filling (more : List ℕ) : Type 0 where
  pub count : ℕ
  pub are : more ≡ ones count
  pub many : 2 ^ 64 ≤ count

-- ---- what was given, and what is given where more bytes follow

abbrev IsFault : {A : Type 0} → Result A WireFault → Type 0
IsFault r = (e : WireFault) × (r ≡ Err e) × (e ≡ Short → ⊥)

abbrev Ends : {A : Type 0} → List ℕ → WireFault → Front A → Type 0
Ends more Short s = Filling more → IsFault s
Ends more (BadTag n) s = s ≡ Err (BadTag n)
Ends more (NotCanonical n) s = s ≡ Err (NotCanonical n)
Ends more (TooDeep n) s = s ≡ Err (TooDeep n)
Ends more Memory s = s ≡ Err Memory

abbrev Goes : {A : Type 0} → List ℕ → Front A → Front A → Type 0
Goes more (Ok x) s = s ≡ Ok (x.0, x.1 ++ more)
Goes more (Err e) s = Ends more e s

record Stays {A : Type 0} (more : List ℕ) (r s : Front A) : Type 0 where
  pub goes : Goes more r s

then_goes : {A B : Type 0} (more : List ℕ) (r s : Front A) (f g : A × List ℕ → Front B) → Goes more r s
    → ((x : A × List ℕ) → r ≡ Ok x → Goes more (f x) (g (x.0, x.1 ++ more))) → Goes more (r >>= f) (s >>= g)
then_goes more (Ok x) s f g h k = rw h (k x refl)
then_goes {A} {B} more (Err Short) s f g h k = λ filling. let fault = h filling in (fault.0, ap (λ (r : Front A). r >>= g) fault.1, fault.2)
then_goes {A} {B} more (Err (BadTag n)) s f g h k = ap (λ (r : Front A). r >>= g) h
then_goes {A} {B} more (Err (NotCanonical n)) s f g h k = ap (λ (r : Front A). r >>= g) h
then_goes {A} {B} more (Err (TooDeep n)) s f g h k = ap (λ (r : Front A). r >>= g) h
then_goes {A} {B} more (Err Memory) s f g h k = ap (λ (r : Front A). r >>= g) h

then_stays : {A B : Type 0} {more : List ℕ} {r s : Front A} (f g : A × List ℕ → Front B) → Stays more r s
    → ((x : A × List ℕ) → r ≡ Ok x → Stays more (f x) (g (x.0, x.1 ++ more))) → Stays more (r >>= f) (s >>= g)
then_stays {more} {r} {s} f g h k = record { goes = then_goes more r s f g h.goes (λ x e. (k x e).goes) }

if_goes : {A : Type 0} (more : List ℕ) (b : Bool) (r s p q : Front A) → Goes more r s → Goes more p q → Goes more (cond b r p) (cond b s q)
if_goes more true r s p q h k = h
if_goes more false r s p q h k = k

if_stays : {A : Type 0} {more : List ℕ} {r s p q : Front A} (b : Bool) → Stays more r s → Stays more p q → Stays more (cond b r p) (cond b s q)
if_stays {more} {r} {s} {p} {q} b h k = record { goes = if_goes more b r s p q h.goes k.goes }

-- ---- places

place-stays : (total : ℕ) (bytes more : List ℕ) → place (total + length more) (bytes ++ more) ≡ place total bytes
place-stays total bytes more = omega (arith, length-append bytes more)

-- ---- numbers

abbrev Numbered : Type 0
Numbered = (ℕ × Bool) × List ℕ

-- a number in no form
abbrev IsLoose : Option Numbered → Type 0
IsLoose None = ⊥
IsLoose (Some n) = n.0.1 ≡ false

loose_more : (b : ℕ) (o : Option Numbered) → IsLoose o → IsLoose (option_map (more_of b) o)
loose_more b None h = h
loose_more b (Some n) h = rw h refl

ones-loose : (k count : ℕ) → k < count → IsLoose (number_front k (ones count))
unfolding ones number_front
ones-loose k zero h = absurd (omega arith)
ones-loose zero (suc count) h = refl
ones-loose (suc k) (suc count) h = loose_more 255 (number_front k (ones count)) (ones-loose k count (omega arith))

abbrev Numbers : List ℕ → Option Numbered → Option Numbered → Type 0
Numbers more None p = Filling more → IsLoose p
Numbers more (Some n) p = p ≡ Some (n.0, n.1 ++ more)

numbers_more : (more : List ℕ) (b : ℕ) (o p : Option Numbered) → Numbers more o p → Numbers more (option_map (more_of b) o) (option_map (more_of b) p)
numbers_more more b None p h = λ filling. loose_more b p (h filling)
numbers_more more b (Some n) p h = ap (λ (q : Option Numbered). option_map (more_of b) q) h

numbers_if : (more : List ℕ) (b low : Bool) (n : Numbered) (o p : Option Numbered) → Numbers more o p → Numbers more (cond low (Some n) o) (cond low (Some (n.0, n.1 ++ more)) p)
numbers_if more b true n o p h = refl
numbers_if more b false n o p h = h

none_numbers : (more : List ℕ) (k : ℕ) → k ≤ 9 → Filling more → IsLoose (number_front k more)
none_numbers more k h filling = subst (λ (l : List ℕ). IsLoose (number_front k l)) (sym filling.are) (ones-loose k filling.count (omega (arith, filling.many)))

front_stays : (more : List ℕ) (k : ℕ) (bytes : List ℕ) → k ≤ 9 → Numbers more (number_front k bytes) (number_front k (bytes ++ more))
unfolding number_front
front_stays more zero [] h = none_numbers more 0 h
front_stays more (suc k) [] h = none_numbers more (suc k) h
front_stays more zero (b ∷ rest) h = refl
front_stays more (suc k) (b ∷ rest) h =
    numbers_if more true (nat_lt b 128) (lone b rest) (option_map (more_of b) (number_front k rest)) (option_map (more_of b) (number_front k (rest ++ more)))
    (numbers_more more b (number_front k rest) (number_front k (rest ++ more)) (front_stays more k rest (omega arith)))

loose_fault : (total most : ℕ) (bytes : List ℕ) (o : Option Numbered) → IsLoose o → IsFault (number_if total most bytes o)
loose_fault total most bytes None h = absurd h
loose_fault total most bytes (Some n) h = (NotCanonical (place total bytes), rw h refl, λ e. cc)

fits_goes : (more : List ℕ) (total : ℕ) (bytes : List ℕ) (fits : Bool) (n : ℕ × List ℕ)
    → Goes more (cond fits (Ok n) (Err (NotCanonical (place total bytes)))) (cond fits (Ok (n.0, n.1 ++ more)) (Err (NotCanonical (place (total + length more) (bytes ++ more)))))
fits_goes more total bytes true n = refl
fits_goes more total bytes false n = ap (λ (at : ℕ). Err (NotCanonical at)) (place-stays total bytes more)

number_if_goes : (more : List ℕ) (total most : ℕ) (bytes : List ℕ) (o p : Option Numbered) → Numbers more o p
    → Goes more (number_if total most bytes o) (number_if (total + length more) most (bytes ++ more) p)
number_if_goes more total most bytes None p h = λ filling. loose_fault (total + length more) most (bytes ++ more) p (h filling)
number_if_goes more total most bytes (Some n) p h = rw h (fits_goes more total bytes (n.0.1 && nat_le n.0.0 most) (n.0.0, n.1))

number_stays : (more : List ℕ) (total most : ℕ) (bytes : List ℕ) → Stays more (number_at total most bytes) (number_at (total + length more) most (bytes ++ more))
number_stays more total most bytes =
    record { goes = number_if_goes more total most bytes (number_front 9 bytes) (number_front 9 (bytes ++ more)) (front_stays more 9 bytes (omega arith)) }

passed_most : (most : ℕ) (at : WireFault) (n : Numbered) (b : Bool) → (n.0.1 && nat_le n.0.0 most) ≡ b → (x : ℕ × List ℕ) → cond b (Ok (n.0.0, n.1)) (Err at) ≡ Ok x → x.0 ≤ most
passed_most most at n true h x e =
    let p : (n.0.0, n.1) ≡ x = cc in
    let same : n.0.0 ≡ x.0 = ap (λ (q : ℕ × List ℕ). q.0) p in
    omega (arith, leb-true n.0.0 most (and_parts n.0.1 (nat_le n.0.0 most) h).1, same)
passed_most most at n false h x e = absurd (cc)

number_most_if : (total most : ℕ) (bytes : List ℕ) (o : Option Numbered) (x : ℕ × List ℕ) → number_if total most bytes o ≡ Ok x → x.0 ≤ most
number_most_if total most bytes None x e = absurd (cc)
number_most_if total most bytes (Some n) x e = passed_most most (NotCanonical (place total bytes)) n (n.0.1 && nat_le n.0.0 most) refl x e

number_most : (total most : ℕ) (bytes : List ℕ) (x : ℕ × List ℕ) → number_at total most bytes ≡ Ok x → x.0 ≤ most
number_most total most bytes x e = number_most_if total most bytes (number_front 9 bytes) x e

-- ---- texts and names

-- a last byte 255 stands in no text
no_text : (front : List ℕ) → is_utf8 (front ++ 255 ∷ []) ≡ false
unfolding is_utf8 chars
no_text front = false_from_ne_true (is_utf8 (front ++ 255 ∷ [])) (λ e.
    let at = get_or-append_seam front 255 [] 0 in
    let long = length-append front (255 ∷ []) in
    let last : IsUtf8 (drop (length front) (front ++ 255 ∷ [])) =
    IsUtf8-drop (front ++ 255 ∷ []) (length front) (IsUtf8-from_is_utf8 (front ++ 255 ∷ []) e) (omega (arith, long), λ _ _. omega (arith, at)) in
    let alone : IsUtf8 (255 ∷ []) = subst IsUtf8 (drop-append_seam front (255 ∷ [])) last in
    false≢true (is_utf8-from_IsUtf8 (255 ∷ []) alone))

no_text_within : (n : ℕ) (rest : List ℕ) (count : ℕ) → length rest < n → n ≤ count → is_utf8 (take n (rest ++ ones count)) ≡ false
no_text_within zero rest count h k = absurd (omega arith)
no_text_within (suc n) rest count h k =
    let long = length-append rest (ones count) in
    let many = ones-length count in
    let past = n - length rest in
    let where_at : length rest + past ≡ n = omega arith in
    let last : get_or (rest ++ ones count) n 0 ≡ 255 =
    ap (λ (i : ℕ). get_or (rest ++ ones count) i 0) (sym where_at) ∙ get_or-append-add rest (ones count) past 0 ∙ ones-at count past (omega arith) in
    ap is_utf8 (take-suc (rest ++ ones count) n 0 (omega (arith, long, many)) ∙ ap (λ (b : ℕ). take n (rest ++ ones count) ++ b ∷ []) last) ∙ no_text (take n (rest ++ ones count))

text_short : (more : List ℕ) (total : ℕ) (n : ℕ × List ℕ) → n.0 < 2 ^ 64 → length n.1 < n.0 → Filling more → IsFault (text_if total (n.0, n.1 ++ more))
text_short more total n h short filling =
    let long = length-append n.1 more in
    let many : length more ≡ filling.count = ap length filling.are ∙ ones-length filling.count in
    let enough : nat_lt (length (n.1 ++ more)) n.0 ≡ false = le-ltb (length (n.1 ++ more)) n.0 (omega (arith, long, many, filling.many)) in
    let none : is_utf8 (take n.0 (n.1 ++ more)) ≡ false =
    ap (λ (l : List ℕ). is_utf8 (take n.0 (n.1 ++ l))) filling.are ∙ no_text_within n.0 n.1 filling.count short (omega (arith, filling.many)) in
    (NotCanonical (place total (n.1 ++ more)), rw (enough, none) refl, λ e. cc)

text_whole : (more : List ℕ) (total : ℕ) (n : ℕ × List ℕ) (b : Bool) → is_utf8 (take n.0 n.1) ≡ b → n.0 ≤ length n.1
    → Goes more (cond b (Ok (take n.0 n.1, drop n.0 n.1)) (Err (NotCanonical (place total n.1)))) (text_if (total + length more) (n.0, n.1 ++ more))
text_whole more total n true h le =
    let enough : nat_lt (length (n.1 ++ more)) n.0 ≡ false = le-ltb (length (n.1 ++ more)) n.0 (omega (arith, length-append n.1 more)) in
    rw (enough, take-append-le n.0 n.1 more le, drop-append-le n.0 n.1 more le, h) refl
text_whole more total n false h le =
    let enough : nat_lt (length (n.1 ++ more)) n.0 ≡ false = le-ltb (length (n.1 ++ more)) n.0 (omega (arith, length-append n.1 more)) in
    rw (enough, take-append-le n.0 n.1 more le, h) (ap (λ (at : ℕ). Err (NotCanonical at)) (place-stays total n.1 more))

text_if_goes : (more : List ℕ) (total : ℕ) (n : ℕ × List ℕ) → n.0 < 2 ^ 64 → (b : Bool) → nat_lt (length n.1) n.0 ≡ b
    → Goes more (cond b (Err Short) (cond (is_utf8 (take n.0 n.1)) (Ok (take n.0 n.1, drop n.0 n.1)) (Err (NotCanonical (place total n.1))))) (text_if (total + length more) (n.0, n.1 ++ more))
text_if_goes more total n h true is = text_short more (total + length more) n h (ltb-true (length n.1) n.0 is)
text_if_goes more total n h false is = text_whole more total n (is_utf8 (take n.0 n.1)) refl (ltb-false (length n.1) n.0 is)

text_stays : (more : List ℕ) (total : ℕ) (bytes : List ℕ) → Stays more (text_at total bytes) (text_at (total + length more) (bytes ++ more))
unfolding text_at
text_stays more total bytes =
    then_stays _ _ (number_stays more total largest_number bytes)
    (λ n e. record { goes = text_if_goes more total n (let most = number_most total largest_number bytes n e in omega (arith, most)) (nat_lt (length n.1) n.0) refl })

name_if_goes : (more : List ℕ) (total : ℕ) (n : List ℕ × List ℕ) (b : Bool)
    → Goes more (cond b (Ok n) (Err (NotCanonical (total - (length n.0 + length n.1))))) (cond b (Ok (n.0, n.1 ++ more)) (Err (NotCanonical (total + length more - (length n.0 + length (n.1 ++ more))))))
name_if_goes more total n true = refl
name_if_goes more total n false =
    let same : total + length more - (length n.0 + length (n.1 ++ more)) ≡ total - (length n.0 + length n.1) = omega (arith, length-append n.1 more) in
    ap (λ (at : ℕ). Err (NotCanonical at)) same

name_stays : (more : List ℕ) (total : ℕ) (before : Option (List ℕ)) (bytes : List ℕ) → Stays more (name_at total before bytes) (name_at (total + length more) before (bytes ++ more))
unfolding name_at
name_stays more total before bytes = then_stays _ _ (text_stays more total bytes) (λ n e. record { goes = name_if_goes more total n (is_above before n.0) })

-- ---- trees

abbrev ReadersStay : List ℕ → Reader → Reader → Type 0
ReadersStay more r s = (bytes : List ℕ) → Stays more (r bytes) (s (bytes ++ more))

items_stay : (more : List ℕ) (r s : Reader) → ReadersStay more r s → (n : ℕ) (bytes : List ℕ) → Stays more (items_at r n bytes) (items_at s n (bytes ++ more))
unfolding items_at
items_stay more r s h zero bytes = record { goes = refl }
items_stay more r s h (suc n) bytes =
    then_stays _ _ (h bytes) (λ first e. then_stays _ _ (items_stay more r s h n first.1) (λ others f. record { goes = refl }))

members_stay : (more : List ℕ) (r s : Reader) → ReadersStay more r s → (total : ℕ) (before : Option (List ℕ)) (n : ℕ) (bytes : List ℕ)
    → Stays more (members_at r total before n bytes) (members_at s (total + length more) before n (bytes ++ more))
unfolding members_at
members_stay more r s h total before zero bytes = record { goes = refl }
members_stay more r s h total before (suc n) bytes =
    then_stays _ _ (name_stays more total before bytes) (λ name e. then_stays _ _ (h name.1)
    (λ value f. then_stays _ _ (members_stay more r s h total (Some name.0) n value.1) (λ others g. record { goes = refl })))

list_stays : (more : List ℕ) (r s : Reader) → ReadersStay more r s → (total : ℕ) (bytes : List ℕ) → Stays more (list_at r total bytes) (list_at s (total + length more) (bytes ++ more))
unfolding list_at
list_stays more r s h total bytes = then_stays _ _ (number_stays more total largest_number bytes) (λ n e. items_stay more r s h n.0 n.1)

object_stays : (more : List ℕ) (r s : Reader) → ReadersStay more r s → (total : ℕ) (bytes : List ℕ) → Stays more (object_at r total bytes) (object_at s (total + length more) (bytes ++ more))
unfolding object_at
object_stays more r s h total bytes = then_stays _ _ (number_stays more total largest_number bytes) (λ n e. members_stay more r s h total None n.0 n.1)

scalar_stays : (more : List ℕ) (total tag : ℕ) (rest : List ℕ) → Stays more (scalar_at total tag rest) (scalar_at (total + length more) tag (rest ++ more))
scalar_stays more total tag rest =
    if_stays (tag == 0) (record { goes = refl }) (if_stays (tag == 1) (record { goes = refl }) (if_stays (tag == 2) (record { goes = refl })
    (if_stays (tag == 3) (then_stays _ _ (number_stays more total largest_number rest) (λ n e. record { goes = refl }))
    (if_stays (tag == 4) (then_stays _ _ (number_stays more total (2 ^ 63 - 1) rest) (λ n e. record { goes = refl }))
    (if_stays (tag == 5) (then_stays _ _ (text_stays more total rest) (λ s e. record { goes = refl })) (record { goes = refl }))))))

bad_tag_stays : {A : Type 0} (more : List ℕ) (total : ℕ) (bytes : List ℕ) → Goes {A = A} more (Err (BadTag (place total bytes))) (Err (BadTag (place (total + length more) (bytes ++ more))))
bad_tag_stays more total bytes = ap (λ (at : ℕ). Err (BadTag at)) (place-stays total bytes more)

too_deep_stays : {A : Type 0} (more : List ℕ) (total : ℕ) (bytes : List ℕ) → Goes {A = A} more (Err (TooDeep (place total bytes))) (Err (TooDeep (place (total + length more) (bytes ++ more))))
too_deep_stays more total bytes = ap (λ (at : ℕ). Err (TooDeep at)) (place-stays total bytes more)

-- a byte 255 is no tag
ones-fault : (total levels count : ℕ) → 0 < count → IsFault (tree_at total levels (ones count))
unfolding ones
ones-fault total levels zero h = absurd (omega arith)
ones-fault total levels (suc count) h = (BadTag (place total (255 ∷ ones count)), tree_no_tag total levels 255 (ones count) (omega arith), λ e. cc)

none_fault : (more : List ℕ) (total levels : ℕ) → Filling more → IsFault (tree_at total levels more)
none_fault more total levels filling =
    subst (λ (l : List ℕ). IsFault (tree_at total levels l)) (sym filling.are) (ones-fault total levels filling.count (omega (arith, filling.many)))

tree_stays : (more : List ℕ) (total levels : ℕ) → ReadersStay more (tree_at total levels) (tree_at (total + length more) levels)
unfolding tree_at
tree_stays more total zero [] = record { goes = λ filling. none_fault more (total + length more) 0 filling }
tree_stays more total (suc levels) [] = record { goes = λ filling. none_fault more (total + length more) (suc levels) filling }
tree_stays more total zero (tag ∷ rest) =
    if_stays (nat_lt 8 tag) (record { goes = bad_tag_stays more total (tag ∷ rest) }) (if_stays (tag == 6) (record { goes = too_deep_stays more total (tag ∷ rest) })
    (if_stays (tag == 7) (record { goes = too_deep_stays more total (tag ∷ rest) }) (scalar_stays more total tag rest)))
tree_stays more total (suc levels) (tag ∷ rest) =
    if_stays (nat_lt 8 tag) (record { goes = bad_tag_stays more total (tag ∷ rest) })
    (if_stays (tag == 6) (then_stays _ _ (list_stays more (tree_at total levels) (tree_at (total + length more) levels) (tree_stays more total levels) total rest) (λ x e. record { goes = refl }))
    (if_stays (tag == 7) (then_stays _ _ (object_stays more (tree_at total levels) (tree_at (total + length more) levels) (tree_stays more total levels) total rest) (λ x e. record { goes = refl }))
    (scalar_stays more total tag rest)))

-- ---- the tree at the front

first_goes : (more : List ℕ) (total : ℕ) (r s : Front Json) → Goes more r s → ((r >>= counted_bytes total) ≡ Err Short → ⊥)
    → (s >>= counted_bytes (total + length more)) ≡ (r >>= counted_bytes total)
first_goes more total (Ok x) s h settled =
    let same : total + length more - length (x.1 ++ more) ≡ total - length x.1 = omega (arith, length-append x.1 more) in
    rw (h, same) refl
first_goes more total (Err Short) s h settled = absurd (settled refl)
first_goes more total (Err (BadTag n)) s h settled = rw h refl
first_goes more total (Err (NotCanonical n)) s h settled = rw h refl
first_goes more total (Err (TooDeep n)) s h settled = rw h refl
first_goes more total (Err Memory) s h settled = rw h refl

pub readings_stay : (bytes more : List ℕ) → (first_tree bytes ≡ Err Short → ⊥) → first_tree (bytes ++ more) ≡ first_tree bytes
unfolding first_tree
readings_stay bytes more settled =
    ap (λ (n : ℕ). tree_at n max_depth (bytes ++ more) >>= counted_bytes n) (length-append bytes more)
    ∙ first_goes more (length bytes) (tree_at (length bytes) max_depth bytes) (tree_at (length bytes + length more) max_depth (bytes ++ more)) (tree_stays more (length bytes) max_depth bytes).goes settled

first_short : (more : List ℕ) (total : ℕ) (r s : Front Json) → Goes more r s → Filling more → (r >>= counted_bytes total) ≡ Err Short
    → (s >>= counted_bytes (total + length more)) ≡ Err Short → ⊥
first_short more total (Ok x) s h filling e f = absurd (cc)
first_short more total (Err Short) s h filling e f =
    let fault = h filling in
    let same : Err fault.0 ≡ Err Short = sym (ap (λ (r : Front Json). r >>= counted_bytes (total + length more)) fault.1) ∙ f in
    fault.2 (cc)
first_short more total (Err (BadTag n)) s h filling e f = absurd (cc)
first_short more total (Err (NotCanonical n)) s h filling e f = absurd (cc)
first_short more total (Err (TooDeep n)) s h filling e f = absurd (cc)
first_short more total (Err Memory) s h filling e f = absurd (cc)

short_goes_on : (bytes more : List ℕ) → Filling more → first_tree bytes ≡ Err Short → first_tree (bytes ++ more) ≡ Err Short → ⊥
unfolding first_tree
short_goes_on bytes more filling e f =
    first_short more (length bytes) (tree_at (length bytes) max_depth bytes) (tree_at (length bytes + length more) max_depth (bytes ++ more)) (tree_stays more (length bytes) max_depth bytes).goes filling e
    (sym (ap (λ (n : ℕ). tree_at n max_depth (bytes ++ more) >>= counted_bytes n) (length-append bytes more)) ∙ f)

pub short_can_go_on : (bytes : List ℕ) → first_tree bytes ≡ Err Short → (more : List ℕ) × (first_tree (bytes ++ more) ≡ Err Short → ⊥)
short_can_go_on bytes e = (ones (2 ^ 64), short_goes_on bytes (ones (2 ^ 64)) (record { count = 2 ^ 64; are = refl; many = omega arith }) e)
