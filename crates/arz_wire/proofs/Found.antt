-- What is read is spelled so, and is well-formed.
use Rattle.std.proofs.Common.{◌≡◌, ℕ, zero, suc, ◌+◌, ◌*◌, ◌-◌, ◌/◌, ◌%◌, ◌^◌, ◌<◌, ◌≤◌, ◌&&◌, ltb, ℤ, pos, negsuc, List, [], ◌∷◌, ◌++◌, length, map, get_or, take, drop, Bool, true, false, cond, Option, Some, None, option_map, Result, Ok, Err, refl, sym, ap, ap₂, subst, ◌∙◌, append_assoc, arith, lt-ltb, inl, inr, rules}
use Rattle.std.specs.Prelude.{nat_lt, nat_le, IfOk}
use Rattle.std.specs.Str.{is_utf8}
use Rattle.std.proofs.lemmas.Bool.{ltb-false, ltb-true, cases_lt}
use Rattle.std.proofs.lemmas.List.{take-append-drop, get_or-drop, get_or-take, get_or_past, length-take, take_at, length-append}
use borrow.Author.Tests.{leb-true}
use Rattle.json.proofs.Found.{Some_inj}
use Rattle.arz_json.specs.Tree.{has_form, depth, all_true, largest, are_ordered, is_below_first, is_in_range, form_step, depth_step, max_depth, IsWellFormed}
use Rattle.arz_json.specs.declared.tree.Json.{Json, the_lemmas}
use Rattle.arz_json.specs.declared.tree.Json.TheVariants.{Null, Flag, Int, Text, List as ListOf, Object, Opaque}
use Rattle.arz_json.specs.declared.tree.Member.{Member}
use Rattle.arz_json.proofs.Layers.{folded-List, folded-Object, values_of-map}
use Rattle.arz_json.proofs.Places.{depth_object}
use Rattle.arz_wire.specs.declared.fault.WireFault.{WireFault}
use Rattle.arz_wire.specs.declared.fault.WireFault.TheVariants.{Short, NotCanonical}
use Rattle.arz_wire.specs.Spelling.{number_within, number, counted, spelling, spellings, member_spellings}
use Rattle.arz_json.specs.Answer.{◌>>=◌, Gives}
use Rattle.arz_wire.specs.Reading.{Front, Reader, place, lone, more_of, number_front, number_if, number_at, largest_number, text_if, text_at, is_above, name_if, name_at, items_at, members_at, list_at, object_at, nested, tagged, level_at, tree_at, counted_bytes, first_tree, told}
use Rattle.arz_wire.proofs.Numbers.{number_within-last, number_within-suc}
use Rattle.arz_wire.proofs.Layers.{spelling_null, spelling_false, spelling_true, spelling_int, spelling_text, spelling_list, spelling_object, spelling_opaque}

abbrev pub IsBytes : List ℕ → Type 0
IsBytes bytes = (i : ℕ) → get_or bytes i 0 < 256

IsBytes-drop : (n : ℕ) (bytes : List ℕ) → IsBytes bytes → IsBytes (drop n bytes)
IsBytes-drop n bytes h i = rw get_or-drop (h (n + i))

pub IsBytes-take : (n : ℕ) (bytes : List ℕ) → IsBytes bytes → IsBytes (take n bytes)
IsBytes-take n bytes h i =
    elim (cases_lt i n) [
      | inl lt ↦ rw (get_or-take n bytes i 0 lt) (h i)
      | inr le ↦ rw (get_or_past (take n bytes) i 0 (omega (arith, length-take n bytes))) (omega arith)
    ]

pub IsBytes-rest : (b : ℕ) (bytes : List ℕ) → IsBytes (b ∷ bytes) → IsBytes bytes
IsBytes-rest b bytes h i = h (suc i)

-- the value of a step that did not fail
pub bind_ok : {A B : Type 0} (r : Result A WireFault) (f : A → Result B WireFault) (y : B) → (r >>= f) ≡ Ok y → (x : A) × (r ≡ Ok x) × (f x ≡ Ok y)
bind_ok (Ok x) f y e = (x, refl, e)
bind_ok (Err d) f y e = absurd cc

-- a test that did not fail
pub guard_ok : {A : Type 0} (b : Bool) (d : WireFault) (x y : A) → cond b (Err d) (Ok x) ≡ Ok y → (b ≡ false) × (x ≡ y)
guard_ok true d x y e = absurd cc
guard_ok false d x y e = (refl, cc)

pub passed : {A : Type 0} (b : Bool) (d : WireFault) (x y : A) → cond b (Ok x) (Err d) ≡ Ok y → (b ≡ true) × (x ≡ y)
passed true d x y e = (refl, cc)
passed false d x y e = absurd cc

abbrev pub done : {A : Type 0} → A → Result A WireFault
done x = Ok x

pub ok_is : {A : Type 0} (x y : A) → done x ≡ done y → x ≡ y
ok_is x y e = cc

left : (a b : Bool) → (a && b) ≡ true → a ≡ true
left true b p = refl
left false b p = p

right : (a b : Bool) → (a && b) ≡ true → b ≡ true
right true b p = p
right false b p = absurd (cc)

both : (a b : Bool) → a ≡ true → b ≡ true → (a && b) ≡ true
both true b p q = q
both false b p q = p

-- what was taken from the front
pub record Takes (bytes text rest : List ℕ) : Type 0 where
  pub parts : bytes ≡ text ++ rest
  pub rest_fits : IsBytes rest

Takes-then : (a x b y c : List ℕ) → Takes a x b → Takes b y c → Takes a (x ++ y) c
Takes-then a x b y c p q = record { parts = p.parts ∙ ap (λ (t : List ℕ). x ++ t) q.parts ∙ sym (append_assoc x y c); rest_fits = q.rest_fits }

Takes-tag : (tag : ℕ) (a x b : List ℕ) → Takes a x b → Takes (tag ∷ a) (tag ∷ x) b
Takes-tag tag a x b p = record { parts = ap (λ l. tag ∷ l) p.parts; rest_fits = p.rest_fits }

-- ---- numbers

abbrev Numbered : Type 0
Numbered = (ℕ × Bool) × List ℕ

front_at : (k b : ℕ) (bs : List ℕ) (n : ℕ) (rest : List ℕ) (low : Bool) → nat_lt b 128 ≡ low → b < 256 → IsBytes bs
    → ((m : ℕ) (r : List ℕ) → number_front k bs ≡ Some ((m, true), r) → Takes bs (number_within k m) r)
    → cond low (Some (lone b bs)) (option_map (more_of b) (number_front k bs)) ≡ Some ((n, true), rest) → Takes (b ∷ bs) (number_within (suc k) n) rest
front_at k b bs n rest true is small fits ih e =
    let p : lone b bs ≡ ((n, true), rest) = Some_inj _ _ e in
    let same : b ≡ n = ap (λ (q : Numbered). q.0.0) p in
    let after : bs ≡ rest = ap (λ (q : Numbered). q.1) p in
    let less : b < 128 = ltb-true b 128 is in
    record {
      parts = ap₂ (λ (x : ℕ) (l : List ℕ). x ∷ l) same after ∙ ap (λ l. l ++ rest) (sym (number_within-last (suc k) n (omega (arith, same, less))));
      rest_fits = subst IsBytes after fits;
    }
front_at k b bs n rest false is small fits ih e = more (number_front k bs) refl e
  where
    given : (m : ℕ) (s : Bool) (r : List ℕ) → number_front k bs ≡ Some ((m, s), r) → more_of b ((m, s), r) ≡ ((n, true), rest) → Takes (b ∷ bs) (number_within (suc k) n) rest
    given m s r f p =
        let form : (s && nat_lt 0 m) ≡ true = ap (λ (q : Numbered). q.0.1) p in
        let value : b % 128 + 128 * m ≡ n = ap (λ (q : Numbered). q.0.0) p in
        let after : r ≡ rest = ap (λ (q : Numbered). q.1) p in
        let short : s ≡ true = left s (nat_lt 0 m) form in
        let some : 0 < m = ltb-true 0 m (right s (nat_lt 0 m) form) in
        let high : 128 ≤ b = ltb-false b 128 is in
        let inner : Takes bs (number_within k m) r = ih m r (f ∙ ap (λ (t : Bool). Some ((m, t), r)) short) in
        let low_is : n % 128 + 128 ≡ b = omega (arith, value, high, small) in
        let high_is : n / 128 ≡ m = omega (arith, value) in
        let wide : number_within (suc k) n ≡ b ∷ number_within k m = number_within-suc k n (omega (arith, value, some)) ∙ ap₂ (λ (x y : ℕ). x ∷ number_within k y) low_is high_is in
        record { parts = ap (λ l. b ∷ l) inner.parts ∙ ap₂ (λ (l t : List ℕ). l ++ t) (sym wide) after; rest_fits = subst IsBytes after inner.rest_fits }

    more : (o : Option Numbered) → number_front k bs ≡ o → option_map (more_of b) o ≡ Some ((n, true), rest) → Takes (b ∷ bs) (number_within (suc k) n) rest
    more None f g = absurd (cc)
    more (Some ((m, s), r)) f g = given m s r f (Some_inj _ _ g)

front_takes : (k : ℕ) (bytes : List ℕ) (n : ℕ) (rest : List ℕ) → IsBytes bytes → number_front k bytes ≡ Some ((n, true), rest) → Takes bytes (number_within k n) rest
unfolding number_front number_within
front_takes zero [] n rest fits e = absurd (cc)
front_takes (suc k) [] n rest fits e = absurd (cc)
front_takes zero (b ∷ bs) n rest fits e =
    let p : lone b bs ≡ ((n, true), rest) = Some_inj _ _ e in
    let same : b ≡ n = ap (λ (q : Numbered). q.0.0) p in
    let after : bs ≡ rest = ap (λ (q : Numbered). q.1) p in
    record { parts = ap₂ (λ (x : ℕ) (l : List ℕ). x ∷ l) same after; rest_fits = subst IsBytes after (IsBytes-rest b bs fits) }
front_takes (suc k) (b ∷ bs) n rest fits e =
    front_at k b bs n rest (nat_lt b 128) refl (fits 0) (IsBytes-rest b bs fits) (λ m r f. front_takes k bs m r (IsBytes-rest b bs fits) f) e

number_takes : (total most : ℕ) (bytes : List ℕ) (n : ℕ) (rest : List ℕ) → IsBytes bytes → number_at total most bytes ≡ Ok (n, rest) → Takes bytes (number n) rest × (n ≤ most)
number_takes total most bytes n rest fits e = at (number_front 9 bytes) refl e
  where
    at : (o : Option Numbered) → number_front 9 bytes ≡ o → number_if total most bytes o ≡ Ok (n, rest) → Takes bytes (number n) rest × (n ≤ most)
    at None f g = absurd (cc)
    at (Some ((m, s), r)) f g =
        let t = passed (s && nat_le m most) (NotCanonical (place total bytes)) (m, r) (n, rest) g in
        let short : s ≡ true = left s (nat_le m most) t.0 in
        let same : m ≡ n = ap (λ (p : ℕ × List ℕ). p.0) t.1 in
        let after : r ≡ rest = ap (λ (p : ℕ × List ℕ). p.1) t.1 in
        let below : m ≤ most = leb-true m most (right s (nat_le m most) t.0) in
        (front_takes 9 bytes n rest fits (f ∙ ap₂ (λ (x : ℕ × Bool) (l : List ℕ). Some (x, l)) (ap₂ (λ (x : ℕ) (t : Bool). (x, t)) same short) after), omega (arith, same, below))

length-take_within : {A : Type 0} (n : ℕ) (xs : List A) → n ≤ length xs → length (take n xs) ≡ n
length-take_within zero xs h = refl
length-take_within (suc n) [] h = absurd (omega arith)
length-take_within (suc n) (x ∷ xs) h = ap (λ k. suc k) (length-take_within n xs (omega arith))

-- ---- texts and names

abbrev taken : ℕ × List ℕ → Front (List ℕ)
taken n = Ok (take n.0 n.1, drop n.0 n.1)

text_takes : (total : ℕ) (bytes s rest : List ℕ) → IsBytes bytes → text_at total bytes ≡ Ok (s, rest) → Takes bytes (counted s) rest × (is_utf8 s ≡ true)
unfolding text_at
text_takes total bytes s rest fits e =
    let b = bind_ok (number_at total largest_number bytes) (text_if total) (s, rest) e in
    let n = b.0 in
    let t = number_takes total largest_number bytes n.0 n.1 fits b.1 in
    at n t.0 (ltb (length n.1) n.0) refl b.2
  where
    at : (n : ℕ × List ℕ) → Takes bytes (number n.0) n.1 → (short : Bool) → ltb (length n.1) n.0 ≡ short
        → cond short (Err Short) (cond (is_utf8 (take n.0 n.1)) (taken n) (Err (NotCanonical (place total n.1)))) ≡ Ok (s, rest) → Takes bytes (counted s) rest × (is_utf8 s ≡ true)
    at n t true is g = absurd (cc)
    at n t false is g =
        let p = passed (is_utf8 (take n.0 n.1)) (NotCanonical (place total n.1)) (take n.0 n.1, drop n.0 n.1) (s, rest) g in
        let long : n.0 ≤ length n.1 = ltb-false (length n.1) n.0 is in
        let len : length (take n.0 n.1) ≡ n.0 = length-take_within n.0 n.1 long in
        let second : Takes n.1 (take n.0 n.1) (drop n.0 n.1) = record { parts = sym (take-append-drop n.0 n.1); rest_fits = IsBytes-drop n.0 n.1 t.rest_fits } in
        let whole : Takes bytes (counted (take n.0 n.1)) (drop n.0 n.1) =
        subst (λ (k : ℕ). Takes bytes (number k ++ take n.0 n.1) (drop n.0 n.1)) (sym len) (Takes-then bytes (number n.0) n.1 (take n.0 n.1) (drop n.0 n.1) t second) in
        subst (λ (q : List ℕ × List ℕ). Takes bytes (counted q.0) q.1 × (is_utf8 q.0 ≡ true)) p.1 (whole, p.0)

name_takes : (total : ℕ) (before : Option (List ℕ)) (bytes s rest : List ℕ) → IsBytes bytes → name_at total before bytes ≡ Ok (s, rest) → Takes bytes (counted s) rest × (is_above before s ≡ true)
unfolding name_at
name_takes total before bytes s rest fits e =
    let b = bind_ok (text_at total bytes) (name_if total before) (s, rest) e in
    let t = text_takes total bytes b.0.0 b.0.1 fits b.1 in
    let p = passed (is_above before b.0.0) (NotCanonical (total - (length b.0.0 + length b.0.1))) b.0 (s, rest) b.2 in
    subst (λ (q : List ℕ × List ℕ). Takes bytes (counted q.0) q.1 × (is_above before q.0 ≡ true)) p.1 (t.0, p.0)

-- ---- trees

-- the bytes are the spelling of a tree in form that is no deeper, and what follows
pub record Took (levels : ℕ) (bytes : List ℕ) (v : Json) (rest : List ℕ) : Type 0 where
  pub takes : Takes bytes (spelling v) rest
  pub form : has_form v ≡ true
  pub nests : depth v ≤ levels

abbrev Finds : ℕ → Reader → Type 0
Finds levels inside = (bytes : List ℕ) (v : Json) (rest : List ℕ) → IsBytes bytes → inside bytes ≡ Ok (v, rest) → Took levels bytes v rest

record TookItems (levels : ℕ) (bytes : List ℕ) (n : ℕ) (js : List Json) (rest : List ℕ) : Type 0 where
  takes : Takes bytes (spellings js) rest
  count : length js ≡ n
  form : all_true (map has_form js) ≡ true
  nests : largest (map depth js) ≤ levels

items_take : (levels : ℕ) (inside : Reader) (finds : Finds levels inside) (n : ℕ) (bytes : List ℕ) (js : List Json) (rest : List ℕ) → IsBytes bytes → items_at inside n bytes ≡ Ok (js, rest) → TookItems levels bytes n js rest
unfolding items_at
items_take levels inside finds zero bytes js rest fits e =
    subst (λ (p : List Json × List ℕ). TookItems levels bytes 0 p.0 p.1) (ok_is ([], bytes) (js, rest) e)
    (record { takes = record { parts = refl; rest_fits = fits }; count = refl; form = refl; nests = omega arith })
items_take levels inside finds (suc n) bytes js rest fits e =
    let a = bind_ok (inside bytes) (λ first. items_at inside n first.1 >>= λ others. Ok (first.0 ∷ others.0, others.1)) (js, rest) e in
    let b = bind_ok (items_at inside n a.0.1) (λ others. Ok (a.0.0 ∷ others.0, others.1)) (js, rest) a.2 in
    let first = finds bytes a.0.0 a.0.1 fits a.1 in
    let others = items_take levels inside finds n a.0.1 b.0.0 b.0.1 first.takes.rest_fits b.1 in
    let made : List Json × List ℕ = (a.0.0 ∷ b.0.0, b.0.1) in
    subst (λ (p : List Json × List ℕ). TookItems levels bytes (suc n) p.0 p.1) (ok_is made (js, rest) b.2)
    (record {
      takes = Takes-then bytes (spelling a.0.0) a.0.1 (spellings b.0.0) b.0.1 first.takes others.takes;
      count = ap (λ k. suc k) others.count;
      form = both (has_form a.0.0) (all_true (map has_form b.0.0)) first.form others.form;
      nests = omega (arith, first.nests, others.nests);
    })

abbrev member_of : List ℕ → Json → Member
member_of name value = record { name = name; value = value }

abbrev named_form : Member → List ℕ × Bool
named_form m = (m.name, has_form m.value)

-- the members are ordered behind a name
abbrev Follows : Option (List ℕ) → List Member → Type 0
Follows before [] = Unit {0}
Follows before (m ∷ ms) = is_above before m.name ≡ true

record TookMembers (levels : ℕ) (bytes : List ℕ) (n : ℕ) (before : Option (List ℕ)) (ms : List Member) (rest : List ℕ) : Type 0 where
  takes : Takes bytes (member_spellings ms) rest
  count : length ms ≡ n
  follows : Follows before ms
  order : are_ordered (map named_form ms) ≡ true
  form : all_true (map (λ m. has_form m.value) ms) ≡ true
  nests : largest (map (λ m. depth m.value) ms) ≤ levels

below_next : (name : List ℕ) (ms : List Member) → Follows (Some name) ms → is_below_first name (map named_form ms) ≡ true
below_next name [] h = refl
below_next name (m ∷ ms) h = h

members_take : (levels : ℕ) (inside : Reader) (finds : Finds levels inside) (total : ℕ) (before : Option (List ℕ)) (n : ℕ) (bytes : List ℕ) (ms : List Member) (rest : List ℕ)
    → IsBytes bytes → members_at inside total before n bytes ≡ Ok (ms, rest) → TookMembers levels bytes n before ms rest
unfolding members_at
members_take levels inside finds total before zero bytes ms rest fits e =
    subst (λ (p : List Member × List ℕ). TookMembers levels bytes 0 before p.0 p.1) (ok_is ([], bytes) (ms, rest) e)
    (record { takes = record { parts = refl; rest_fits = fits }; count = refl; follows = tt; order = refl; form = refl; nests = omega arith })
members_take levels inside finds total before (suc n) bytes ms rest fits e =
    let a = bind_ok (name_at total before bytes) (λ name. inside name.1 >>= λ value. members_at inside total (Some name.0) n value.1 >>= λ others. Ok (member_of name.0 value.0 ∷ others.0, others.1)) (ms, rest) e in
    let b = bind_ok (inside a.0.1) (λ value. members_at inside total (Some a.0.0) n value.1 >>= λ others. Ok (member_of a.0.0 value.0 ∷ others.0, others.1)) (ms, rest) a.2 in
    let d = bind_ok (members_at inside total (Some a.0.0) n b.0.1) (λ others. Ok (member_of a.0.0 b.0.0 ∷ others.0, others.1)) (ms, rest) b.2 in
    let name = name_takes total before bytes a.0.0 a.0.1 fits a.1 in
    let value = finds a.0.1 b.0.0 b.0.1 name.0.rest_fits b.1 in
    let others = members_take levels inside finds total (Some a.0.0) n b.0.1 d.0.0 d.0.1 value.takes.rest_fits d.1 in
    let made : List Member × List ℕ = (member_of a.0.0 b.0.0 ∷ d.0.0, d.0.1) in
    let first = Takes-then bytes (counted a.0.0) a.0.1 (spelling b.0.0) b.0.1 name.0 value.takes in
    subst (λ (p : List Member × List ℕ). TookMembers levels bytes (suc n) before p.0 p.1) (ok_is made (ms, rest) d.2)
    (record {
      takes = Takes-then bytes (counted a.0.0 ++ spelling b.0.0) b.0.1 (member_spellings d.0.0) d.0.1 first others.takes;
      count = ap (λ k. suc k) others.count;
      follows = name.1;
      order = both (is_below_first a.0.0 (map named_form d.0.0)) (are_ordered (map named_form d.0.0)) (below_next a.0.0 d.0.0 others.follows) others.order;
      form = both (has_form b.0.0) (all_true (map (λ m. has_form m.value) d.0.0)) value.form others.form;
      nests = omega (arith, value.nests, others.nests);
    })

pub int_form : (z : ℤ) → has_form (Int z) ≡ is_in_range z
int_form z = search (rules, the_lemmas)

int_depth : (z : ℤ) → depth (Int z) ≡ 0
int_depth z = search (rules, the_lemmas)

text_form : (s : List ℕ) → has_form (Text s) ≡ true
text_form s = search (rules, the_lemmas)

text_depth : (s : List ℕ) → depth (Text s) ≡ 0
text_depth s = search (rules, the_lemmas)

scalar_took : (levels : ℕ) (bytes : List ℕ) (v : Json) (rest : List ℕ) → Takes bytes (spelling v) rest → has_form v ≡ true → depth v ≡ 0 → Took levels bytes v rest
scalar_took levels bytes v rest t f d = record { takes = t; form = f; nests = omega (arith, d) }

abbrev found_tree : Json → List ℕ → Front Json
found_tree v rest = Ok (v, rest)

-- a tree of one byte
lone_took : (levels tag : ℕ) (bs : List ℕ) (w v : Json) (rest : List ℕ) → IsBytes bs → spelling w ≡ tag ∷ [] → has_form w ≡ true → depth w ≡ 0 → found_tree w bs ≡ found_tree v rest → Took levels (tag ∷ bs) v rest
lone_took levels tag bs w v rest fits s f d e =
    subst (λ (p : Json × List ℕ). Took levels (tag ∷ bs) p.0 p.1) (ok_is (w, bs) (v, rest) e)
    (scalar_took levels (tag ∷ bs) w bs (record { parts = ap (λ l. l ++ bs) (sym s); rest_fits = fits }) f d)

abbrev InsideFinds : ℕ → Option Reader → Type 0
InsideFinds levels None = Unit {0}
InsideFinds zero (Some r) = ⊥
InsideFinds (suc levels) (Some r) = Finds levels r

list_took : (total levels : ℕ) (inside : Option Reader) (at : ℕ) (bs : List ℕ) (v : Json) (rest : List ℕ) → InsideFinds levels inside → IsBytes bs
    → nested inside at (λ r. list_at r total bs >>= λ x. Ok (ListOf x.0, x.1)) ≡ Ok (v, rest) → Took levels (6 ∷ bs) v rest
unfolding list_at
list_took total levels None at bs v rest h fits e = absurd (cc)
list_took total zero (Some r) at bs v rest h fits e = absurd h
list_took total (suc levels) (Some r) at bs v rest h fits e =
    let a = bind_ok (number_at total largest_number bs >>= λ n. items_at r n.0 n.1) (λ x. Ok (ListOf x.0, x.1)) (v, rest) e in
    let b = bind_ok (number_at total largest_number bs) (λ n. items_at r n.0 n.1) a.0 a.1 in
    let n = number_takes total largest_number bs b.0.0 b.0.1 fits b.1 in
    let t = items_take levels r h b.0.0 b.0.1 a.0.0 a.0.1 n.0.rest_fits b.2 in
    let row = Takes-then bs (number b.0.0) b.0.1 (spellings a.0.0) a.0.1 n.0 t.takes in
    let whole : Takes (6 ∷ bs) (spelling (ListOf a.0.0)) a.0.1 =
    subst (λ (l : List ℕ). Takes (6 ∷ bs) l a.0.1) (sym (spelling_list a.0.0 ∙ ap (λ k. 6 ∷ (number k ++ spellings a.0.0)) t.count)) (Takes-tag 6 bs _ a.0.1 row) in
    subst (λ (p : Json × List ℕ). Took (suc levels) (6 ∷ bs) p.0 p.1) (ok_is (ListOf a.0.0, a.0.1) (v, rest) a.2)
    (record { takes = whole; form = folded-List Bool form_step a.0.0 ∙ t.form; nests = omega (arith, folded-List ℕ depth_step a.0.0, t.nests) })

object_took : (total levels : ℕ) (inside : Option Reader) (at : ℕ) (bs : List ℕ) (v : Json) (rest : List ℕ) → InsideFinds levels inside → IsBytes bs
    → nested inside at (λ r. object_at r total bs >>= λ x. Ok (Object x.0, x.1)) ≡ Ok (v, rest) → Took levels (7 ∷ bs) v rest
unfolding object_at
object_took total levels None at bs v rest h fits e = absurd (cc)
object_took total zero (Some r) at bs v rest h fits e = absurd h
object_took total (suc levels) (Some r) at bs v rest h fits e =
    let a = bind_ok (number_at total largest_number bs >>= λ n. members_at r total None n.0 n.1) (λ x. Ok (Object x.0, x.1)) (v, rest) e in
    let b = bind_ok (number_at total largest_number bs) (λ n. members_at r total None n.0 n.1) a.0 a.1 in
    let n = number_takes total largest_number bs b.0.0 b.0.1 fits b.1 in
    let t = members_take levels r h total None b.0.0 b.0.1 a.0.0 a.0.1 n.0.rest_fits b.2 in
    let row = Takes-then bs (number b.0.0) b.0.1 (member_spellings a.0.0) a.0.1 n.0 t.takes in
    let whole : Takes (7 ∷ bs) (spelling (Object a.0.0)) a.0.1 =
    subst (λ (l : List ℕ). Takes (7 ∷ bs) l a.0.1) (sym (spelling_object a.0.0 ∙ ap (λ k. 7 ∷ (number k ++ member_spellings a.0.0)) t.count)) (Takes-tag 7 bs _ a.0.1 row) in
    subst (λ (p : Json × List ℕ). Took (suc levels) (7 ∷ bs) p.0 p.1) (ok_is (Object a.0.0, a.0.1) (v, rest) a.2)
    (record {
      takes = whole;
      form = folded-Object Bool form_step a.0.0 ∙ both _ _ t.order (ap all_true (values_of-map Bool form_step a.0.0) ∙ t.form);
      nests = omega (arith, depth_object a.0.0, t.nests);
    })

no_tag : {A : Type 0} (b : Bool) (f : WireFault) (x : Result A WireFault) (y : A) → b ≡ true → cond b (Err f) x ≡ Ok y → ⊥
no_tag true f x y h e = absurd (cc)
no_tag false f x y h e = absurd (cc)

tag_takes : (total levels : ℕ) (inside : Option Reader) → InsideFinds levels inside → (at tag : ℕ) (bs : List ℕ) (v : Json) (rest : List ℕ) → IsBytes bs → tagged inside total at tag bs ≡ Ok (v, rest) → Took levels (tag ∷ bs) v rest
tag_takes total levels inside h at zero bs v rest fits e = lone_took levels 0 bs Null v rest fits spelling_null (search (rules, the_lemmas)) (search (rules, the_lemmas)) e
tag_takes total levels inside h at (suc zero) bs v rest fits e = lone_took levels 1 bs (Flag false) v rest fits spelling_false (search (rules, the_lemmas)) (search (rules, the_lemmas)) e
tag_takes total levels inside h at (suc (suc zero)) bs v rest fits e = lone_took levels 2 bs (Flag true) v rest fits spelling_true (search (rules, the_lemmas)) (search (rules, the_lemmas)) e
tag_takes total levels inside h at (suc (suc (suc zero))) bs v rest fits e =
    let b = bind_ok (number_at total largest_number bs) (λ n. Ok (Int (pos n.0), n.1)) (v, rest) e in
    let t = number_takes total largest_number bs b.0.0 b.0.1 fits b.1 in
    subst (λ (p : Json × List ℕ). Took levels (3 ∷ bs) p.0 p.1) (ok_is (Int (pos b.0.0), b.0.1) (v, rest) b.2)
    (scalar_took levels (3 ∷ bs) (Int (pos b.0.0)) b.0.1 (subst (λ (l : List ℕ). Takes (3 ∷ bs) l b.0.1) (sym (spelling_int (pos b.0.0))) (Takes-tag 3 bs _ b.0.1 t.0))
    (int_form (pos b.0.0) ∙ lt-ltb b.0.0 (2 ^ 64) (omega (arith, t.1))) (int_depth (pos b.0.0)))
tag_takes total levels inside h at (suc (suc (suc (suc zero)))) bs v rest fits e =
    let b = bind_ok (number_at total (2 ^ 63 - 1) bs) (λ n. Ok (Int (negsuc n.0), n.1)) (v, rest) e in
    let t = number_takes total (2 ^ 63 - 1) bs b.0.0 b.0.1 fits b.1 in
    subst (λ (p : Json × List ℕ). Took levels (4 ∷ bs) p.0 p.1) (ok_is (Int (negsuc b.0.0), b.0.1) (v, rest) b.2)
    (scalar_took levels (4 ∷ bs) (Int (negsuc b.0.0)) b.0.1 (subst (λ (l : List ℕ). Takes (4 ∷ bs) l b.0.1) (sym (spelling_int (negsuc b.0.0))) (Takes-tag 4 bs _ b.0.1 t.0))
    (int_form (negsuc b.0.0) ∙ lt-ltb b.0.0 (2 ^ 63) (omega (arith, t.1))) (int_depth (negsuc b.0.0)))
tag_takes total levels inside h at (suc (suc (suc (suc (suc zero))))) bs v rest fits e =
    let b = bind_ok (text_at total bs) (λ s. Ok (Text s.0, s.1)) (v, rest) e in
    let t = text_takes total bs b.0.0 b.0.1 fits b.1 in
    subst (λ (p : Json × List ℕ). Took levels (5 ∷ bs) p.0 p.1) (ok_is (Text b.0.0, b.0.1) (v, rest) b.2)
    (scalar_took levels (5 ∷ bs) (Text b.0.0) b.0.1 (subst (λ (l : List ℕ). Takes (5 ∷ bs) l b.0.1) (sym (spelling_text b.0.0)) (Takes-tag 5 bs _ b.0.1 t.0)) (text_form b.0.0) (text_depth b.0.0))
tag_takes total levels inside h at (suc (suc (suc (suc (suc (suc zero)))))) bs v rest fits e = list_took total levels inside at bs v rest h fits e
tag_takes total levels inside h at (suc (suc (suc (suc (suc (suc (suc zero))))))) bs v rest fits e = object_took total levels inside at bs v rest h fits e
tag_takes total levels inside h at (suc (suc (suc (suc (suc (suc (suc (suc zero)))))))) bs v rest fits e = lone_took levels 8 bs Opaque v rest fits spelling_opaque (search (rules, the_lemmas)) (search (rules, the_lemmas)) e
tag_takes total levels inside h at (suc (suc (suc (suc (suc (suc (suc (suc (suc tag))))))))) bs v rest fits e =
    absurd (no_tag (nat_lt 8 (suc (suc (suc (suc (suc (suc (suc (suc (suc tag)))))))))) _ _ (v, rest) (lt-ltb 8 _ (omega arith)) e)

level_takes : (total levels : ℕ) (inside : Option Reader) → InsideFinds levels inside → Finds levels (level_at inside total)
level_takes total levels inside h [] v rest fits e = absurd (cc)
level_takes total levels inside h (tag ∷ bs) v rest fits e = tag_takes total levels inside h (place total (tag ∷ bs)) tag bs v rest (IsBytes-rest tag bs fits) e

pub tree_takes : (total levels : ℕ) → Finds levels (tree_at total levels)
unfolding tree_at
tree_takes total zero = level_takes total zero None tt
tree_takes total (suc levels) = level_takes total (suc levels) (Some (tree_at total levels)) (tree_takes total levels)

record IsFirst (bytes : List ℕ) (v : Json) (n : ℕ) : Type 0 where
  spelt : take n bytes ≡ spelling v
  well : IsWellFormed v

first_takes : (bytes : List ℕ) (v : Json) (n : ℕ) → IsBytes bytes → first_tree bytes ≡ Ok (v, n) → IsFirst bytes v n
unfolding first_tree
first_takes bytes v n fits e =
    let a = bind_ok (tree_at (length bytes) max_depth bytes) (counted_bytes (length bytes)) (v, n) e in
    let w = a.0.0 in
    let rest = a.0.1 in
    let t = tree_takes (length bytes) max_depth bytes w rest fits a.1 in
    let len : length (spelling w) ≡ length bytes - length rest = omega (arith, ap length t.takes.parts, length-append (spelling w) rest) in
    let made : Json × ℕ = (w, length bytes - length rest) in
    subst (λ (p : Json × ℕ). IsFirst bytes p.0 p.1) (ok_is made (v, n) a.2)
    (record { spelt = ap (take (length bytes - length rest)) t.takes.parts ∙ take_at (spelling w) rest (length bytes - length rest) len; well = record { form = t.form; nests = t.nests } })

pub is_spelt : (bytes : List ℕ) (r : Result (Json × ℕ) WireFault) → IsBytes bytes → Gives (λ x. x) told r (first_tree bytes) → IfOk r (λ x. take x.1 bytes ≡ spelling x.0)
is_spelt bytes (Ok x) fits given = (first_takes bytes x.0 x.1 fits given).spelt
is_spelt bytes (Err e) fits given = tt

pub is_well_formed : (bytes : List ℕ) (r : Result (Json × ℕ) WireFault) → IsBytes bytes → Gives (λ x. x) told r (first_tree bytes) → IfOk r (λ x. IsWellFormed x.0)
is_well_formed bytes (Ok x) fits given = (first_takes bytes x.0 x.1 fits given).well
is_well_formed bytes (Err e) fits given = tt
