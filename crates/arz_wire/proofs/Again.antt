-- What is spelled so is read again, whatever follows.
use Rattle.std.proofs.Common.{◌≡◌, ℕ, zero, suc, ◌+◌, ◌*◌, ◌-◌, ◌/◌, ◌%◌, ◌^◌, ◌<◌, ◌≤◌, ◌&&◌, ltb, ℤ, pos, negsuc, List, [], ◌∷◌, ◌++◌, length, map, Bool, true, false, cond, Option, Some, None, Ok, refl, sym, ap, ap₂, ◌∙◌, append_assoc, arith, lt-ltb, rules}
use Rattle.std.specs.Prelude.{nat_lt}
use Rattle.std.specs.Str.{is_utf8}
use Rattle.std.proofs.lemmas.Bool.{ltb-false, ltb-true, le-ltb, le-leb}
use Rattle.std.proofs.lemmas.List.{take_at, drop_at, length-append}
use Rattle.arz_json.specs.Tree.{has_form, depth, all_true, largest, are_ordered, is_below_first, form_step, depth_step, max_depth, IsWellFormed}
use Rattle.arz_json.specs.declared.tree.Json.{Json, the_lemmas}
use Rattle.arz_json.specs.declared.tree.Json.TheVariants.{Null, Flag, Int, Text, List as ListOf, Object, Opaque}
use Rattle.arz_json.specs.declared.tree.Member.{Member}
use Rattle.arz_json.proofs.Induction.{induction, Each, EachValue}
use Rattle.arz_json.proofs.Layers.{folded-List, folded-Object, values_of-map, members_form}
use Rattle.arz_json.proofs.Places.{depth_object}
use Rattle.arz_wire.specs.Spelling.{number_within, number, counted, spelling, spellings, member_spellings}
use Rattle.arz_wire.specs.Texts.{has_texts, texts_step, names_are_texts}
use Rattle.arz_json.specs.Answer.{◌>>=◌}
use Rattle.arz_wire.specs.Reading.{Front, number_front, number_if, number_at, largest_number, text_if, text_at, is_above, name_if, name_at, items_at, members_at, scalar_at, tree_at, counted_bytes, first_tree}
use Rattle.arz_wire.proofs.Numbers.{reach}
use Rattle.arz_wire.proofs.Layers.{spelling_null, spelling_false, spelling_true, spelling_int, spelling_text, spelling_list, spelling_object, spelling_opaque, texts_list}
use Rattle.arz_wire.proofs.Once.{spelled}
use Rattle.arz_wire.proofs.Rows.{tree_scalar, tree_list, tree_object, list_counted, object_counted}
use Rattle.arz_wire.proofs.Found.{int_form}

left : (a b : Bool) → (a && b) ≡ true → a ≡ true
left true b p = refl
left false b p = p

right : (a b : Bool) → (a && b) ≡ true → b ≡ true
right true b p = p
right false b p = absurd (cc)

-- ---- numbers

abbrev Numbered : Type 0
Numbered = (ℕ × Bool) × List ℕ

front_at : (k n : ℕ) (rest : List ℕ) (low : Bool) → nat_lt n 128 ≡ low → number_front k (number_within k (n / 128) ++ rest) ≡ Some ((n / 128, true), rest)
    → number_front (suc k) (cond low (n ∷ []) ((n % 128 + 128) ∷ number_within k (n / 128)) ++ rest) ≡ Some ((n, true), rest)
unfolding number_front
front_at k n rest true is ih = rw is refl
front_at k n rest false is ih =
    let high : 128 ≤ n = ltb-false n 128 is in
    let some : nat_lt 0 (n / 128) ≡ true = lt-ltb 0 (n / 128) (omega (arith, high)) in
    let value : (n % 128 + 128) % 128 + 128 * (n / 128) ≡ n = omega arith in
    rw (le-ltb (n % 128 + 128) 128 (omega arith), ih) (ap₂ (λ (v : ℕ) (b : Bool). Some ((v, b), rest)) value some)

front_again : (k n : ℕ) (rest : List ℕ) → n < reach k → number_front k (number_within k n ++ rest) ≡ Some ((n, true), rest)
unfolding number_front number_within
front_again zero n rest h = rw (lt-ltb n 128 (omega arith)) refl
front_again (suc k) n rest h = front_at k n rest (nat_lt n 128) refl (front_again k (n / 128) rest (omega arith))

number_again : (total most n : ℕ) (rest : List ℕ) → n ≤ most → n < 2 ^ 64 → number_at total most (number n ++ rest) ≡ Ok (n, rest)
number_again total most n rest h less =
    ap (number_if total most (number n ++ rest)) (front_again 9 n rest (omega arith)) ∙ rw (le-leb n most h) refl

-- ---- texts and names

text_again : (total : ℕ) (s rest : List ℕ) → is_utf8 s ≡ true → length s < 2 ^ 64 → text_at total (counted s ++ rest) ≡ Ok (s, rest)
unfolding text_at
text_again total s rest utf8 less =
    let long : ltb (length (s ++ rest)) (length s) ≡ false = le-ltb _ _ (omega (arith, length-append s rest)) in
    ap (λ l. number_at total largest_number l >>= text_if total) (append_assoc (number (length s)) s rest)
    ∙ ap (λ r. r >>= text_if total) (number_again total largest_number (length s) (s ++ rest) (omega arith) less)
    ∙ rw (long, take_at s rest (length s) refl, drop_at s rest (length s) refl, utf8) refl

name_again : (total : ℕ) (before : Option (List ℕ)) (s rest : List ℕ) → is_utf8 s ≡ true → is_above before s ≡ true → length s < 2 ^ 64 → name_at total before (counted s ++ rest) ≡ Ok (s, rest)
unfolding name_at
name_again total before s rest utf8 above less = ap (λ r. r >>= name_if total before) (text_again total s rest utf8 less) ∙ rw above refl

-- ---- trees

abbrev IsAgain : Json → Type 0
IsAgain v = (total levels : ℕ) (rest : List ℕ) → has_form v ≡ true → has_texts v ≡ true → depth v ≤ levels → length (spelling v ++ rest) < 2 ^ 64 → tree_at total levels (spelling v ++ rest) ≡ Ok (v, rest)

-- a tree behind a tag that opens no list and no object
scalar_again : (total levels tag : ℕ) (body rest : List ℕ) (v : Json) → spelling v ≡ tag ∷ body → tag ≤ 8 → (tag ≡ 6 → ⊥) → (tag ≡ 7 → ⊥) → scalar_at total tag (body ++ rest) ≡ Ok (v, rest)
    → tree_at total levels (spelling v ++ rest) ≡ Ok (v, rest)
scalar_again total levels tag body rest v s h p q e = ap (λ l. tree_at total levels (l ++ rest)) s ∙ tree_scalar total levels tag (body ++ rest) h p q ∙ e

abbrev found_tree : Json → List ℕ → Front Json
found_tree v rest = Ok (v, rest)

flag_again : (b : Bool) → IsAgain (Flag b)
flag_again true total levels rest f t d l = scalar_again total levels 2 [] rest (Flag true) spelling_true (omega arith) (λ e. omega (arith, e)) (λ e. omega (arith, e)) refl
flag_again false total levels rest f t d l = scalar_again total levels 1 [] rest (Flag false) spelling_false (omega arith) (λ e. omega (arith, e)) (λ e. omega (arith, e)) refl

int_again : (z : ℤ) → IsAgain (Int z)
int_again (pos n) total levels rest f t d l =
    let less : n < 2 ^ 64 = ltb-true n (2 ^ 64) (sym (int_form (pos n)) ∙ f) in
    scalar_again total levels 3 (number n) rest (Int (pos n)) (spelling_int (pos n)) (omega arith) (λ e. omega (arith, e)) (λ e. omega (arith, e))
    (ap (λ r. r >>= λ n. found_tree (Int (pos n.0)) n.1) (number_again total largest_number n rest (omega (arith, less)) less))
int_again (negsuc n) total levels rest f t d l =
    let less : n < 2 ^ 63 = ltb-true n (2 ^ 63) (sym (int_form (negsuc n)) ∙ f) in
    scalar_again total levels 4 (number n) rest (Int (negsuc n)) (spelling_int (negsuc n)) (omega arith) (λ e. omega (arith, e)) (λ e. omega (arith, e))
    (ap (λ r. r >>= λ n. found_tree (Int (negsuc n.0)) n.1) (number_again total (2 ^ 63 - 1) n rest (omega (arith, less)) (omega (arith, less))))

text_texts : (s : List ℕ) → has_texts (Text s) ≡ is_utf8 s
text_texts s = search (rules, the_lemmas)

text_tree_again : (s : List ℕ) → IsAgain (Text s)
text_tree_again s total levels rest f t d l =
    let len = ap length (ap (λ k. k ++ rest) (spelling_text s)) in
    let less : length s < 2 ^ 64 = omega (arith, l, len, length-append (counted s) rest, length-append (number (length s)) s) in
    scalar_again total levels 5 (counted s) rest (Text s) (spelling_text s) (omega arith) (λ e. omega (arith, e)) (λ e. omega (arith, e))
    (ap (λ r. r >>= λ s. found_tree (Text s.0) s.1) (text_again total s rest (sym (text_texts s) ∙ t) less))

spelling_some : (v : Json) → 1 ≤ length (spelling v)
spelling_some v = let h = ap length (spelled v) in omega (arith, h)

items_length : (js : List Json) → length js ≤ length (spellings js)
items_length [] = omega arith
items_length (j ∷ js) = omega (arith, items_length js, spelling_some j, length-append (spelling j) (spellings js))

items_again : (total levels : ℕ) (js : List Json) (rest : List ℕ) → Each IsAgain js → all_true (map has_form js) ≡ true → all_true (map has_texts js) ≡ true → largest (map depth js) ≤ levels
    → length (spellings js ++ rest) < 2 ^ 64 → items_at (tree_at total levels) (length js) (spellings js ++ rest) ≡ Ok (js, rest)
unfolding items_at
items_again total levels [] rest h f t d l = refl
items_again total levels (j ∷ js) rest h f t d l =
    let more = spellings js ++ rest in
    let regrouped : spellings (j ∷ js) ++ rest ≡ spelling j ++ more = append_assoc (spelling j) (spellings js) rest in
    let len = ap length regrouped in
    let first : tree_at total levels (spelling j ++ more) ≡ Ok (j, more) =
    h.0 total levels more (left (has_form j) (all_true (map has_form js)) f) (left (has_texts j) (all_true (map has_texts js)) t) (omega (arith, d)) (omega (arith, l, len)) in
    let others : items_at (tree_at total levels) (length js) more ≡ Ok (js, rest) =
    items_again total levels js rest h.1 (right (has_form j) (all_true (map has_form js)) f) (right (has_texts j) (all_true (map has_texts js)) t) (omega (arith, d)) (omega (arith, l, len, length-append (spelling j) more)) in
    ap (items_at (tree_at total levels) (suc (length js))) regrouped ∙ rw (first, others) refl

list_again : (js : List Json) → Each IsAgain js → IsAgain (ListOf js)
list_again js h total zero rest f t d l = absurd (omega (arith, folded-List ℕ depth_step js, d))
list_again js h total (suc levels) rest f t d l =
    let whole : spelling (ListOf js) ++ rest ≡ 6 ∷ (number (length js) ++ (spellings js ++ rest)) =
    ap (λ k. k ++ rest) (spelling_list js) ∙ ap (λ k. 6 ∷ k) (append_assoc (number (length js)) (spellings js) rest) in
    let len = ap length whole in
    let less : length (spellings js ++ rest) < 2 ^ 64 = omega (arith, l, len, length-append (number (length js)) (spellings js ++ rest)) in
    let count : length js < 2 ^ 64 = omega (arith, less, items_length js, length-append (spellings js) rest) in
    let inside = tree_at total levels in
    ap (tree_at total (suc levels)) whole ∙ tree_list total levels (number (length js) ++ (spellings js ++ rest))
    ∙ ap (λ r. r >>= λ x. found_tree (ListOf x.0) x.1)
    (list_counted inside total (number (length js) ++ (spellings js ++ rest)) (length js) (spellings js ++ rest) (number_again total largest_number (length js) (spellings js ++ rest) (omega (arith, count)) count)
    ∙ items_again total levels js rest h (sym (folded-List Bool form_step js) ∙ f) (sym (texts_list js) ∙ t) (omega (arith, folded-List ℕ depth_step js, d)) less)

-- ---- members

abbrev Follows : Option (List ℕ) → List Member → Type 0
Follows before [] = Unit {0}
Follows before (m ∷ ms) = is_above before m.name ≡ true

abbrev named_form : Member → List ℕ × Bool
named_form m = (m.name, has_form m.value)

abbrev named_texts : Member → List ℕ × Bool
named_texts m = (m.name, has_texts m.value)

next_follows : (name : List ℕ) (ms : List Member) → is_below_first name (map named_form ms) ≡ true → Follows (Some name) ms
next_follows name [] h = tt
next_follows name (m ∷ ms) h = h

members_length : (ms : List Member) → length ms ≤ length (member_spellings ms)
members_length [] = omega arith
members_length (m ∷ ms) = omega (arith, members_length ms, spelling_some m.value, length-append (counted m.name ++ spelling m.value) (member_spellings ms), length-append (counted m.name) (spelling m.value))

members_again : (total levels : ℕ) (before : Option (List ℕ)) (ms : List Member) (rest : List ℕ) → EachValue IsAgain ms → Follows before ms → are_ordered (map named_form ms) ≡ true
    → all_true (map (λ m. has_form m.value) ms) ≡ true → names_are_texts (map named_texts ms) ≡ true → all_true (map (λ m. has_texts m.value) ms) ≡ true → largest (map (λ m. depth m.value) ms) ≤ levels
    → length (member_spellings ms ++ rest) < 2 ^ 64 → members_at (tree_at total levels) total before (length ms) (member_spellings ms ++ rest) ≡ Ok (ms, rest)
unfolding members_at
members_again total levels before [] rest h follows order f n t d l = refl
members_again total levels before (m ∷ ms) rest h follows order f n t d l =
    let more = member_spellings ms ++ rest in
    let regrouped : member_spellings (m ∷ ms) ++ rest ≡ counted m.name ++ (spelling m.value ++ more) =
    append_assoc (counted m.name ++ spelling m.value) (member_spellings ms) rest ∙ append_assoc (counted m.name) (spelling m.value) more in
    let len = ap length regrouped in
    let after : length (spelling m.value ++ more) < 2 ^ 64 = omega (arith, l, len, length-append (counted m.name) (spelling m.value ++ more)) in
    let short : length m.name < 2 ^ 64 = omega (arith, l, len, length-append (counted m.name) (spelling m.value ++ more), length-append (number (length m.name)) m.name) in
    let name : name_at total before (counted m.name ++ (spelling m.value ++ more)) ≡ Ok (m.name, spelling m.value ++ more) =
    name_again total before m.name (spelling m.value ++ more) (left (is_utf8 m.name) (names_are_texts (map named_texts ms)) n) follows short in
    let value : tree_at total levels (spelling m.value ++ more) ≡ Ok (m.value, more) =
    h.0 total levels more (left (has_form m.value) (all_true (map (λ m. has_form m.value) ms)) f) (left (has_texts m.value) (all_true (map (λ m. has_texts m.value) ms)) t) (omega (arith, d)) after in
    let others : members_at (tree_at total levels) total (Some m.name) (length ms) more ≡ Ok (ms, rest) =
    members_again total levels (Some m.name) ms rest h.1 (next_follows m.name ms (left (is_below_first m.name (map named_form ms)) (are_ordered (map named_form ms)) order))
    (right (is_below_first m.name (map named_form ms)) (are_ordered (map named_form ms)) order)
    (right (has_form m.value) (all_true (map (λ m. has_form m.value) ms)) f) (right (is_utf8 m.name) (names_are_texts (map named_texts ms)) n) (right (has_texts m.value) (all_true (map (λ m. has_texts m.value) ms)) t)
    (omega (arith, d)) (omega (arith, after, length-append (spelling m.value) more)) in
    ap (members_at (tree_at total levels) total before (suc (length ms))) regrouped ∙ rw (name, value, others) refl

object_texts : (ms : List Member) → has_texts (Object ms) ≡ (names_are_texts (map named_texts ms) && all_true (map (λ m. has_texts m.value) ms))
object_texts ms = folded-Object Bool texts_step ms ∙ ap (λ b. names_are_texts (map named_texts ms) && b) (ap all_true (values_of-map Bool texts_step ms))

first_follows : (ms : List Member) → Follows None ms
first_follows [] = tt
first_follows (m ∷ ms) = refl

object_again : (ms : List Member) → EachValue IsAgain ms → IsAgain (Object ms)
object_again ms h total zero rest f t d l = absurd (omega (arith, depth_object ms, d))
object_again ms h total (suc levels) rest f t d l =
    let whole : spelling (Object ms) ++ rest ≡ 7 ∷ (number (length ms) ++ (member_spellings ms ++ rest)) =
    ap (λ k. k ++ rest) (spelling_object ms) ∙ ap (λ k. 7 ∷ k) (append_assoc (number (length ms)) (member_spellings ms) rest) in
    let len = ap length whole in
    let less : length (member_spellings ms ++ rest) < 2 ^ 64 = omega (arith, l, len, length-append (number (length ms)) (member_spellings ms ++ rest)) in
    let count : length ms < 2 ^ 64 = omega (arith, less, members_length ms, length-append (member_spellings ms) rest) in
    let inside = tree_at total levels in
    let texts = sym (object_texts ms) ∙ t in
    let order : are_ordered (map named_form ms) ≡ true = left _ _ (sym (folded-Object Bool form_step ms) ∙ f) in
    ap (tree_at total (suc levels)) whole ∙ tree_object total levels (number (length ms) ++ (member_spellings ms ++ rest))
    ∙ ap (λ r. r >>= λ x. found_tree (Object x.0) x.1)
    (object_counted inside total (number (length ms) ++ (member_spellings ms ++ rest)) (length ms) (member_spellings ms ++ rest) (number_again total largest_number (length ms) (member_spellings ms ++ rest) (omega (arith, count)) count)
    ∙ members_again total levels None ms rest h (first_follows ms) order (members_form ms f)
    (left (names_are_texts (map named_texts ms)) (all_true (map (λ m. has_texts m.value) ms)) texts) (right (names_are_texts (map named_texts ms)) (all_true (map (λ m. has_texts m.value) ms)) texts)
    (omega (arith, depth_object ms, d)) less)

pub tree_again : (v : Json) → IsAgain v
tree_again = induction IsAgain (record {
  null = λ total levels rest f t d l. scalar_again total levels 0 [] rest Null spelling_null (omega arith) (λ e. omega (arith, e)) (λ e. omega (arith, e)) refl;
  flag = flag_again;
  int = int_again;
  text = text_tree_again;
  list = list_again;
  object = object_again;
  opaque = λ total levels rest f t d l. scalar_again total levels 8 [] rest Opaque spelling_opaque (omega arith) (λ e. omega (arith, e)) (λ e. omega (arith, e)) refl;
})

pub first_again : (bytes : List ℕ) (v : Json) (rest : List ℕ) → IsWellFormed v → has_texts v ≡ true → bytes ≡ spelling v ++ rest → length bytes < 2 ^ 64 → first_tree bytes ≡ Ok (v, length (spelling v))
unfolding first_tree
first_again bytes v rest w t e l =
    let len = ap length e in
    let tree : tree_at (length bytes) max_depth bytes ≡ Ok (v, rest) = ap (tree_at (length bytes) max_depth) e ∙ tree_again v (length bytes) max_depth rest w.form t w.nests (omega (arith, l, len)) in
    let count : length bytes - length rest ≡ length (spelling v) = omega (arith, len, length-append (spelling v) rest) in
    ap (λ r. r >>= counted_bytes (length bytes)) tree ∙ ap (λ n. Ok (v, n)) count
