-- Members in order, in two halves around a middle one.
use Rattle.std.proofs.Common.{◌≡◌, ◌&&◌, ℕ, List, [], ◌∷◌, ◌++◌, map, take, drop, Some, None, Bool, true, false, cond, refl, sym, ap, ap₂, subst, ◌∙◌, take-append-drop}
use Rattle.std.specs.declared.cmp.Ordering.{Ordering}
use Rattle.std.specs.declared.cmp.Ordering.TheVariants.{Less, Equal, Greater}
use Rattle.std.specs.Ordering.{nat_cmp, is_lt, ordering_reverse}
use Rattle.std.specs.Cmp.Lexicographic.{slice_cmp}
use Rattle.std.specs.Str.{bytes_eq}
use Rattle.std.proofs.lemmas.Cmp.{nat_list_cmp_total, tied_itself}
use Rattle.std.proofs.lemmas.Map.Lookups.{exact_bytes}
use Rattle.std.proofs.lemmas.Slice.Eq.{bytes_eq-Decides}
use Rattle.arz_json.specs.Tree.{are_ordered, is_below_first, has_form}
use Rattle.arz_json.specs.Pointer.{member_named}
use Rattle.arz_json.specs.declared.tree.Member.{Member}
use Rattle.arz_rules.specs.Look.{AreOrdered}

abbrev cmp : List ℕ → List ℕ → Ordering
cmp = slice_cmp nat_cmp

abbrev pairs : List Member → List (List ℕ × Bool)
pairs ms = map (λ m. (m.name, has_form m.value)) ms

left : (a b : Bool) → (a && b) ≡ true → a ≡ true
left true b p = refl
left false b p = p

right : (a b : Bool) → (a && b) ≡ true → b ≡ true
right true b p = p
right false b p = absurd (cc)

both : (a b : Bool) → a ≡ true → b ≡ true → (a && b) ≡ true
both true b p q = q
both false b p q = p

less_by : (o : Ordering) → is_lt o ≡ true → o ≡ Less
less_by Less e = refl
less_by Equal e = absurd (cc)
less_by Greater e = absurd (cc)

-- names that are all above one, or all below it
abbrev AllAbove : List ℕ → List Member → Type 0
AllAbove k [] = Unit {0}
AllAbove k (m ∷ ms) = (cmp k m.name ≡ Less) × AllAbove k ms

abbrev AllBelow : List ℕ → List Member → Type 0
AllBelow k [] = Unit {0}
AllBelow k (m ∷ ms) = (cmp m.name k ≡ Less) × AllBelow k ms

higher : (j k : List ℕ) (ms : List Member) → cmp j k ≡ Less → AllAbove k ms → AllAbove j ms
higher j k [] l h = tt
higher j k (m ∷ ms) l h = (nat_list_cmp_total.trans j k m.name l h.0, higher j k ms l h.1)

lower : (j k : List ℕ) (ms : List Member) → cmp j k ≡ Less → AllBelow j ms → AllBelow k ms
lower j k [] l h = tt
lower j k (m ∷ ms) l h = (nat_list_cmp_total.trans m.name j k h.0 l, lower j k ms l h.1)

all_above : (k : List ℕ) (ms : List Member) → is_below_first k (pairs ms) ≡ true → AreOrdered ms → AllAbove k ms
all_above k [] b o = tt
all_above k (m ∷ ms) b o =
    let l : cmp k m.name ≡ Less = less_by (cmp k m.name) b in
    (l, higher k m.name ms l (all_above m.name ms (left (is_below_first m.name (pairs ms)) (are_ordered (pairs ms)) o) (right (is_below_first m.name (pairs ms)) (are_ordered (pairs ms)) o)))

middle_above : (k : List ℕ) (before : List Member) (m : Member) (after : List Member) → AllAbove k (before ++ m ∷ after) → cmp k m.name ≡ Less
middle_above k [] m after h = h.0
middle_above k (b ∷ before) m after h = middle_above k before m after h.1

first_before : (k : List ℕ) (before : List Member) (m : Member) (after : List Member) → is_below_first k (pairs (before ++ m ∷ after)) ≡ true → is_below_first k (pairs before) ≡ true
first_before k [] m after h = refl
first_before k (b ∷ before) m after h = h

record Halves (low : List Member) (m : Member) (high : List Member) : Type 0 where
  before : AreOrdered low
  after : AreOrdered high
  below : AllBelow m.name low
  above : AllAbove m.name high

halves : (before : List Member) (m : Member) (after : List Member) → AreOrdered (before ++ m ∷ after) → Halves before m after
halves [] m after o =
    let b = left (is_below_first m.name (pairs after)) (are_ordered (pairs after)) o in
    let r = right (is_below_first m.name (pairs after)) (are_ordered (pairs after)) o in
    record { before = refl; after = r; below = tt; above = all_above m.name after b r }
halves (k ∷ before) m after o =
    let all = before ++ m ∷ after in
    let b = left (is_below_first k.name (pairs all)) (are_ordered (pairs all)) o in
    let r = right (is_below_first k.name (pairs all)) (are_ordered (pairs all)) o in
    let rest = halves before m after r in
    record {
      before = both (is_below_first k.name (pairs before)) (are_ordered (pairs before)) (first_before k.name before m after b) rest.before;
      after = rest.after;
      below = (middle_above k.name before m after (all_above k.name all b r), rest.below);
      above = rest.above;
    }

-- ---- what is below or above a name hasn't it

apart : (a b : List ℕ) → cmp a b ≡ Less → bytes_eq a b ≡ false
apart a b l = apart_by (bytes_eq a b) (bytes_eq-Decides a b).0
  where
    apart_by : (e : Bool) → (e ≡ true → a ≡ b) → e ≡ false
    apart_by true h = absurd (cc (l, ap (λ x. cmp a x) (sym (h refl)), tied_itself nat_list_cmp_total a))
    apart_by false h = refl

swapped : (a b : List ℕ) → cmp a b ≡ Greater → cmp b a ≡ Less
swapped a b g = nat_list_cmp_total.antisymm b a ∙ ap ordering_reverse g

equal_names : (a b : List ℕ) → cmp a b ≡ Equal → bytes_eq b a ≡ true
equal_names a b e = ap (λ x. bytes_eq x a) (sym (exact_bytes a b e)) ∙ (bytes_eq-Decides a a).1 refl

apart_above : (a b : List ℕ) → cmp a b ≡ Less → bytes_eq b a ≡ false
apart_above a b l = apart_by (bytes_eq b a) (bytes_eq-Decides b a).0
  where
    apart_by : (e : Bool) → (e ≡ true → b ≡ a) → e ≡ false
    apart_by true h = absurd (cc (l, ap (λ x. cmp a x) (h refl), tied_itself nat_list_cmp_total a))
    apart_by false h = refl

past_below : (name : List ℕ) (ms rest : List Member) → AllBelow name ms → member_named (ms ++ rest) name ≡ member_named rest name
past_below name [] rest h = refl
past_below name (m ∷ ms) rest h = ap (λ b. cond b (Some m.value) (member_named (ms ++ rest) name)) (apart m.name name h.0) ∙ past_below name ms rest h.1

none_above : (name : List ℕ) (ms : List Member) → AllAbove name ms → member_named ms name ≡ None
none_above name [] h = refl
none_above name (m ∷ ms) h = ap (λ b. cond b (Some m.value) (member_named ms name)) (apart_above name m.name h.0) ∙ none_above name ms h.1

without_rest : (name : List ℕ) (ms rest : List Member) → member_named rest name ≡ None → member_named (ms ++ rest) name ≡ member_named ms name
without_rest name [] rest h = h
without_rest name (m ∷ ms) rest h = ap (λ o. cond (bytes_eq m.name name) (Some m.value) o) (without_rest name ms rest h)

-- ---- a search by halves

module _ (ms before : List Member) (m : Member) (after : List Member) (name : List ℕ) (is : ms ≡ before ++ m ∷ after) (o : AreOrdered ms) where
  parts : Halves before m after
  parts = halves before m after (sym (ap (λ (xs : List Member). are_ordered (pairs xs)) is) ∙ o)

  pub before-AreOrdered : AreOrdered before
  before-AreOrdered = parts.before

  pub after-AreOrdered : AreOrdered after
  after-AreOrdered = parts.after

  found : member_named ms name ≡ member_named (before ++ m ∷ after) name
  found = ap (λ (xs : List Member). member_named xs name) is

  pub in_before : cmp name m.name ≡ Less → member_named before name ≡ member_named ms name
  in_before l = sym (found ∙ without_rest name before (m ∷ after) (none_above name (m ∷ after) (l, higher name m.name after l parts.above)))

  pub in_middle : cmp name m.name ≡ Equal → Some m.value ≡ member_named ms name
  in_middle e = sym (
      found
      ∙ past_below name before (m ∷ after) (lower_to (exact_bytes name m.name e) parts.below)
      ∙ ap (λ b. cond b (Some m.value) (member_named after name)) (equal_names name m.name e))
    where
      lower_to : name ≡ m.name → AllBelow m.name before → AllBelow name before
      lower_to e h = let P : List ℕ → Type 0 = λ k. AllBelow k before in subst P (sym e) h

  pub in_after : cmp name m.name ≡ Greater → member_named after name ≡ member_named ms name
  in_after g =
      let l : cmp m.name name ≡ Less = swapped name m.name g in
      sym (
      found
      ∙ past_below name before (m ∷ after) (lower m.name name before l parts.below)
      ∙ ap (λ b. cond b (Some m.value) (member_named after name)) (apart m.name name l))

-- a list is what stands before an index, the item there, and what stands after it
pub halved : (ms before rest : List Member) (m : Member) (after : List Member) (n : ℕ) → before ≡ take n ms → rest ≡ drop n ms → rest ≡ m ∷ after → ms ≡ before ++ m ∷ after
halved ms before rest m after n f b s = sym (ap₂ (λ (x y : List Member). x ++ y) f (sym s ∙ b) ∙ take-append-drop n ms)
