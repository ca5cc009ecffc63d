-- Members that are put into members in the order of their names.
use Rattle.std.proofs.Common.{◌≡◌, ℕ, List, [], ◌∷◌, ◌++◌, map, Bool, true, false, cond, Option, Some, None, refl, sym, ap, ap₂, ◌∙◌, subst, append_assoc, ◌+◌, zero-add, arith}
use Rattle.std.specs.declared.cmp.Ordering.{Ordering}
use Rattle.std.specs.declared.cmp.Ordering.TheVariants.{Less, Equal, Greater}
use Rattle.std.specs.Ordering.{nat_cmp, is_lt, is_gt, is_eq, ordering_reverse}
use Rattle.std.specs.Cmp.Lexicographic.{slice_cmp}
use Rattle.std.specs.Str.{bytes_eq}
use Rattle.std.proofs.lemmas.Cmp.{nat_list_cmp_total}
use Rattle.std.proofs.lemmas.Map.Text.{is_eq-slice_cmp}
use Rattle.std.proofs.lemmas.Slice.Eq.{bytes_eq-Decides}
use Rattle.arz_json.specs.Tree.{is_below_first, has_form}
use Rattle.arz_json.specs.declared.tree.Json.{Json}
use Rattle.arz_json.specs.declared.tree.Member.{Member}
use Rattle.arz_changes.specs.Merging.{Merge, merge_of, merged, member, with_member, with_member_by, with_members}
use Rattle.arz_changes.specs.Weight.{weight, name_weight, members_weight, member_there}
use Rattle.arz_changes.proofs.Weights.{members_weight-append, members_weight-cons}
use Rattle.arz_changes.specs.Members.{is_after, before, from, value_in_front, behind_front}

-- each name comes before this one
abbrev pub AreBefore : List Member → List ℕ → Type 0
AreBefore [] name = Unit {0}
AreBefore (m ∷ ms) name = (slice_cmp nat_cmp name m.name ≡ Greater) × AreBefore ms name

-- each name comes before the first of these
abbrev pub AreReady : List Member → List Member → Type 0
AreReady done [] = Unit {0}
AreReady done (u ∷ us) = AreBefore done u.name

pub AreBefore-append : (ms ns : List Member) (name : List ℕ) → AreBefore ms name → AreBefore ns name → AreBefore (ms ++ ns) name
AreBefore-append [] ns name h g = g
AreBefore-append (m ∷ ms) ns name h g = (h.0, AreBefore-append ms ns name h.1 g)

-- a member is put behind those whose names come before
pub with_member-past : (u : List ℕ × Merge) (ms ns : List Member) → AreBefore ms u.0 → with_member u (ms ++ ns) ≡ ms ++ with_member u ns
with_member-past u [] ns h = refl
with_member-past u (m ∷ ms) ns h =
    ap (λ o. with_member_by o u m (ms ++ ns) (with_member u (ms ++ ns))) h.0 ∙ ap (λ l. m ∷ l) (with_member-past u ms ns h.1)

greater : (o : Ordering) → is_gt o ≡ true → o ≡ Greater
greater Less e = absurd (cc)
greater Equal e = absurd (cc)
greater Greater e = refl

before_at : (name : List ℕ) (m : Member) (ms : List Member) (b : Bool) → is_after name m ≡ b → AreBefore (before name ms) name → AreBefore (cond b (m ∷ before name ms) []) name
before_at name m ms true e h = (greater _ e, h)
before_at name m ms false e h = tt

pub before-AreBefore : (name : List ℕ) (ms : List Member) → AreBefore (before name ms) name
before-AreBefore name [] = tt
before-AreBefore name (m ∷ ms) = before_at name m ms (is_after name m) refl (before-AreBefore name ms)

parted_at : (name : List ℕ) (m : Member) (ms : List Member) (b : Bool) → before name ms ++ from name ms ≡ ms → cond b (m ∷ before name ms) [] ++ cond b (from name ms) (m ∷ ms) ≡ m ∷ ms
parted_at name m ms true e = ap (λ l. m ∷ l) e
parted_at name m ms false e = refl

pub parted : (name : List ℕ) (ms : List Member) → before name ms ++ from name ms ≡ ms
parted name [] = refl
parted name (m ∷ ms) = parted_at name m ms (is_after name m) (parted name ms)

-- the first that the name doesn't come after
abbrev pub IsFirst : List ℕ → List Member → Type 0
IsFirst name [] = Unit {0}
IsFirst name (m ∷ ms) = is_after name m ≡ false

from_at : (name : List ℕ) (m : Member) (ms : List Member) (b : Bool) → is_after name m ≡ b → IsFirst name (from name ms) → IsFirst name (cond b (from name ms) (m ∷ ms))
from_at name m ms true e h = h
from_at name m ms false e h = e

pub from-IsFirst : (name : List ℕ) (ms : List Member) → IsFirst name (from name ms)
from-IsFirst name [] = tt
from-IsFirst name (m ∷ ms) = from_at name m ms (is_after name m) refl (from-IsFirst name ms)

-- ---- one member of the update

same_names : (a b : List ℕ) (o : Ordering) → slice_cmp nat_cmp a b ≡ o → bytes_eq b a ≡ is_eq (ordering_reverse o)
same_names a b o e = sym (is_eq-slice_cmp b a) ∙ ap is_eq (nat_list_cmp_total.antisymm b a ∙ ap ordering_reverse e)

front_by : (u : List ℕ × Merge) (m : Member) (ms : List Member) (o : Ordering) → slice_cmp nat_cmp u.0 m.name ≡ o → is_gt o ≡ false
    → with_member_by o u m ms (with_member u ms) ≡ member u.0 (u.1 (value_in_front u.0 (m ∷ ms))) ∷ behind_front u.0 (m ∷ ms)
front_by u m ms Less e h = rw (same_names u.0 m.name Less e) refl
front_by u m ms Equal e h = rw (same_names u.0 m.name Equal e) refl
front_by u m ms Greater e h = absurd (cc)

front : (u : List ℕ × Merge) (ms : List Member) → IsFirst u.0 ms → with_member u ms ≡ member u.0 (u.1 (value_in_front u.0 ms)) ∷ behind_front u.0 ms
front u [] h = refl
front u (m ∷ ms) h = front_by u m ms (slice_cmp nat_cmp u.0 m.name) refl h

pub put : (u : List ℕ × Merge) (ms : List Member) → with_member u ms ≡ before u.0 ms ++ member u.0 (u.1 (value_in_front u.0 (from u.0 ms))) ∷ behind_front u.0 (from u.0 ms)
put u ms =
    ap (with_member u) (sym (parted u.0 ms)) ∙ with_member-past u (before u.0 ms) (from u.0 ms) (before-AreBefore u.0 ms)
    ∙ ap (λ l. before u.0 ms ++ l) (front u (from u.0 ms) (from-IsFirst u.0 ms))

less : (o : Ordering) → is_lt o ≡ true → o ≡ Less
less Less e = refl
less Equal e = absurd (cc)
less Greater e = absurd (cc)

onward : (k a b : List ℕ) → slice_cmp nat_cmp a b ≡ Less → slice_cmp nat_cmp a k ≡ Greater → slice_cmp nat_cmp b k ≡ Greater
onward k a b e h =
    let back : slice_cmp nat_cmp k a ≡ Less = nat_list_cmp_total.antisymm k a ∙ ap ordering_reverse h in
    nat_list_cmp_total.antisymm b k ∙ ap ordering_reverse (nat_list_cmp_total.trans k a b back e)

AreBefore-onward : (ms : List Member) (a b : List ℕ) → slice_cmp nat_cmp a b ≡ Less → AreBefore ms a → AreBefore ms b
AreBefore-onward [] a b e h = tt
AreBefore-onward (m ∷ ms) a b e h = (onward m.name a b e h.0, AreBefore-onward ms a b e h.1)

abbrev pub form_of : Member → List ℕ × Bool
form_of m = (m.name, has_form m.value)

ready_on : (done us : List Member) (name : List ℕ) → is_below_first name (map form_of us) ≡ true → AreBefore done name → AreReady done us
ready_on done [] name e h = tt
ready_on done (v ∷ us) name e h = AreBefore-onward done name v.name (less _ e) h

ready_more : (done us : List Member) (x : Member) (name : List ℕ) → x.name ≡ name → is_below_first name (map form_of us) ≡ true → AreBefore done name → AreReady (done ++ x ∷ []) us
ready_more done [] x name is e h = tt
ready_more done (v ∷ us) x name is e h =
    AreBefore-append done (x ∷ []) v.name (AreBefore-onward done name v.name (less _ e) h)
    (nat_list_cmp_total.antisymm v.name x.name ∙ ap ordering_reverse (ap (λ n. slice_cmp nat_cmp n v.name) is ∙ less _ e), tt)

-- what the code holds once the member u of the update was put
pub record Put (u : Member) (k l : List ℕ) (all rest moved left more : List Member) (there : Option Json) (x : Member) (now : List Member) : Type 0 where
  pub first : k ≡ u.name
  pub second : l ≡ u.name
  pub moves : moved ≡ all ++ before k rest
  pub leaves : left ≡ from k rest
  pub takes : there ≡ value_in_front l left
  pub behind : more ≡ behind_front l left
  pub makes : x ≡ member u.name (merged u.value there)
  pub pushes : now ≡ moved ++ x ∷ []

module _ (u : Member) (k l : List ℕ) (all rest moved left more : List Member) (there : Option Json) (x : Member) (now : List Member) (h : Put u k l all rest moved left more there x now) where
  moved_is : moved ≡ all ++ before u.name rest
  moved_is = h.moves ∙ ap (λ n. all ++ before n rest) h.first

  left_is : left ≡ from u.name rest
  left_is = h.leaves ∙ ap (λ n. from n rest) h.first

  there_is : there ≡ value_in_front u.name (from u.name rest)
  there_is = h.takes ∙ ap₂ value_in_front h.second left_is

  more_is : more ≡ behind_front u.name (from u.name rest)
  more_is = h.behind ∙ ap₂ behind_front h.second left_is

  pub put_gives : (us : List Member) → AreBefore all u.name → with_members (map merge_of us) (now ++ more) ≡ with_members (map merge_of (u ∷ us)) (all ++ rest)
  put_gives us ready =
      ap (with_members (map merge_of us))
      (ap (λ z. z ++ more) h.pushes ∙ append_assoc moved (x ∷ []) more ∙ ap₂ (λ a b. a ++ b) moved_is (ap₂ (λ y z. y ∷ z) (h.makes ∙ ap (λ o. member u.name (merged u.value o)) there_is) more_is)
      ∙ append_assoc all (before u.name rest) _ ∙ ap (λ z. all ++ z) (sym (put (merge_of u) rest)) ∙ sym (with_member-past (merge_of u) all rest ready))

  pub put_ready : (us : List Member) → is_below_first u.name (map form_of us) ≡ true → AreBefore all u.name → AreReady now us
  put_ready us e ready =
      subst (λ z. AreReady z us) (sym (h.pushes ∙ ap (λ z. z ++ x ∷ []) moved_is))
      (ready_more (all ++ before u.name rest) us x u.name (ap (λ (m : Member). m.name) h.makes) e (AreBefore-append all _ u.name ready (before-AreBefore u.name rest)))

  front_weight : (ms : List Member) → members_weight ms ≡ member_there u.name (value_in_front u.name ms) + members_weight (behind_front u.name ms)
  front_weight [] = refl
  front_weight (m ∷ ms) = weight_at (bytes_eq m.name u.name) refl
    where
      weight_at : (b : Bool) → bytes_eq m.name u.name ≡ b → members_weight (m ∷ ms) ≡ member_there u.name (cond b (Some m.value) None) + members_weight (cond b ms (m ∷ ms))
      weight_at true e = members_weight-cons m ms ∙ ap (λ n. name_weight n + weight m.value + members_weight ms) ((bytes_eq-Decides m.name u.name).0 e)
      weight_at false e = sym (zero-add (members_weight (m ∷ ms)))

  pub put_weighs : members_weight (now ++ more) + member_there u.name there ≡ members_weight (all ++ rest) + member_there x.name (Some x.value)
  put_weighs =
      let a = ap members_weight (ap (λ z. z ++ more) h.pushes) in
      let b = members_weight-append (moved ++ x ∷ []) more in
      let c = members_weight-append moved (x ∷ []) in
      let d = members_weight-cons x [] in
      let e = ap members_weight moved_is in
      let f = members_weight-append all (before u.name rest) in
      let g = members_weight-append all rest in
      let i = ap members_weight (sym (parted u.name rest)) in
      let j = members_weight-append (before u.name rest) (from u.name rest) in
      let k = front_weight (from u.name rest) in
      let l = ap (member_there u.name) there_is in
      let m = ap members_weight more_is in
      omega (arith, a, b, c, d, e, f, g, i, j, k, l, m)
