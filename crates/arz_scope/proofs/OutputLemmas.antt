-- Outputs as they are read, and in their order.
use Rattle.std.proofs.Common.{◌≡◌, ◌≤◌, ◌&&◌, ℕ, suc, List, [], ◌∷◌, Bool, true, false, Option, Some, None, option_and_then, unwrap_or, map, refl, sym, ap, ◌∙◌, arith, codes}
use Rattle.std.specs.Prelude.{IfSome}
use Rattle.std.specs.Cmp.Lexicographic.{slice_cmp}
use Rattle.std.specs.Ordering.{nat_cmp, is_lt}
use Rattle.std.specs.declared.cmp.Ordering.{Ordering}
use Rattle.std.specs.declared.cmp.Ordering.TheVariants.{Less, Equal, Greater}
use Rattle.std.proofs.lemmas.Cmp.{nat_list_cmp_total}
use Rattle.arz_json.specs.Tree.{has_form, depth, are_ordered, is_below_first, all_true, largest, form_step, depth_step, IsWellFormed}
use Rattle.arz_json.specs.Look.{text_in}
use Rattle.arz_json.specs.declared.tree.Json.{Json}
use Rattle.arz_json.specs.declared.tree.Json.TheVariants.{Object}
use Rattle.arz_json.specs.declared.tree.Member.{Member}
use Rattle.arz_json.proofs.Layers.{folded-Object, values_of-map}
use Rattle.arz_expr.specs.Grammar.{Reads}
use Rattle.arz_expr.specs.Reading.{reading}
use Rattle.arz_expr.specs.Values.{value_in}
use Rattle.arz_expr.specs.declared.syntax.Base.{Base}
use Rattle.arz_expr.specs.declared.syntax.Expr.{Expr}
use Rattle.arz_expr.proofs.Endings.{reading-sound, reading-complete}
use Rattle.arz_json.specs.Look.{members_at}
use Rattle.arz_scope.specs.Outputs.{output_value, with_output, outputs_in, outputs_of}
use Rattle.arz_scope.specs.Shallow.{AreShallow}
use Rattle.arz_scope.proofs.Depths.{members-in}

-- ---- the value of one

none-at : (text : List ℕ) (o : Option Expr) → IfSome o (Reads text) → ((e : Expr) → Reads text e → None ≡ Some e) → None ≡ o
none-at text None h all = refl
none-at text (Some e) h all = all e h

-- what reads is the reading
pub reading-is : (text : List ℕ) (o : Option Expr) → IfSome o (Reads text) → ((e : Expr) → Reads text e → o ≡ Some e) → o ≡ reading text
reading-is text None h all = none-at text (reading text) (reading-sound text) all
reading-is text (Some e) h all = sym (reading-complete text e h)

pub value-is : (found : Base → Option Json) (written : Json) (text : List ℕ) (o : Option Expr) → text_in written ≡ Some text → o ≡ reading text
    → option_and_then (value_in found) o ≡ output_value found written
value-is found written text o spelt is =
    ap (option_and_then (value_in found)) is ∙ sym (ap (λ t. option_and_then (value_in found) (option_and_then reading t)) spelt)

-- ---- the order

left : (a b : Bool) → (a && b) ≡ true → a ≡ true
left true b p = refl
left false b p = p

right : (a b : Bool) → (a && b) ≡ true → b ≡ true
right true b p = p
right false b p = absurd (cc)

both : (a b : Bool) → a ≡ true → b ≡ true → (a && b) ≡ true
both a b p q = rw (p, q) refl

less : (o : Ordering) → is_lt o ≡ true → o ≡ Less
less Less e = refl
less Equal e = absurd (cc)
less Greater e = absurd (cc)

lt-trans : (a b c : List ℕ) → is_lt (slice_cmp nat_cmp a b) ≡ true → is_lt (slice_cmp nat_cmp b c) ≡ true → is_lt (slice_cmp nat_cmp a c) ≡ true
lt-trans a b c p q = ap is_lt (nat_list_cmp_total.trans a b c (less (slice_cmp nat_cmp a b) p) (less (slice_cmp nat_cmp b c) q))

abbrev pairs : List Member → List (List ℕ × Bool)
pairs ms = map (λ m. (m.name, has_form m.value)) ms

below-more : (k j : List ℕ) (ms : List Member) → is_lt (slice_cmp nat_cmp k j) ≡ true → is_below_first j (pairs ms) ≡ true → is_below_first k (pairs ms) ≡ true
below-more k j [] p q = refl
below-more k j (m ∷ ms) p q = lt-trans k j m.name p q

module _ (found : Base → Option Json) where
  below-with : (k : List ℕ) (m : Member) (o : Option Json) (rest : List Member) → is_lt (slice_cmp nat_cmp k m.name) ≡ true → is_below_first k (pairs rest) ≡ true
      → is_below_first k (pairs (with_output found m.name o rest)) ≡ true
  below-with k m None rest p q = q
  below-with k m (Some v) rest p q = p

  -- a name that is below all those that are listed is below those that are given
  below-outputs : (k : List ℕ) (ms : List Member) → is_below_first k (pairs ms) ≡ true → are_ordered (pairs ms) ≡ true → is_below_first k (pairs (outputs_in found ms)) ≡ true
  below-outputs k [] p q = refl
  below-outputs k (m ∷ ms) p q =
      let next = left (is_below_first m.name (pairs ms)) (are_ordered (pairs ms)) q in
      let rest = right (is_below_first m.name (pairs ms)) (are_ordered (pairs ms)) q in
      below-with k m (output_value found m.value) (outputs_in found ms) p (below-outputs k ms (below-more k m.name ms p next) rest)

  ordered-with : (m : Member) (o : Option Json) (rest : List Member) → is_below_first m.name (pairs rest) ≡ true → are_ordered (pairs rest) ≡ true → are_ordered (pairs (with_output found m.name o rest)) ≡ true
  ordered-with m None rest p q = q
  ordered-with m (Some v) rest p q = both (is_below_first m.name (pairs rest)) (are_ordered (pairs rest)) p q

  ordered-outputs : (ms : List Member) → are_ordered (pairs ms) ≡ true → are_ordered (pairs (outputs_in found ms)) ≡ true
  ordered-outputs [] q = refl
  ordered-outputs (m ∷ ms) q =
      let next = left (is_below_first m.name (pairs ms)) (are_ordered (pairs ms)) q in
      let rest = right (is_below_first m.name (pairs ms)) (are_ordered (pairs ms)) q in
      ordered-with m (output_value found m.value) (outputs_in found ms) (below-outputs m.name ms next rest) (ordered-outputs ms rest)

tail-shallow : (m : Member) (ms : List Member) → AreShallow (m ∷ ms) → AreShallow ms
tail-shallow m ms all = λ k d lt. all (suc k) d (omega (arith, lt))

forms : (ms : List Member) → AreShallow ms → all_true (map (λ m. has_form m.value) ms) ≡ true
forms [] all = refl
forms (m ∷ ms) all = both (has_form m.value) (all_true (map (λ m. has_form m.value) ms)) ((all 0 m (omega arith)).form) (forms ms (tail-shallow m ms all))

depths : (ms : List Member) → AreShallow ms → largest (map (λ m. depth m.value) ms) ≤ 127
depths [] all = omega arith
depths (m ∷ ms) all = omega (arith, (all 0 m (omega arith)).nests, depths ms (tail-shallow m ms all))

-- an object of shallow values in order
object-within : (ms : List Member) → are_ordered (pairs ms) ≡ true → AreShallow ms → IsWellFormed (Object ms)
object-within ms ordered all = record {
  form = folded-Object Bool form_step ms ∙ both _ _ ordered (ap all_true (values_of-map Bool form_step ms) ∙ forms ms all);
  nests = omega (arith, folded-Object ℕ depth_step ms, ap largest (values_of-map ℕ depth_step ms), depths ms all);
}

ordered-of : (o : Option (List Member)) → ((ms : List Member) → o ≡ Some ms → IsWellFormed (Object ms)) → are_ordered (pairs (unwrap_or o [])) ≡ true
ordered-of None h = refl
ordered-of (Some ms) h = left _ _ (sym (folded-Object Bool form_step ms) ∙ (h ms refl).form)

pub outputs-well_formed : (found : Base → Option Json) (listed : Json) (given : List Member) → given ≡ outputs_of found listed → AreShallow given → IsWellFormed listed → IsWellFormed (Object given)
outputs-well_formed found listed given is all w =
    let ordered : are_ordered (pairs (outputs_of found listed)) ≡ true = ordered-outputs found (members_at (codes "outputs") listed) (ordered-of _ (members-in (codes "outputs") listed w)) in
    object-within given (ap (λ ms. are_ordered (pairs ms)) is ∙ ordered) all
