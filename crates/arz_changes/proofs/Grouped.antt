-- Places by the children that they lead to.
use Rattle.std.proofs.Common.{◌≡◌, inl, inr, ℕ, zero, suc, ◌+◌, ◌<◌, ◌==◌, List, [], ◌∷◌, ◌++◌, map, length, get_or, set, Bool, true, false, cond, refl, sym, ap, ◌∙◌, append-nil, add-one, take, Option, Some, None, option_map, eq-eqb, ne_eqb}
use Rattle.std.proofs.lemmas.Bool.{cases_Bool, eqb-true, eqb-false}
use Rattle.std.proofs.lemmas.List.{get_or-set_same, get_or-set_other, map-append}
use Rattle.std.proofs.Math.Seq.{take-suc}
use Rattle.std.specs.declared.cmp.Ordering.TheVariants.{Equal}
use Rattle.std.specs.Ordering.{nat_cmp, is_eq}
use Rattle.std.specs.Cmp.Lexicographic.{slice_cmp}
use Rattle.std.specs.Str.{bytes_eq}
use Rattle.std.proofs.lemmas.Map.Text.{is_eq-slice_cmp}
use Rattle.arz_json.specs.Tree.{are_ordered}
use Rattle.arz_json.specs.Put.{place_of}
use Rattle.arz_json.specs.declared.tree.Member.{Member}
use Rattle.arz_changes.proofs.Searched.{form_of, present, equal}
use Rattle.arz_changes.proofs.Lists.{Some_inj}
use Rattle.std.specs.declared.vec.Vec.{Vec}
use Rattle.std.specs.declared.alloc.Global.{Global}
use Rattle.arz_json.specs.declared.place.Token.{Token}
use Rattle.arz_changes.specs.declared.groups.Way.{Way}
use Rattle.arz_changes.specs.Removal.{Places, below, same_token}
use Rattle.arz_changes.specs.Groups.{tokens_of, ways_seen, groups_seen}

get_out : (gs : List Places) (k : ℕ) → get_or (gs ++ [] ∷ []) k [] ≡ get_or gs k []
get_out [] zero = refl
get_out [] (suc k) = refl
get_out (g ∷ gs) zero = refl
get_out (g ∷ gs) (suc k) = get_out gs k

pub one_empty : (vs : List (Vec Way Global)) (v : Vec Way Global) (k : ℕ) → v.items ≡ [] → get_or (groups_seen (vs ++ v ∷ [])) k [] ≡ get_or (groups_seen vs) k []
one_empty [] v zero e = ap (map tokens_of) e
one_empty [] v (suc k) e = refl
one_empty (w ∷ vs) v zero e = refl
one_empty (w ∷ vs) v (suc k) e = one_empty vs v k e

pub one_added : (gs : List Places) (at : ℕ) (new : Places) (place : List Token) → at < length gs → new ≡ get_or gs at [] ++ place ∷ [] → (k : ℕ)
    → get_or (set gs at new) k [] ≡ get_or gs k [] ++ cond (k == at) (place ∷ []) []
one_added gs at new place less is k = elim (cases_Bool (k == at)) [
  | inl same ↦ let e : k ≡ at = eqb-true k at same in rw (same, e) (get_or-set_same gs at new [] less ∙ is)
  | inr other ↦ rw other (get_or-set_other gs at k new [] (eqb-false k at other) ∙ sym (append-nil (get_or gs k [])))
]

below_more : (b : Bool) (place : List Token) (all ps more : Places) → all ≡ ps ++ more → cond b (place ∷ all) all ≡ cond b (place ∷ ps) ps ++ more
below_more true place all ps more e = ap (λ l. place ∷ l) e
below_more false place all ps more e = e

-- the places below a step: of some places, and one more
pub below-append : (t : Token) (ps : Places) (p : List Token) → below t (ps ++ p ∷ []) ≡ below t ps ++ below t (p ∷ [])
below-append t [] p = refl
below-append t ([] ∷ ps) p = below-append t ps p
below-append t ((u ∷ place) ∷ ps) p = below_more (same_token t u) place _ (below t ps) (below t (p ∷ [])) (below-append t ps p)

pub below_ways : (t : Token) (ws : List Way) (i : ℕ) (w : Way) → i < length ws → w ≡ get_or ws i w → below t (ways_seen (take (i + 1) ws)) ≡ below t (ways_seen (take i ws)) ++ below t (tokens_of w ∷ [])
below_ways t ws i w less is =
    ap (λ l. below t (ways_seen l)) (take_more_at ws i w less is) ∙ ap (below t) (map-append tokens_of (take i ws) (w ∷ [])) ∙ below-append t (ways_seen (take i ws)) (tokens_of w)
  where
    take_more_at : (ws : List Way) (i : ℕ) (w : Way) → i < length ws → w ≡ get_or ws i w → take (i + 1) ws ≡ take i ws ++ w ∷ []
    take_more_at ws i w less is = rw add-one (take-suc ws i w less ∙ ap (λ v. take i ws ++ v ∷ []) (sym is))

-- ---- by names

named : (ms : List Member) (name : List ℕ) (i : ℕ) (d : Member) → place_of ms name ≡ Some i → bytes_eq (get_or ms i d).name name ≡ true
named [] name i d e = absurd (cc)
named (m ∷ ms) name i d e = at_name (bytes_eq m.name name) (place_of ms name) refl e (λ k. named ms name k d)
  where
    at_name : (b : Bool) (o : Option ℕ) → bytes_eq m.name name ≡ b → cond b (Some 0) (option_map (λ k. suc k) o) ≡ Some i → ((k : ℕ) → o ≡ Some k → bytes_eq (get_or ms k d).name name ≡ true) → bytes_eq (get_or (m ∷ ms) i d).name name ≡ true
    at_name true o is h more = ap (λ k. bytes_eq (get_or (m ∷ ms) k d).name name) (sym (Some_inj 0 i h)) ∙ is
    at_name false None is h more = absurd (cc)
    at_name false (Some k) is h more = ap (λ l. bytes_eq (get_or (m ∷ ms) l d).name name) (sym (Some_inj (suc k) i h)) ∙ more k refl

same_place : (ms : List Member) (name : List ℕ) (k : ℕ) (d : Member) → are_ordered (map form_of ms) ≡ true → k < length ms → bytes_eq (get_or ms k d).name name ≡ true → place_of ms name ≡ Some k
same_place ms name k d o less e = present ms name k d o less (equal_names (get_or ms k d).name name (is_eq-slice_cmp (get_or ms k d).name name ∙ e))
  where
    equal_names : (a b : List ℕ) → is_eq (slice_cmp nat_cmp a b) ≡ true → slice_cmp nat_cmp a b ≡ Equal
    equal_names a b h = equal (slice_cmp nat_cmp a b) h

-- the member at a place is the one that has the name
pub at_place : (ms : List Member) (name : List ℕ) (at k : ℕ) (d : Member) → are_ordered (map form_of ms) ≡ true → place_of ms name ≡ Some at → k < length ms → bytes_eq (get_or ms k d).name name ≡ (k == at)
at_place ms name at k d o e less = elim (cases_Bool (bytes_eq (get_or ms k d).name name)) [
  | inl same ↦ let is : k ≡ at = Some_inj k at (sym (same_place ms name k d o less same) ∙ e) in same ∙ sym (eq-eqb k at is)
  | inr other ↦ other ∙ sym (ne_eqb k at (λ is. true_false (sym (named ms name at d e) ∙ ap (λ l. bytes_eq (get_or ms l d).name name) (sym is) ∙ other)))
]
  where
    true_false : true ≡ false → ⊥
    true_false h = cc

-- no member has a name that has no place
pub no_place : (ms : List Member) (name : List ℕ) (k : ℕ) (d : Member) → are_ordered (map form_of ms) ≡ true → place_of ms name ≡ None → k < length ms → bytes_eq (get_or ms k d).name name ≡ false
no_place ms name k d o e less = elim (cases_Bool (bytes_eq (get_or ms k d).name name)) [
  | inl same ↦ absurd (none_some (sym e ∙ same_place ms name k d o less same))
  | inr other ↦ other
]
  where
    none_some : None ≡ Some k → ⊥
    none_some h = cc
