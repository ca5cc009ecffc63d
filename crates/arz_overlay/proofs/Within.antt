-- A tree in form that nests at most 127 deep gives only such trees.
use Rattle.std.proofs.Common.{◌≡◌, ℕ, suc, List, [], ◌∷◌, map, Bool, true, false, ◌||◌, cond, Option, Some, None, Result, Ok, Err, refl, subst}
use Rattle.std.specs.Prelude.{codes, nat_lt}
use Rattle.std.proofs.lemmas.Bool.{ltb-false}
use Rattle.arz_json.specs.Answer.{◌>>=◌}
use Rattle.arz_json.specs.Tree.{has_form, depth, all_true, IsWithin}
use Rattle.arz_json.specs.declared.tree.Json.{Json}
use Rattle.arz_json.specs.declared.tree.Refusal.{Refusal}
use Rattle.arz_json.specs.declared.place.Token.{Token}
use Rattle.arz_path.specs.Outcome.{Outcome, given, wide, untold}
use Rattle.arz_path.specs.Selected.{places}
use Rattle.arz_rules.proofs.InForm.{member_form}
use Rattle.arz_changes.specs.Actions.{removal_rule}
use Rattle.arz_changes.specs.Children.{changed}
use Rattle.arz_changes.specs.Merging.{updated, no_target}
use Rattle.arz_changes.specs.Removal.{Places}
use Rattle.arz_changes.specs.Weight.{weight}
use Rattle.arz_changes.proofs.Lists.{left, right, Some_inj}
use Rattle.arz_overlay.specs.Documents.{target_of, segments_of, update_of, removes}
use Rattle.arz_overlay.specs.Overlaid.{Patterned, within, done, done_after, after_action, overlaid_from}
use Rattle.arz_overlay.specs.Steps.{each_once, is_over, heaviest, over_limit, within_limits, merged_at, merged_at_each, unless, removed, target_rule, updated_at, done_at}
use Rattle.arz_overlay.proofs.Depths.{without-depth}
use Rattle.arz_overlay.proofs.Kept.{Ok_inj, without_form, changed_form}

limited_by : (b : Bool) (j k : Json) → cond b (Err over_limit) (Ok j) ≡ Ok k → (b ≡ false) × (j ≡ k)
limited_by true j k e = absurd (cc)
limited_by false j k e = (refl, Ok_inj _ _ e)

or_right : (a b : Bool) → (a || b) ≡ false → b ≡ false
or_right true b e = absurd (cc)
or_right false b e = e

limited : (j k : Json) → within_limits j ≡ Ok k → has_form j ≡ true → IsWithin 127 k
limited j k e f =
    let is = limited_by (is_over j) j k e in
    subst (IsWithin 127) is.1 (record { form = f; nests = ltb-false 127 (depth j) (or_right (nat_lt heaviest (weight j)) _ is.0) })

merged_within : (u : Json) → has_form u ≡ true → (p : List Token) (j k : Json) (r : Result Json ℕ) → changed (updated u) no_target p j ≡ r → (r >>= within_limits) ≡ Ok k → has_form j ≡ true → IsWithin 127 k
merged_within u h p j k (Err rule) is e f = absurd (cc)
merged_within u h p j k (Ok i) is e f = limited i k e (changed_form u h p j i is f)

abbrev Goes : (Json → Result Json ℕ) → Type 0
Goes f = (j k : Json) → f j ≡ Ok k → IsWithin 127 j → IsWithin 127 k

then_within : (u : Json) → has_form u ≡ true → (p : List Token) (more : Json → Result Json ℕ) → Goes more → (j k : Json) (r : Result Json ℕ) → merged_at u p j ≡ r → (r >>= more) ≡ Ok k → IsWithin 127 j → IsWithin 127 k
then_within u h p more goes j k (Err rule) is e w = absurd (cc)
then_within u h p more goes j k (Ok i) is e w = goes i k e (merged_within u h p j i (changed (updated u) no_target p j) refl is w.form)

each_within : (u : Json) → has_form u ≡ true → (ps : Places) → Goes (merged_at_each u ps)
each_within u h [] j k e w = subst (IsWithin 127) (Ok_inj _ _ e) w
each_within u h (p ∷ ps) j k e w = then_within u h p (merged_at_each u ps) (each_within u h ps) j k (merged_at u p j) refl e w

unless_ok : (o : Option ℕ) (j k : Json) → unless o j ≡ Ok k → j ≡ k
unless_ok None j k e = Ok_inj _ _ e
unless_ok (Some rule) j k e = absurd (cc)

removed_within : (ps : Places) → Goes (removed ps)
removed_within ps j k e w =
    subst (IsWithin 127) (unless_ok (removal_rule ps j) _ k e) (record { form = without_form j ps w.form; nests = without-depth j ps 127 w.nests })

updated_within : (o : Option Json) → ((u : Json) → o ≡ Some u → has_form u ≡ true) → (ps : Places) → Goes (updated_at o ps)
updated_within None h ps j k e w = subst (IsWithin 127) (unless_ok (target_rule ps j) j k e) w
updated_within (Some u) h ps j k e w = each_within u (h u refl) (each_once ps) j k e w

done_by : (b : Bool) (action : Json) → has_form action ≡ true → (ps : Places) → Goes (λ j. cond b (removed ps j) (updated_at (update_of action) ps j))
done_by true action h ps j k e w = removed_within ps j k e w
done_by false action h ps j k e w = updated_within (update_of action) (λ u is. member_form (codes "update") action u is h) ps j k e w

-- an action at places
pub done_at-within : (action : Json) → has_form action ≡ true → (ps : Places) → Goes (done_at action ps)
done_at-within action h ps j k e w = done_by (removes action) action h ps j k e w

-- an action at what its target selects
done_within : (action : Json) → has_form action ≡ true → (j k : Json) (o : Outcome Places) → done_after action j o ≡ Some (Ok k) → IsWithin 127 j → IsWithin 127 k
done_within action h j k (given ps) e w = done_at-within action h ps j k (Some_inj _ _ e) w
done_within action h j k wide e w = absurd (cc)
done_within action h j k untold e w = absurd (cc)

abbrev Reaches : (Json → Option (Result Json Refusal)) → Type 0
Reaches f = (j k : Json) → f j ≡ Some (Ok k) → IsWithin 127 j → IsWithin 127 k

after_within : (label : List ℕ) (n : ℕ) (next : Json → Option (Result Json Refusal)) → Reaches next → (action : Json) → has_form action ≡ true → (told : Patterned) (j k : Json) (d : Option (Result Json ℕ)) → done told action j ≡ d
    → after_action label n next d ≡ Some (Ok k) → IsWithin 127 j → IsWithin 127 k
after_within label n next reaches action h told j k None is e w = absurd (cc)
after_within label n next reaches action h told j k (Some (Err rule)) is e w = absurd (cc)
after_within label n next reaches action h told j k (Some (Ok i)) is e w =
    reaches i k e (done_within action h j i (places (segments_of (target_of action)) (within told j)) is w)

-- the actions in order
pub overlaid_from-within : (told : Patterned) (label : List ℕ) (n : ℕ) (actions : List Json) → all_true (map has_form actions) ≡ true → Reaches (overlaid_from told label n actions)
overlaid_from-within told label n [] f j k e w = let is : j ≡ k = cc in subst (IsWithin 127) is w
overlaid_from-within told label n (action ∷ actions) f j k e w =
    after_within label n (overlaid_from told label (suc n) actions) (overlaid_from-within told label (suc n) actions (right (has_form action) _ f)) action (left _ _ f) told j k (done told action j) refl e w
