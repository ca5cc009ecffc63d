-- Dependencies that are looked through for the first that isn't recorded.
use Rattle.std.proofs.Common.{◌≡◌, ℕ, suc, ◌+◌, ◌<◌, Bool, true, false, List, [], ◌∷◌, length, get_or, drop, map, refl, sym, ap, ◌∙◌, subst, arith}
use Rattle.std.specs.Prelude.{if◌then◌else◌}
use Rattle.std.proofs.lemmas.List.{drop_more, get_or-map, length-map}
use Rattle.arz_json.specs.declared.Json.{Json}
use Rattle.arz_description.specs.Parts.{text_in_item}
use Rattle.arz_scope.specs.declared.facts.Completion.{Completion}
use Rattle.arz_relation.specs.Cases.{is_recorded}
use Rattle.arz_runs.specs.Fronts.{unrecorded}

module _ (done : List Completion) (items : List Json) (i : ℕ) (item : Json) (below : i < length items) (is : item ≡ get_or items i item) where
  abbrev texts : List (List ℕ)
  texts = map text_in_item items

  pub inside : i < length texts
  inside = omega (arith, length-map items text_in_item)

  here : get_or texts i [] ≡ text_in_item item
  here = get_or-map text_in_item items i item [] below ∙ ap text_in_item (sym is)

  pub from_here : drop i texts ≡ text_in_item item ∷ drop (i + 1) texts
  from_here = drop_more texts i [] inside ∙ ap (λ w. w ∷ drop (i + 1) texts) here

  by_known : (known : Bool) → is_recorded (text_in_item item) done ≡ known
      → unrecorded done (drop i texts) ≡ (if known then unrecorded done (drop (i + 1) texts) else text_in_item item ∷ drop (i + 1) texts)
  by_known known e =
      ap (unrecorded done) from_here
      ∙ ap (λ b. if b then unrecorded done (drop (i + 1) texts) else text_in_item item ∷ drop (i + 1) texts) e

  -- one that is recorded is passed over
  pub goes_past : is_recorded (text_in_item item) done ≡ true → unrecorded done (drop (i + 1) texts) ≡ unrecorded done (drop i texts)
  goes_past e = sym (by_known true e)

  -- one that isn't is the next
  pub stops_here : is_recorded (text_in_item item) done ≡ false → unrecorded done (drop i texts) ≡ drop i texts
  stops_here e = by_known false e ∙ sym from_here

-- the next one, and those after it
pub next_is : (done : List Completion) (items : List Json) (from i : ℕ) (item : Json) (w : List ℕ) (ws : List (List ℕ)) → i < length (map text_in_item items) → item ≡ get_or items i item → w ≡ text_in_item item → map text_in_item items ≡ ws
    → unrecorded done (drop from (map text_in_item items)) ≡ drop i (map text_in_item items) → unrecorded done (drop from ws) ≡ w ∷ drop (i + 1) ws
next_is done items from i item w ws lt is text same e =
    let below : i < length items = omega (arith, length-map items text_in_item) in
    subst (λ l. unrecorded done (drop from l) ≡ w ∷ drop (i + 1) l) same (e ∙ from_here done items i item below is ∙ ap (λ t. t ∷ drop (i + 1) (map text_in_item items)) (sym text))
