-- Components that are read once.
use Rattle.std.proofs.Common.{◌≡◌, ℕ, ◌<◌, Bool, true, false, cond, All, List, length, get_or, map, Option, Some, option_map, Result, Ok, Err, IfOk, MatchResult, refl, sym, ap, subst, ◌∙◌}
use Rattle.std.specs.Str.{bytes_eq}
use Rattle.std.specs.BTreeMap.{BTreeMap, get_by}
use Rattle.std.specs.Cmp.Lexicographic.{slice_cmp}
use Rattle.std.specs.Ordering.{nat_cmp}
use Rattle.std.specs.declared.alloc.Global.{Global}
use Rattle.std.specs.declared.rc.Rc.{Rc}
use Rattle.std.proofs.lemmas.List.{get_or-map, length-map}
use Rattle.std.proofs.lemmas.List.Elements.{All-get_or}
use Rattle.std.proofs.lemmas.Slice.Eq.{bytes_eq-Decides}
use denote.Ref.{Bor}
use Rattle.arz_json.specs.declared.tree.Json.{Json}
use Rattle.arz_components.specs.Described.{Components}
use Rattle.arz_components.specs.declared.components.Part.{Part}
use Rattle.arz_description.specs.Parts.{meant}
use Rattle.arz_actions.specs.Ready.{ready_of, IsTryable}
use Rattle.arz_actions.specs.Shared.{AreRead}
use Rattle.arz_actions.specs.declared.ready.Ready.{Ready}

-- one that was read is shared
pub shared_is : {E : Type 0} (Q : E → Type 0) (r : Result (Rc Ready Global) E) (ready known : Ready) → Some ready ≡ Some known → MatchResult r (λ rc. rc.value ≡ known) Q → IfOk r (λ rc. rc.value ≡ ready)
shared_is Q (Ok rc) ready known same h = cc
shared_is Q (Err e) ready known same h = tt

-- one component more is read
pub one_more : (find : List ℕ → Option Json) (old new : BTreeMap (Bor (List ℕ)) (Rc Ready Global)) (name : List ℕ) (component : Json) (rc : Rc Ready Global)
    → ((q : List ℕ) → get_by (λ k. slice_cmp nat_cmp q k.now) new ≡ cond (bytes_eq name q) (Some rc) (get_by (λ k. slice_cmp nat_cmp q k.now) old))
    → rc.value ≡ ready_of component → find name ≡ Some component → AreRead find old → AreRead find new
one_more find old new name component rc after is found before q ready e = by_name (bytes_eq name q) refl
  where
    here : (b : Bool) → bytes_eq name q ≡ b → option_map (λ r. r.value) (cond b (Some rc) (get_by (λ k. slice_cmp nat_cmp q k.now) old)) ≡ Some ready
    here b is_b = ap (λ c. option_map (λ r. r.value) (cond c (Some rc) (get_by (λ k. slice_cmp nat_cmp q k.now) old))) (sym is_b) ∙ ap (option_map (λ r. r.value)) (sym (after q)) ∙ e

    by_name : (b : Bool) → bytes_eq name q ≡ b → option_map ready_of (find q) ≡ Some ready
    by_name true same =
        ap (λ n. option_map ready_of (find n)) (sym ((bytes_eq-Decides name q).0 same))
        ∙ ap (option_map ready_of) found
        ∙ ap Some (sym is)
        ∙ here true same
    by_name false other = before q ready (here false other)

-- an item of a list whose actions can be tried
pub item_tryable : (find : Components) (part : Part) (items : List Json) (i : ℕ) (item : Json) → All IsTryable (map (meant find part) items) → i < length items → item ≡ get_or items i item → IsTryable (meant find part item)
item_tryable find part items i item all lt is =
    let at : i < length (map (meant find part) items) = rw (length-map items (meant find part)) lt in
    let there : IsTryable (get_or (map (meant find part) items) i item) = All-get_or IsTryable (map (meant find part) items) i item at all in
    subst IsTryable (get_or-map (meant find part) items i item item lt ∙ ap (meant find part) (sym is)) there
