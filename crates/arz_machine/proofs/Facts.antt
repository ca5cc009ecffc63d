-- What the parts of a run give.
use Rattle.std.proofs.Common.{◌≡◌, ◌-◌, List, [], ◌∷◌, ◌++◌, length, length-append, take, ap, ◌∙◌, arith}
use Rattle.std.proofs.lemmas.Option.{slice_get-get_or}
use Rattle.arz_json.specs.Tree.{IsWithin}
use Rattle.arz_json.specs.declared.Json.TheVariants.{Object}
use Rattle.arz_json.specs.declared.Member.{Member}
use Rattle.arz_json.proofs.Parts.{IsWithin-value}
use Rattle.arz_scope.specs.Shallow.{AreShallow}

-- the members of a shallow object
pub shallow_members : (ms : List Member) → IsWithin 127 (Object ms) → AreShallow ms
shallow_members ms w = λ k d lt. IsWithin-value 127 ms k _ (slice_get-get_or ms k d lt) w

-- an item is added and taken away again
pub added_taken : {X : Type 0} (xs ys zs : List X) (x : X) → ys ≡ xs ++ x ∷ [] → zs ≡ take (length ys - 1) ys → zs ≡ xs
added_taken xs ys zs x added taken =
    taken ∙ ap (λ l. take (length l - 1) l) added ∙ ap (λ n. take n (xs ++ x ∷ [])) (omega (arith, length-append xs (x ∷ []))) ∙ take_front xs (x ∷ [])
  where
    take_front : {Y : Type 0} (front back : List Y) → take (length front) (front ++ back) ≡ front
    take_front [] back = search
    take_front (a ∷ front) back = ap (λ l. a ∷ l) (take_front front back)
