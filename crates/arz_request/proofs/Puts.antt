-- What a put that nests too deep answers is what the definition of a replacement says.
use Rattle.std.proofs.Common.{◌≡◌, ◌≤◌, ◌<◌, ℕ, List, Bool, true, false, nat_le, Option, Some, None, option_map, ok_or, Result, Ok, Err, refl, ⊎_elim, arith}
use Rattle.std.specs.Prelude.{IsOk, IsSomeAnd}
use Rattle.std.proofs.lemmas.Bool.{leb-true, false≢true}
use Rattle.std.proofs.lemmas.Bool.Decides.{leb_tells}
use Rattle.arz_json.specs.Answer.{◌>>=◌}
use Rattle.arz_json.specs.Pointer.{named}
use Rattle.arz_json.specs.Put.{traded, with_value, put_depth}
use Rattle.arz_json.specs.Tree.{depth}
use Rattle.arz_json.specs.declared.Json.{Json}
use Rattle.arz_json.specs.declared.placing.PutFault.{PutFault}
use Rattle.arz_json.specs.declared.placing.PutFault.TheVariants.{NoPlace, TooNested as NestsTooDeep}
use Rattle.arz_json.proofs.Trades.{none_named}
use Rattle.arz_request.specs.Payloads.{within_depth, replaced}
use Rattle.arz_request.specs.declared.cause.Cause.TheVariants.{TooNested, PayloadTarget}

too-deep : (j : Json) (b : Bool) → nat_le (depth j) put_depth ≡ b → put_depth < depth j → within_depth j ≡ Err TooNested
too-deep j true e h = absurd (omega (arith, leb-true (depth j) put_depth e))
too-deep j false e h = rw e refl

no-trade : (t : Option (Json × Json)) → option_map (λ r. r.0) t ≡ None → t ≡ None
no-trade None e = refl
no-trade (Some t) e = absurd (cc)

not-ok : {X E : Type 0} (r : Result X E) (fault : E) → r ≡ Err fault → IsOk r → ⊥
not-ok (Ok x) fault is ok = absurd (cc)
not-ok (Err e) fault is ok = false≢true ok

nested : {X : Type 0} (w : Option Json) (r : Result X PutFault) (x value : Json) → r ≡ Err (NestsTooDeep x) → (IsSomeAnd w (λ j. depth j ≤ put_depth) → IsOk r)
    → (w ≡ None → r ≡ Err (NoPlace value)) → (ok_or w PayloadTarget >>= within_depth) ≡ Err TooNested
nested None r x value is ok none = let e : r ≡ Err (NoPlace value) = none refl in absurd (cc)
nested (Some j) r x value is ok none =
    ⊎_elim (λ low. absurd (not-ok r (NestsTooDeep x) is (ok low.1))) (λ high. too-deep j (nat_le (depth j) put_depth) refl high.1) (leb_tells (depth j) put_depth)

pub put-nested : {X : Type 0} (target : List ℕ) (payload value : Json) (r : Result X PutFault) (x : Json) → r ≡ Err (NestsTooDeep x)
    → (IsSomeAnd (with_value value target payload) (λ j. depth j ≤ put_depth) → IsOk r)
    → (named target payload ≡ None → r ≡ Err (NoPlace value)) → replaced target payload value ≡ Err TooNested
put-nested target payload value r x is ok none =
    nested (with_value value target payload) r x value is ok (λ e. none (none_named value target payload (no-trade (traded value target payload) e)))
