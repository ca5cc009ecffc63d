-- What an expression finds nests no deeper than what it is looked up in.
use Rattle.std.proofs.Common.{◌≡◌, ◌≤◌, ℕ, List, [], ◌∷◌, Option, Some, None, slice_get, IfSome, Bor, sym, subst}
use Rattle.std.specs.Option.{option_copied}
use Rattle.std.proofs.lemmas.Option.{option_and_then_some, same_Some}
use Rattle.arz_json.specs.Tree.{depth, IsWithin, IsWellFormed}
use Rattle.arz_json.specs.Look.{list_in}
use Rattle.arz_json.specs.declared.tree.Json.{Json}
use Rattle.arz_json.proofs.Parts.{IsWithin-item, IsWithin-list_in, IsWithin-member_in}
use Rattle.arz_expr.specs.Values.{step_in, steps_in}
use Rattle.arz_expr.specs.declared.syntax.Tail.{Tail}
use Rattle.arz_expr.specs.declared.syntax.Tail.TheVariants.{Member as MemberStep, Index}

module _ (n : ℕ) where
  step-within : (t : Tail) (j k : Json) → step_in t j ≡ Some k → IsWithin n j → IsWithin n k
  step-within (MemberStep name) j k e w = IsWithin-member_in n name j k e w
  step-within (Index i) j k e w =
      option_and_then_some (λ js. slice_get js i) (list_in j) k e (λ js got at. IsWithin-item n js i k at (IsWithin-list_in n j js got w))

  -- the steps of a tail lead to nothing deeper
  pub steps-within : (ts : List Tail) (j k : Json) → steps_in ts j ≡ Some k → IsWithin n j → IsWithin n k
  steps-within [] j k e w = subst (IsWithin n) (same_Some j k e) w
  steps-within (t ∷ ts) j k e w =
      option_and_then_some (steps_in ts) (step_in t j) k e (λ l stepped rest. steps-within ts l k rest (step-within t j l stepped w))

pub steps-well_formed : (ts : List Tail) (j k : Json) → steps_in ts j ≡ Some k → IsWellFormed j → IsWellFormed k
steps-well_formed ts j k e w = steps-within 130 ts j k e w

pub found-well_formed : (r : Option (Bor Json)) (o : Option Json) → option_copied r ≡ o → ((k : Json) → o ≡ Some k → IsWellFormed k) → IfSome r (λ j. IsWellFormed j.now)
found-well_formed None o e h = tt
found-well_formed (Some b) o e h = h b.now (sym e)

pub found-nests : (n : ℕ) (r : Option (Bor Json)) (o : Option Json) → option_copied r ≡ o → ((k : Json) → o ≡ Some k → IsWithin n k) → IfSome r (λ j. depth j.now ≤ n)
found-nests n None o e h = tt
found-nests n (Some b) o e h = (h b.now (sym e)).nests
