-- ---- for private clauses: the first rule that fails
use Rattle.std.specs.Prelude.{ℕ, ◌==◌, nat_lt, nat_le, List, [], ◌∷◌, map, Bool, Option, Some, None, option_map, Result, Ok, Err, if◌then◌else◌}
use Rattle.arz_json.specs.declared.tree.Json.{Json}
use Rattle.arz_json.specs.declared.place.Token.{Token}
use Rattle.arz_json.specs.declared.place.Token.TheVariants.{Name}
use Rattle.arz_rules.specs.Place.{lesser as lesser_place}
use Rattle.arz_rules.specs.Sites.{Check}
use Rattle.arz_rules.specs.Phases.{Failure, first_failure}
use Rattle.arz_components.specs.Described.{Components}
use Rattle.arz_sources.specs.declared.failures.Failure as failures
use Rattle.arz_openapi.specs.Targets.{Target, Targets}
use Rattle.arz_sources.specs.Rules.{lost_call, unserved, unfilled, naming_member, is_served, is_filled}

abbrev pub seen_failure : failures.Failure → Failure
seen_failure f = (f.rule, f.place.tokens)

abbrev pub numbers : List ℕ
numbers = 3 ∷ 8 ∷ 17 ∷ 18 ∷ 19 ∷ 20 ∷ 21 ∷ []

-- where a step fails the rule with a number
unfoldable pub fails : ℕ → Targets → Components → (List ℕ → Bool) → Check
fails rule find component workflow step =
    if rule == 20 then unserved find step
    else (if rule == 21 then unfilled find component workflow step else lost_call rule find step)

-- the first failure, by the places at which each rule fails
unfoldable pub first_of : (ℕ → List (List Token)) → Option Failure
first_of places = first_failure (map (λ rule. (rule, places rule)) numbers)

-- ---- the lesser of two failures

abbrev pub placed : ℕ → Option (List Token) → Option Failure
placed rule place = option_map (λ p. (rule, p)) place

abbrev pub lesser_of : Failure → Failure → Option Failure
lesser_of p q =
    if p.0 == q.0 then placed p.0 (lesser_place (Some p.1) (Some q.1))
    else (if nat_lt q.0 p.0 then Some q else Some p)

abbrev pub lesser_failure : Option Failure → Option Failure → Option Failure
lesser_failure None q = q
lesser_failure (Some p) None = Some p
lesser_failure (Some p) (Some q) = lesser_of p q

abbrev pub under_failure : Token → Option Failure → Option Failure
under_failure t f = option_map (λ p. (p.0, t ∷ p.1)) f

-- ---- the rule that a step fails

abbrev pub target_rule : (List ℕ → Bool) → Target → Option ℕ
target_rule given target = if is_served target then (if is_filled given target then None else Some 21) else Some 20

abbrev pub rule_by : (List ℕ → Bool) → Result (Option Target) ℕ → Option ℕ
rule_by given (Ok (Some target)) = target_rule given target
rule_by given (Ok None) = None
rule_by given (Err rule) = Some rule

-- rules 20 and 21 are told at the step
abbrev pub place_at : ℕ → Json → List Token
place_at rule step = if nat_le 20 rule then [] else Name (naming_member step) ∷ []
