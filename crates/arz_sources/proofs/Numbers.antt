-- The rules that a call fails are among those that are listed, and the first rule that a step fails.
use Rattle.std.proofs.Common.{◌≡◌, ℕ, ◌||◌, map, List, [], ◌∷◌, Option, Some, None, option_map, Result, Ok, Err, Bool, true, false, cond, inl, inr, ◌⊎◌, refl, sym, subst, arith}
use Rattle.std.specs.Prelude.{min, ◌==◌, nat_le}
use Rattle.std.proofs.Math.Nat.{min-eq_right}
use Rattle.std.proofs.lemmas.Bool.{cases_lt}
use Rattle.std.specs.Option.{option_to_list, option_and_then}
use Rattle.std.specs.List.{filter_map, cons_option}
use Rattle.arz_json.specs.declared.tree.Json.{Json}
use Rattle.arz_json.specs.Look.{list_in}
use Rattle.arz_json.specs.declared.place.Token.{Token}
use Rattle.arz_json.specs.declared.place.Token.TheVariants.{Name}
use Rattle.arz_rules.specs.Misses.{misses, are_none}
use Rattle.arz_rules.specs.Place.{under, here, here_unless}
use Rattle.arz_rules.specs.Phases.{Failure, first_failure}
use Rattle.arz_rules.specs.declared.kinds.Kind.{Kind}
use Rattle.arz_rules.specs.declared.kinds.Kind.TheVariants as kind
use Rattle.arz_operation.specs.References.{meant}
use Rattle.arz_operation.specs.Named.{Standing}
use Rattle.arz_operation.specs.declared.references.Lost.{Lost}
use Rattle.arz_operation.specs.declared.references.Lost.TheVariants.{NotText, Unknown, Outer, TooLong}
use Rattle.arz_openapi.specs.Parts.{lost_rule, lesser_rule, kind_rule, part_rule, items_rule, list_rule, parameters_by, parameters_rule, body_by, body_rule, operation_rule}
use Rattle.arz_components.specs.Described.{Components}
use Rattle.arz_description.specs.Calls.{call_of}
use Rattle.arz_operation.specs.declared.types.Call.{Call}
use Rattle.arz_operation.specs.declared.types.Call.TheVariants.{Id, At, Flow}
use Rattle.arz_openapi.specs.Called.{Lookup, with_id, at_pointer}
use Rattle.arz_openapi.specs.Targets.{Target, Targets, unless_flow}
use Rattle.arz_sources.specs.Rules.{naming_member, is_served, is_filled, gives, is_rule, rule_in, passes, in_workflows, rules_by}
use Rattle.arz_sources.specs.Served.{Served, outcome_at, outcome_by, asked, outcomes, only_of, found_in, source_in_map, seen_source}
use Rattle.arz_sources.specs.Failures.{fails, first_of, numbers, rule_by, place_at}
use Rattle.arz_sources.specs.declared.sources.Sources.{Sources}

-- a number of a rule that a call may fail
abbrev IsListed : ℕ → Type 0
IsListed n = (n ≡ 3) ⊎ ((n ≡ 8) ⊎ ((n ≡ 17) ⊎ ((n ≡ 18) ⊎ (n ≡ 19))))

abbrev OptionListed : Option ℕ → Type 0
OptionListed None = Unit
OptionListed (Some n) = IsListed n

lost_listed : (lost : Lost) → IsListed (lost_rule lost)
lost_listed NotText = inl refl
lost_listed Unknown = inr (inl refl)
lost_listed Outer = inr (inr (inr (inl refl)))
lost_listed TooLong = inr (inr (inr (inr refl)))

min_cases : (a b : ℕ) → (min a b ≡ a) ⊎ (min a b ≡ b)
min_cases a b = elim (cases_lt a b) as (λ _. (min a b ≡ a) ⊎ (min a b ≡ b)) [ inl h ↦ inl (omega arith) | inr h ↦ inr (min-eq_right h) ]

lesser_listed : (a b : Option ℕ) → OptionListed a → OptionListed b → OptionListed (lesser_rule a b)
lesser_listed None b p q = q
lesser_listed (Some r) None p q = p
lesser_listed (Some r) (Some s) p q = elim (min_cases r s) [ inl e ↦ subst IsListed (sym e) p | inr e ↦ subst IsListed (sym e) q ]

miss_listed : (b : Bool) → OptionListed (cond b None (Some 3))
miss_listed true = tt
miss_listed false = inl refl

kind_listed : (k : Kind) (found : Result Json Lost) → OptionListed (kind_rule k found)
kind_listed k (Err lost) = lost_listed lost
kind_listed k (Ok j) = miss_listed (are_none (misses j k))

items_listed : (root : Json) (js : List Json) → OptionListed (items_rule root js)
items_listed root [] = tt
items_listed root (j ∷ js) = lesser_listed (part_rule kind.OperationParameter root j) (items_rule root js) (kind_listed kind.OperationParameter (meant root j)) (items_listed root js)

list_listed : (root : Json) (o : Option (List Json)) → OptionListed (list_rule root o)
list_listed root None = inl refl
list_listed root (Some js) = items_listed root js

parameters_listed : (root : Json) (o : Option Json) → OptionListed (parameters_by root o)
parameters_listed root None = tt
parameters_listed root (Some j) = list_listed root (list_in j)

body_listed : (root : Json) (o : Option Json) → OptionListed (body_by root o)
body_listed root None = tt
body_listed root (Some j) = kind_listed kind.OperationBody (meant root j)

operation_listed : (root : Json) (s : Standing) → OptionListed (operation_rule root s)
operation_listed root s =
    lesser_listed (parameters_rule root s.item) (lesser_rule (parameters_rule root s.operation) (body_rule root s.operation))
    (parameters_listed root _)
    (lesser_listed (parameters_rule root s.operation) (body_rule root s.operation) (parameters_listed root _) (body_listed root _))

-- ---- of what is found

abbrev ResultListed : {A : Type 0} → Result A ℕ → Type 0
ResultListed (Ok a) = Unit
ResultListed (Err n) = IsListed n

abbrev AllListed : List (Result Target ℕ) → Type 0
AllListed [] = Unit
AllListed (r ∷ rs) = ResultListed r × AllListed rs

outcome_listed : (o : Option ℕ) (t : Target) → OptionListed o → ResultListed (outcome_by o t)
outcome_listed None t h = tt
outcome_listed (Some n) t h = h

one_listed : (source : Served) (o : Option Standing) → AllListed (option_to_list (option_map (outcome_at source) o))
one_listed source None = tt
one_listed source (Some s) = (outcome_listed (operation_rule source.root s) _ (operation_listed source.root s), tt)

consed : (source : Served) (o : Option Standing) (rest : List (Result Target ℕ)) → AllListed rest → AllListed (cons_option (option_map (outcome_at source) o) rest)
consed source None rest h = h
consed source (Some s) rest h = (outcome_listed (operation_rule source.root s) _ (operation_listed source.root s), h)

each_listed : (look : Lookup) (sources : List Served) → AllListed (filter_map (asked look) sources)
each_listed look [] = tt
each_listed look (s ∷ sources) = consed s (look s.root) (filter_map (asked look) sources) (each_listed look sources)

named_listed : (look : Lookup) (o : Option Served) → AllListed (option_to_list (option_and_then (asked look) o))
named_listed look None = tt
named_listed look (Some source) = one_listed source (look source.root)

outcomes_listed : (sources : List Served) (named : List ℕ → Option Served) (call : Call) → AllListed (outcomes sources named call)
outcomes_listed sources named (Id None id) = each_listed (with_id id) sources
outcomes_listed sources named (Id (Some name) id) = named_listed (with_id id) (named name)
outcomes_listed sources named (At name pointer) = named_listed (at_pointer pointer) (named name)
outcomes_listed sources named (Flow id) = tt

only_listed : (rs : List (Result Target ℕ)) → AllListed rs → ResultListed (only_of rs)
only_listed [] h = inr (inl refl)
only_listed (r ∷ []) h = h.0
only_listed (r ∷ s ∷ rs) h = inr (inr (inl refl))

flow_listed : (call : Call) (r : Result Target ℕ) → ResultListed r → ResultListed (unless_flow call r)
flow_listed (Id o id) (Ok t) h = tt
flow_listed (Id o id) (Err n) h = h
flow_listed (At s p) (Ok t) h = tt
flow_listed (At s p) (Err n) h = h
flow_listed (Flow id) r h = tt

found_listed : (sources : Sources) (call : Call) → ResultListed (found_in sources call)
unfolding found_in
found_listed sources call =
    let ss = map seen_source sources.list.now in
    let named = source_in_map sources.names in
    flow_listed call (only_of (outcomes ss named call)) (only_listed (outcomes ss named call) (outcomes_listed ss named call))

-- ---- the first rule that a step fails

-- where a step fails each rule, by what its call comes to
abbrev at_call : Result (Option Target) ℕ → (given : List ℕ → Bool) → (member : List ℕ) → ℕ → List (List Token)
at_call r given member n =
    cond (n == 20) (here_unless (passes is_served r)) (cond (n == 21) (here_unless (passes (is_filled given) r)) (cond (is_rule n (rule_in r)) (under (Name member) here) []))

abbrev at_rule : List ℕ → ℕ → Failure
at_rule member n = (n, cond (nat_le 20 n) [] (Name member ∷ []))

of_target : (member : List ℕ) (served filled : Bool)
    → first_failure ((3, []) ∷ (8, []) ∷ (17, []) ∷ (18, []) ∷ (19, []) ∷ (20, here_unless served) ∷ (21, here_unless filled) ∷ []) ≡ option_map (at_rule member) (cond served (cond filled None (Some 21)) (Some 20))
of_target member true true = refl
of_target member true false = refl
of_target member false b = refl

first_by_call : (r : Result (Option Target) ℕ) (given : List ℕ → Bool) (member : List ℕ) → ResultListed r
    → first_failure (map (λ n. (n, at_call r given member n)) numbers) ≡ option_map (at_rule member) (rule_by given r)
first_by_call (Ok None) given member h = refl
first_by_call (Ok (Some t)) given member h = of_target member (is_served t) (is_filled given t)
first_by_call (Err n) given member h =
    let P : ℕ → Type 0 = λ n. first_failure (map (λ m. (m, at_call (Err n) given member m)) numbers) ≡ Some (at_rule member n) in
    elim h as (λ _. P n) [
      | inl e ↦ subst P (sym e) refl
      | inr (inl e) ↦ subst P (sym e) refl
      | inr (inr (inl e)) ↦ subst P (sym e) refl
      | inr (inr (inr (inl e))) ↦ subst P (sym e) refl
      | inr (inr (inr (inr e))) ↦ subst P (sym e) refl
    ]

pub first-step : (sources : Sources) (component : Components) (workflow : List ℕ → Bool) (step : Json)
    → first_of (λ rule. fails rule (found_in sources) component workflow step)
    ≡ option_map (λ rule. (rule, place_at rule step)) (rule_by (λ name. gives component step name || workflow name) (found_in sources (call_of step)))
unfolding first_of fails
first-step sources component workflow step =
    first_by_call (found_in sources (call_of step)) (λ name. gives component step name || workflow name) (naming_member step) (found_listed sources (call_of step))

pub first-rules : (find : Targets) (component : Components) (description : Json)
    → first_of (λ rule. in_workflows (λ workflow. fails rule find component (gives component workflow)) description) ≡ first_failure (rules_by find component description)
unfolding first_of fails
first-rules find component description = refl
