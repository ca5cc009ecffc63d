-- What is found in the sources as the code holds them is what the calls come to.
use Rattle.std.proofs.Common.{◌≡◌, ℕ, ◌+◌, ◌<◌, List, [], ◌∷◌, ◌++◌, length, get_or, drop, map, Option, Some, None, option_map, Result, Ok, Err, Bool, true, false, cond, refl, ap, ap₂, ◌∙◌, codes}
use Rattle.std.specs.Option.{option_to_list, option_and_then}
use Rattle.std.specs.List.{filter_map, cons_option}
use Rattle.std.specs.Str.{bytes_eq}
use Rattle.arz_json.specs.declared.tree.Json.{Json}
use Rattle.arz_json.specs.Look.{text_at}
use Rattle.arz_components.specs.Texts.{text_named}
use Rattle.arz_description.specs.Calls.{source_and_id, source_and_pointer, operation_with, operation_at, named_in as call_named, placed_in, call_by, call_of}
use Rattle.arz_json.specs.declared.tree.Named.{Named}
use Rattle.arz_json.specs.declared.tree.NamedText.{NamedText}
use Rattle.arz_json.specs.declared.tree.Refusal.{Refusal}
use Rattle.arz_rules.proofs.Steps.{rest_of}
use Rattle.arz_sources.specs.declared.sources.Source.{Source}
use Rattle.arz_operation.specs.Named.{Standing, operation_of}
use Rattle.arz_operation.specs.declared.types.Operation.{Operation}
use Rattle.arz_openapi.specs.Parts.{operation_rule, found}
use Rattle.arz_operation.specs.declared.types.Call.{Call}
use Rattle.arz_operation.specs.declared.types.Call.TheVariants.{Id, At, Flow}
use Rattle.arz_openapi.specs.Called.{Called, Lookup, called_at, with_id, at_pointer, in_source, in_named, source_named, candidates, unless_fails, accepted, only}
use Rattle.arz_openapi.specs.Targets.{Target, target_of, seen_at, unless_flow, targets}
use Rattle.arz_sources.specs.Served.{Served, served, seen_source, source_in_map, one_of, outcome_by, outcome_at, shown, asked, asked_named, named_in, outcomes, only_of, found_by, found_in}
use Rattle.arz_sources.specs.declared.sources.Sources.{Sources}

abbrev shows : List NamedText → Called → Result Target ℕ
shows servers c = seen_at (target_of servers) (accepted c)

accepted_by : (servers : List NamedText) (n : Named) (s : Standing) (o : Option ℕ)
    → outcome_by o (shown (served servers n) (operation_of n.root s)) ≡ seen_at (target_of servers) (unless_fails (called_at n s) o)
accepted_by servers n s None = refl
accepted_by servers n s (Some rule) = refl

found_one : (servers : List NamedText) (n : Named) (o : Option Standing) → option_map (outcome_at (served servers n)) o ≡ option_map (shows servers) (option_map (called_at n) o)
found_one servers n None = refl
found_one servers n (Some s) = ap Some (accepted_by servers n s (operation_rule n.root s))

asked_one : (servers : List NamedText) (look : Lookup) (n : Named) → asked look (served servers n) ≡ option_map (shows servers) (in_source look n)
asked_one servers look n = found_one servers n (look n.root)

consed : (servers : List NamedText) (o : Option Called) (cs : List Called) → cons_option (option_map (shows servers) o) (map (shows servers) cs) ≡ map (shows servers) (cons_option o cs)
consed servers None cs = refl
consed servers (Some c) cs = refl

asked_each : (servers : List NamedText) (look : Lookup) (sources : List Named)
    → filter_map (asked look) (map (served servers) sources) ≡ map (shows servers) (filter_map (in_source look) sources)
asked_each servers look [] = refl
asked_each servers look (n ∷ sources) =
    ap (λ o. cons_option o (filter_map (asked look) (map (served servers) sources))) (asked_one servers look n)
    ∙ ap (cons_option (option_map (shows servers) (in_source look n))) (asked_each servers look sources)
    ∙ consed servers (in_source look n) (filter_map (in_source look) sources)

either : (servers : List NamedText) (b : Bool) (n : Named) (o : Option Named) → cond b (Some (served servers n)) (option_map (served servers) o) ≡ option_map (served servers) (cond b (Some n) o)
either servers true n o = refl
either servers false n o = refl

named_one : (servers : List NamedText) (name : List ℕ) (sources : List Named) → named_in (map (served servers) sources) name ≡ option_map (served servers) (source_named sources name)
named_one servers name [] = refl
named_one servers name (n ∷ sources) =
    ap (cond (bytes_eq n.name name) (Some (served servers n))) (named_one servers name sources)
    ∙ either servers (bytes_eq n.name name) n (source_named sources name)

listed : (servers : List NamedText) (o : Option Called) → option_to_list (option_map (shows servers) o) ≡ map (shows servers) (option_to_list o)
listed servers None = refl
listed servers (Some c) = refl

asked_of : (servers : List NamedText) (look : Lookup) (o : Option Named)
    → option_to_list (option_and_then (asked look) (option_map (served servers) o)) ≡ map (shows servers) (option_to_list (option_and_then (in_source look) o))
asked_of servers look None = refl
asked_of servers look (Some n) = ap option_to_list (asked_one servers look n) ∙ listed servers (in_source look n)

asked_by_name : (servers : List NamedText) (sources : List Named) (name : List ℕ) (look : Lookup)
    → asked_named (named_in (map (served servers) sources)) name look ≡ map (shows servers) (in_named sources name look)
asked_by_name servers sources name look =
    ap (λ o. option_to_list (option_and_then (asked look) o)) (named_one servers name sources) ∙ asked_of servers look (source_named sources name)

outcomes_same : (servers : List NamedText) (sources : List Named) (call : Call)
    → outcomes (map (served servers) sources) (named_in (map (served servers) sources)) call ≡ map (shows servers) (candidates sources call)
outcomes_same servers sources (Id None id) = asked_each servers (with_id id) sources
outcomes_same servers sources (Id (Some name) id) = asked_by_name servers sources name (with_id id)
outcomes_same servers sources (At name pointer) = asked_by_name servers sources name (at_pointer pointer)
outcomes_same servers sources (Flow id) = refl

only_same : (servers : List NamedText) (cs : List Called) → only_of (map (shows servers) cs) ≡ seen_at (target_of servers) (only cs)
only_same servers [] = refl
only_same servers (c ∷ []) = refl
only_same servers (c ∷ d ∷ cs) = refl

found_same : (servers : List NamedText) (sources : List Named) (call : Call)
    → found_by (map (served servers) sources) (named_in (map (served servers) sources)) call ≡ targets sources servers call
unfolding targets
found_same servers sources call = ap (unless_flow call) (ap only_of (outcomes_same servers sources call) ∙ only_same servers (candidates sources call))

found-served : (s : Sources) (servers : List NamedText) (sources : List Named)
    → map seen_source s.list.now ≡ map (served servers) sources
    → ((q : List ℕ) → source_in_map s.names q ≡ named_in (map (served servers) sources) q)
    → found_in s ≡ targets sources servers
unfolding found_in
found-served s servers sources list names =
    (λ i. found_by (list i) (λ q. names q i)) ∙ (λ i call. found_same servers sources call i)

-- sources that were read, and are found by their names
pub found-targets : (s : Sources) (servers : List NamedText) (sources : List Named) (list : List Source)
    → map seen_source list ≡ map (served servers) sources
    → map seen_source s.list.now ≡ map seen_source list
    → ((q : List ℕ) → source_in_map s.names q ≡ named_in (map seen_source list) q)
    → found_in s ≡ targets sources servers
found-targets s servers sources list are same names =
    found-served s servers sources (same ∙ are) (λ q. names q ∙ ap (λ xs. named_in xs q) are)

-- ---- what is found for the text of a step

pub found-id : (s : Sources) (text name id : List ℕ) → source_and_id text ≡ Some (name, id)
    → found_in s (operation_with text) ≡ seen_at Some (only_of (asked_named (source_in_map s.names) name (with_id id)))
unfolding found_in
found-id s text name id e = ap (λ o. found_by (map seen_source s.list.now) (source_in_map s.names) (call_named text o)) e

pub found-anywhere : (s : Sources) (text : List ℕ) → source_and_id text ≡ None
    → found_in s (operation_with text) ≡ seen_at Some (only_of (filter_map (asked (with_id text)) (map seen_source s.list.now)))
unfolding found_in
found-anywhere s text e = ap (λ o. found_by (map seen_source s.list.now) (source_in_map s.names) (call_named text o)) e

pub found-path : (s : Sources) (text name pointer : List ℕ) → source_and_pointer text ≡ Some (name, pointer)
    → found_in s (operation_at text) ≡ seen_at Some (only_of (asked_named (source_in_map s.names) name (at_pointer pointer)))
unfolding found_in
found-path s text name pointer e = ap (λ o. found_by (map seen_source s.list.now) (source_in_map s.names) (placed_in text o)) e

pub found-nowhere : (s : Sources) (text : List ℕ) → source_and_pointer text ≡ None
    → found_in s (operation_at text) ≡ seen_at Some (only_of (asked_named (source_in_map s.names) [] (at_pointer text)))
unfolding found_in
found-nowhere s text e = ap (λ o. found_by (map seen_source s.list.now) (source_in_map s.names) (placed_in text o)) e

pub found-flow : (s : Sources) (step : Json) → text_named (codes "operationId") step ≡ None → text_named (codes "operationPath") step ≡ None
    → found_in s (call_of step) ≡ Ok None
unfolding found_in
found-flow s step a b =
    ap₂ (λ (id path : Option (List ℕ)). found_by (map seen_source s.list.now) (source_in_map s.names) (call_by id path (text_at (codes "workflowId") step))) a b

-- ---- what an answer says

-- what a call answers of a source, in the place of what it finds
abbrev Told : Served → Result (Option Operation) Refusal → Option (Result Target ℕ) → Type 0
Told source (Ok None) o = o ≡ None
Told source (Ok (Some operation)) o = o ≡ Some (Ok (shown source operation))
Told source (Err r) o = o ≡ Some (Err r.rule)

told_by : (source : Served) (s : Standing) (o : Option ℕ) → operation_rule source.root s ≡ o → Told source (found source.root (Some s)) (Some (outcome_by o (shown source (operation_of source.root s))))
told_by source s None e = rw e refl
told_by source s (Some rule) e = rw e refl

told : (source : Served) (s : Option Standing) → Told source (found source.root s) (option_map (outcome_at source) s)
told source None = refl
told source (Some s) = told_by source s (operation_rule source.root s) refl

pub told-none : (source : Served) (s : Option Standing) → found source.root s ≡ Ok None → option_map (outcome_at source) s ≡ None
told-none source s e = rw e at (told source s)

pub told-operation : (source : Served) (s : Option Standing) (operation : Operation) → found source.root s ≡ Ok (Some operation) → option_map (outcome_at source) s ≡ Some (Ok (shown source operation))
told-operation source s operation e = rw e at (told source s)

pub told-rule : (source : Served) (s : Option Standing) (r : Refusal) → found source.root s ≡ Err r → option_map (outcome_at source) s ≡ Some (Err r.rule)
told-rule source s r e = rw e at (told source s)

-- ---- one source more

consed-list : {A : Type 0} (o : Option A) (xs : List A) → cons_option o xs ≡ option_to_list o ++ xs
consed-list None xs = refl
consed-list (Some x) xs = refl

-- what is found so far, in the next source, and in those behind it
pub one_more : (ask : Served → Option (Result Target ℕ)) (total : Result Target ℕ) (found : Option (Result Target ℕ)) (sources : List Source) (i : ℕ) (s : Source)
    → total ≡ only_of (option_to_list found ++ filter_map ask (map seen_source (drop i sources)))
    → i < length sources → s ≡ get_or sources i s
    → total ≡ only_of (option_to_list found ++ (option_to_list (ask (seen_source s)) ++ filter_map ask (map seen_source (drop (i + 1) sources))))
one_more ask total found sources i s before h is =
    before
    ∙ ap (λ (rest : List Source). only_of (option_to_list found ++ filter_map ask (map seen_source rest))) (rest_of sources i s h is)
    ∙ ap (λ rest. only_of (option_to_list found ++ rest)) (consed-list (ask (seen_source s)) (filter_map ask (map seen_source (drop (i + 1) sources))))

pub both_found : (a b c : Option (Result Target ℕ)) (rest : List (Result Target ℕ)) → one_of a b ≡ Ok c → only_of (option_to_list a ++ (option_to_list b ++ rest)) ≡ only_of (option_to_list c ++ rest)
both_found None b c rest e =
    let same : b ≡ c = cc in
    ap (λ o. only_of (option_to_list o ++ rest)) same
both_found (Some x) None c rest e =
    let same : Some x ≡ c = cc in
    ap (λ o. only_of (option_to_list o ++ rest)) same
both_found (Some x) (Some y) c rest e = absurd (cc)
