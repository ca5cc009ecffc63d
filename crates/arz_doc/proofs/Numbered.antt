-- Workflows by their numbers, and those that depend on themselves.
use Rattle.std.proofs.Common.{◌≡◌, ℕ, zero, suc, ◌+◌, ◌-◌, ◌<◌, ◌≤◌, ◌↔◌, List, [], ◌∷◌, ◌++◌, length, get_or, take, drop, map, codes, Option, Some, None, option_map, Bool, true, false, IsTrue, cond, refl, sym, ap, ◌∙◌, subst, arith, add-one, Vec, Global}
use denote.Ref.{Bor}
use Rattle.std.specs.BTreeMap.{BTreeMap}
use Rattle.std.specs.List.{slice_get, filter_map, cons_option}
use Rattle.std.specs.Option.{option_to_list}
use Rattle.std.proofs.lemmas.List.{take_more}
use Rattle.std.proofs.lemmas.List.Elements.{filter_map-append}
use Rattle.std.proofs.lemmas.Option.{slice_get_past}
use Rattle.arz_json.specs.declared.tree.Json.{Json}
use Rattle.arz_json.specs.declared.place.Token.{Token}
use Rattle.arz_json.specs.declared.place.Token.TheVariants.{Name, Index}
use Rattle.arz_rules.specs.Place.{least, lesser, under}
use Rattle.arz_rules.specs.Sets.{is_text}
use Rattle.arz_rules.specs.Sites.{text_named}
use Rattle.arz_rules.proofs.Places.{least-append, least-under}
use Rattle.arz_graph.specs.Reaches.{Graph, targets, IsCyclic, Reaches, Leads}
use Rattle.arz_graph.proofs.Tests.{cycles_told}
use Rattle.arz_doc.specs.Cycles.{numbered, number_in, number_from, named_by, dependencies_in, dependencies, DependsOnItself, TellsCycles, circular_below}
use Rattle.arz_sites.proofs.Parts.{rest_of}

pub number_step : (old new : BTreeMap (Bor (List ℕ)) ℕ) (ws : List Json) (k : ℕ) (w : Json) (id : Option (List ℕ)) → id ≡ text_named (codes "workflowId") w
    → ((q : List ℕ) → number_in new q ≡ cond (is_text id q) (Some (k - 1)) (number_in old q))
    → 0 < k → k ≤ length ws → w ≡ get_or ws (k - 1) w
    → ((q : List ℕ) → number_in old q ≡ number_from k (drop k ws) q)
    → (q : List ℕ) → number_in new q ≡ number_from (k - 1) (drop (k - 1) ws) q
number_step old new ws k w id same after some fits is before q =
    let h : k - 1 < length ws = omega arith in
    let e : k ≡ k - 1 + 1 = omega arith in
    let rest = before q ∙ ap (λ i. number_from i (drop i ws) q) e ∙ ap (λ i. number_from i (drop (k - 1 + 1) ws) q) (add-one (k - 1)) in
    after q
    ∙ ap (λ (i : Option (List ℕ)). cond (is_text i q) (Some (k - 1)) (number_in old q)) same
    ∙ ap (cond (is_text (text_named (codes "workflowId") w) q) (Some (k - 1))) rest
    ∙ sym (ap (λ (l : List Json). number_from (k - 1) l q) (rest_of ws (k - 1) w h is))

-- ---- the graph

pub filter_more : {X Y : Type 0} (h : X → Option Y) (xs : List X) (i : ℕ) (x : X) → i < length xs → x ≡ get_or xs i x
    → filter_map h (take (i + 1) xs) ≡ filter_map h (take i xs) ++ option_to_list (h x)
filter_more {Y = Y} h xs i x l is =
    ap (filter_map h) (take_more xs i x l ∙ ap (λ y. take i xs ++ y ∷ []) (sym is))
    ∙ filter_map-append h (take i xs) (x ∷ []) ∙ ap (λ ys. filter_map h (take i xs) ++ ys) (one (h x))
  where
    one : (o : Option Y) → cons_option o [] ≡ option_to_list o
    one (Some y) = refl
    one None = refl

rows_same : (find : List ℕ → Option ℕ) (graph : Graph) (ws : List Json) → map (λ v. v.items) graph ≡ map (named_by find) ws
    → (i : ℕ) → targets graph i ≡ dependencies_in find (slice_get ws i)
rows_same find [] [] e i = refl
rows_same find [] (w ∷ ws) e i = absurd cc
rows_same find (v ∷ graph) [] e i = absurd cc
rows_same find (v ∷ graph) (w ∷ ws) e zero = cc
rows_same find (v ∷ graph) (w ∷ ws) e (suc i) = rows_same find graph ws (cc) i

pub graph_tells : (root : Json) (find : List ℕ → Option ℕ) (graph : Graph) (flags : List Bool) → ((q : List ℕ) → find q ≡ number_from 0 (numbered root) q)
    → map (λ v. v.items) graph ≡ map (named_by find) (numbered root)
    → ((i : ℕ) → IsTrue (get_or flags i false) ↔ IsCyclic graph i) → TellsCycles root (λ i. get_or flags i false)
graph_tells root find graph flags same rows exact =
    let finds : find ≡ number_from 0 (numbered root) = λ i q. same q i in
    let all : targets graph ≡ dependencies root = λ k i. (rows_same find graph (numbered root) rows i ∙ ap (λ f. dependencies_in f (slice_get (numbered root) i)) finds) k in
    record { exact = λ i. subst (λ next. IsTrue (get_or flags i false) ↔ Reaches (Leads next) i i) all (exact i) }

-- ---- places

pub circular_step : (test : ℕ → Bool) (n : ℕ) (best found r : Option (List Token)) → best ≡ least (circular_below test n)
    → found ≡ cond (test n) (Some (Name (codes "dependsOn") ∷ [])) None → r ≡ lesser best (option_map (λ q. Index n ∷ q) found)
    → r ≡ least (circular_below test (n + 1))
circular_step test n best found r so_far here step =
    let one : option_map (λ q. Index n ∷ q) found ≡ least (cond (test n) ((Index n ∷ Name (codes "dependsOn") ∷ []) ∷ []) []) =
    ap (option_map (λ q. Index n ∷ q)) here ∙ go (test n) in
    step ∙ ap (λ b. lesser b (option_map (λ q. Index n ∷ q) found)) so_far
    ∙ ap (lesser (least (circular_below test n))) one
    ∙ sym (least-append (circular_below test n) (cond (test n) ((Index n ∷ Name (codes "dependsOn") ∷ []) ∷ []) []))
    ∙ ap (λ m. least (circular_below test m)) (sym (add-one n))
  where
    go : (b : Bool) → option_map (λ q. Index n ∷ q) (cond b (Some (Name (codes "dependsOn") ∷ [])) None) ≡ least (cond b ((Index n ∷ Name (codes "dependsOn") ∷ []) ∷ []) [])
    go true = refl
    go false = refl

-- ---- the law

no_dependencies : (root : Json) (i : ℕ) → length (numbered root) ≤ i → dependencies root i ≡ []
no_dependencies root i past = ap (dependencies_in (number_from 0 (numbered root))) (slice_get_past (numbered root) i past)

pub some_test : (root : Json) → (is_cyclic : ℕ → Bool) × TellsCycles root is_cyclic
some_test root = let t = cycles_told (dependencies root) (length (numbered root)) (no_dependencies root) in (t.0, record { exact = t.1 })
