-- The steps of a search, as its lists change.
use Rattle.std.proofs.Common.{◌≡◌, ◌<◌, ◌≤◌, ◌+◌, ◌-◌, ℕ, List, [], ◌∷◌, ◌++◌, length, get_or, take, refl, sym, ap, ◌∙◌, subst, ⊎_elim, arith}
use Rattle.std.proofs.Math.ListN.{set}
use Rattle.std.specs.List.{Contains}
use Rattle.std.proofs.lemmas.List.{length_push, length-append, length-set, length-take-le, get_or_push, get_or_append_left, get_or-append_right, get_or-append-add, get_or_default, get_or_past, get_or-take, get_or-set_same, get_or-set_other}
use Rattle.std.proofs.lemmas.List.Elements.{Contains-get_or}
use Rattle.arz_graph.specs.declared.search.Mark.{Mark}
use Rattle.arz_graph.specs.declared.search.Mark.TheVariants.{OnPath}
use Rattle.arz_graph.specs.declared.search.Component.{Component}
use Rattle.arz_graph.specs.Search.{stand, end, as_cyclic, bound, edge_bound, LeavesMarks}
use Rattle.arz_graph.proofs.Walks.{order}
use Rattle.arz_graph.proofs.Marked.{mark_at, mark_set, mark_other}
use Rattle.arz_graph.proofs.Entering.{EntersAt}
use Rattle.arz_graph.proofs.Taking.{TakesAt}
use Rattle.arz_graph.proofs.Merging.{MergesAt}
use Rattle.arz_graph.proofs.Leaving.{LeavesAt}

module _ (E : ℕ → ℕ → Type 0) (ms : List Mark) (ns es : List ℕ) (cs : List Component) (v : ℕ) (ts : List ℕ) (to : (y : ℕ) → E v y → Contains ts y) (from : (y : ℕ) → Contains ts y → E v y) (in' : v < length ms) where
  abbrev new_nodes : List ℕ
  new_nodes = ns ++ v ∷ []

  abbrev new_components : List Component
  new_components = cs ++ end ns es ∷ []

  part_old : (f : ℕ) → f < length cs → get_or new_components f (end new_nodes (es ++ ts)) ≡ get_or cs f (end ns es)
  part_old f l = get_or_append_left cs _ (end new_nodes (es ++ ts)) f l ∙ get_or_default cs f _ _ l

  part_upto : (f : ℕ) → f ≤ length cs → get_or new_components f (end new_nodes (es ++ ts)) ≡ get_or cs f (end ns es)
  part_upto f l = ⊎_elim (λ i. part_old f i)
      (λ m. get_or_push cs (end ns es) (end new_nodes (es ++ ts)) f (omega arith) ∙ sym (get_or_past cs f (end ns es) m)) (order f (length cs))

  part_past : (f : ℕ) → length cs < f → get_or new_components f (end new_nodes (es ++ ts)) ≡ end new_nodes (es ++ ts)
  part_past f l = get_or_past new_components f (end new_nodes (es ++ ts)) (omega (arith, length_push cs (end ns es)))

  target_all : (y : ℕ) → E v y → (k : ℕ) × (length es ≤ k) × (k < length (es ++ ts)) × (get_or (es ++ ts) k 0 ≡ y)
  target_all y l =
      let w = to y l in
      (length es + w.0, omega arith, omega (arith, length-append es ts, w.1), get_or-append-add es ts w.0 0 ∙ get_or_default ts w.0 0 y w.1 ∙ w.2)

  pub entered_at : EntersAt E (stand ms ns es cs) (stand (set ms v (OnPath (length ns))) new_nodes (es ++ ts) new_components) v
  entered_at = record {
    mark_new = mark_set ms v _ in';
    mark_old = λ x n. mark_other ms v x _ n;
    depth = length_push ns v;
    node_new = get_or_push ns v 0 (length ns) refl;
    node_old = λ k l. get_or_append_left ns _ 0 k l;
    pending = omega (arith, length-append es ts);
    target_old = λ k l. get_or_append_left es ts 0 k l;
    target_is = λ k l m. subst (E v) (sym (get_or-append_right es ts (length es) k 0 refl l))
        (from _ (Contains-get_or ts (k - length es) 0 (omega (arith, length-append es ts))));
    target_all = target_all;
    count = length_push cs (end ns es);
    bound_old = λ f l. ap (λ c. c.nodes) (part_upto f l);
    bound_new = λ f l. ap (λ c. c.nodes) (part_past f l);
    edge_old = λ f l. ap (λ c. c.edges) (part_upto f l);
    edge_new = λ f l. ap (λ c. c.edges) (part_past f l);
    cyclic_old = λ f l. ap (λ c. c.cyclic) (part_old f l);
    cyclic_new = ap (λ c. c.cyclic) (get_or_push cs (end ns es) (end new_nodes (es ++ ts)) (length cs) refl);
  }

module _ (ms : List Mark) (ns es fs : List ℕ) (cs : List Component) (v : ℕ) (is : es ≡ fs ++ v ∷ []) (fresh : (f : ℕ) → f + 1 ≡ length cs → edge_bound (stand ms ns es cs) f ≤ length fs) where
  nodes_same : (f : ℕ) → bound (stand ms ns fs cs) f ≡ bound (stand ms ns es cs) f
  nodes_same f = ⊎_elim (λ (l : f < length cs). ap (λ c. c.nodes) (get_or_default cs f _ _ l))
      (λ m. ap (λ c. c.nodes) (get_or_past cs f (end ns fs) m) ∙ sym (ap (λ c. c.nodes) (get_or_past cs f (end ns es) m))) (order f (length cs))

  pub taken_at : TakesAt (stand ms ns es cs) (stand ms ns fs cs) v
  taken_at = record {
    pending = ap length is ∙ length_push fs v;
    taken = ap (λ l. get_or l (length fs) 0) is ∙ get_or_push fs v 0 (length fs) refl;
    target_old = λ k l. sym (ap (λ l. get_or l k 0) is ∙ get_or_append_left fs (v ∷ []) 0 k l);
    bound_same = nodes_same;
    edge_old = λ f l. ap (λ c. c.edges) (get_or_default cs f (end ns fs) (end ns es) l);
    edge_new = λ f m. ap (λ c. c.edges) (get_or_past cs f (end ns fs) m);
    cyclic_old = λ f l. ap (λ c. c.cyclic) (get_or_default cs f (end ns fs) (end ns es) l);
    fresh = fresh;
  }

module _ (ms : List Mark) (ns es : List ℕ) (cs : List Component) (h : ℕ) (in' : h < length cs) where
  abbrev contracted : List Component
  contracted = set (take (h + 1) cs) h (as_cyclic (get_or cs h (end ns es)))

  len : length contracted ≡ h + 1
  len = length-set (take (h + 1) cs) h _ ∙ length-take-le (h + 1) cs (omega arith)

  first : (f : ℕ) → f < h → get_or contracted f (end ns es) ≡ get_or cs f (end ns es)
  first f l = get_or-set_other (take (h + 1) cs) h f _ (end ns es) (λ q. omega arith) ∙ get_or-take (h + 1) cs f (end ns es) (omega arith)

  here : get_or contracted h (end ns es) ≡ as_cyclic (get_or cs h (end ns es))
  here = get_or-set_same (take (h + 1) cs) h _ (end ns es) (omega (arith, length-take-le (h + 1) cs))

  past : (f : ℕ) → h < f → get_or contracted f (end ns es) ≡ end ns es
  past f l = get_or_past _ f (end ns es) (omega (arith, len))

  nodes_upto : (f : ℕ) → f ≤ h → bound (stand ms ns es contracted) f ≡ bound (stand ms ns es cs) f
  nodes_upto f l = ⊎_elim (λ i. ap (λ c. c.nodes) (first f i))
      (λ m. let q : f ≡ h = omega arith in
      subst (λ k. bound (stand ms ns es contracted) k ≡ bound (stand ms ns es cs) k) (sym q) (ap (λ c. c.nodes) here)) (order f h)

  edges_upto : (f : ℕ) → f ≤ h → edge_bound (stand ms ns es contracted) f ≡ edge_bound (stand ms ns es cs) f
  edges_upto f l = ⊎_elim (λ i. ap (λ c. c.edges) (first f i))
      (λ m. let q : f ≡ h = omega arith in
      subst (λ k. edge_bound (stand ms ns es contracted) k ≡ edge_bound (stand ms ns es cs) k) (sym q) (ap (λ c. c.edges) here)) (order f h)

  pub merged_at : MergesAt (stand ms ns es cs) (stand ms ns es (set (take (h + 1) cs) h (as_cyclic (get_or cs h (end ns es))))) h
  merged_at = record {
    count = len;
    bound_old = nodes_upto;
    bound_new = λ f l. ap (λ c. c.nodes) (past f l);
    edge_old = edges_upto;
    edge_new = λ f l. ap (λ c. c.edges) (past f l);
    cyclic_old = λ f l. ap (λ c. c.cyclic) (first f l);
    cyclic_new = ap (λ c. c.cyclic) here;
  }

module _ (ms ls : List Mark) (ns es : List ℕ) (cs : List Component) (h : ℕ) (top : h + 1 ≡ length cs)
    (low : bound (stand ms ns es cs) h ≤ length ns)
    (marks : LeavesMarks (bound (stand ms ns es cs) h) (length ns) ((stand ms ns es cs).component h).cyclic (mark_at ms) (mark_at ls)) where
  abbrev start : ℕ
  start = bound (stand ms ns es cs) h

  count : length (take h cs) ≡ h
  count = length-take-le h cs (omega arith)

  depth : length (take start ns) ≡ start
  depth = length-take-le _ ns low

  kept : (f : ℕ) → f < h → get_or (take h cs) f (end (take start ns) es) ≡ get_or cs f (end ns es)
  kept f l = get_or-take h cs f _ l ∙ get_or_default cs f _ _ (omega arith)

  gone : (f : ℕ) → h ≤ f → get_or (take h cs) f (end (take start ns) es) ≡ end (take start ns) es
  gone f l = get_or_past (take h cs) f _ (omega (arith, count))

  bounds_upto : (f : ℕ) → f ≤ h → bound (stand ls (take start ns) es (take h cs)) f ≡ bound (stand ms ns es cs) f
  bounds_upto f l = ⊎_elim (λ i. ap (λ c. c.nodes) (kept f i))
      (λ m. let q : h ≡ f = omega arith in ap (λ c. c.nodes) (gone f m) ∙ depth ∙ ap (bound (stand ms ns es cs)) q) (order f h)

  pub left_at : LeavesAt (stand ms ns es cs) (stand ls (take (bound (stand ms ns es cs) h) ns) es (take h cs)) h
  left_at = record {
    marks = marks;
    depth = depth;
    node_old = λ k l. get_or-take _ ns k 0 (omega (arith, depth));
    pending = refl;
    target_same = λ k. refl;
    count = count;
    bound_old = bounds_upto;
    bound_new = λ f m. ap (λ c. c.nodes) (gone f m);
    edge_old = λ f l. ap (λ c. c.edges) (kept f l);
    edge_new = λ f m. ap (λ c. c.edges) (gone f m);
    cyclic_old = λ f l. ap (λ c. c.cyclic) (kept f l);
  }
