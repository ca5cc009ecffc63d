-- What holds of a search after each step.
use Rattle.std.proofs.Common.{◌≡◌, ◌<◌, ◌≤◌, ◌+◌, ℕ, List, [], length, take, refl, sym, ap, ◌∙◌, subst, ⊎_elim, arith}
use Rattle.std.proofs.Math.ListN.{set}
use Rattle.std.proofs.lemmas.Bool.{cases_eq}
use Rattle.std.proofs.lemmas.List.{length-set, take_all}
use Rattle.arz_graph.specs.declared.search.Mark.{Mark}
use Rattle.arz_graph.specs.declared.search.Mark.TheVariants.{Unseen, OnPath, Done}
use Rattle.arz_graph.specs.declared.search.Component.{Component}
use Rattle.arz_graph.specs.declared.search.Search.{Search}
use Rattle.arz_graph.specs.Reaches.{Graph, Edge, targets}
use Rattle.arz_graph.specs.Search.{Stand, stand, seen, as_cyclic, bound, IsDone, Sound, AllKnown, KnownBut, IsLed, Holds, HoldsBut, Enters, Takes, Merges, Leaves, IsSpent, Sees}
use Rattle.arz_graph.proofs.Walks.{order}
use Rattle.arz_graph.proofs.Bounds.{bound_le}
use Rattle.arz_graph.proofs.Marked.{mark_at, mark_set, mark_other, unseen_within}
use Rattle.arz_graph.proofs.Entering.{entered, known_entered}
use Rattle.arz_graph.proofs.Taking.{taken, known_taken, led_taken}
use Rattle.arz_graph.proofs.Merging.{merged, known_merged, led_merged, known_ring, known_done}
use Rattle.arz_graph.proofs.Leaving.{left, known_left}
use Rattle.arz_graph.proofs.Lists.{entered_at, taken_at, merged_at, left_at}

stand_from : (P : Stand → Type 0) (s : Search) (ms : List Mark) (ns es : List ℕ) (cs : List Component)
    → s.marks.items ≡ ms → s.nodes.items ≡ ns → s.edges.items ≡ es → s.components.items ≡ cs → P (stand ms ns es cs) → P (seen s)
stand_from P s ms ns es cs a b c d h =
    subst (λ x. P (stand x s.nodes.items s.edges.items s.components.items)) (sym a)
    (subst (λ x. P (stand ms x s.edges.items s.components.items)) (sym b)
    (subst (λ x. P (stand ms ns x s.components.items)) (sym c)
    (subst (λ x. P (stand ms ns es x)) (sym d) h)))

module _ (graph : Graph) (s t : Search) (v : ℕ) where
  pub enter_holds : HoldsBut graph s v → (seen s).mark v ≡ Unseen → Enters graph v s t → Holds graph t
  enter_holds H u e =
      let to = entered_at (Edge graph) s.marks.items s.nodes.items s.edges.items s.components.items v (targets graph v) (λ y h. h) (λ y h. h) (unseen_within s.marks.items v u) in
      record {
        nodes = ap length e.marks ∙ length-set s.marks.items v _ ∙ H.nodes;
        sound = stand_from (Sound (Edge graph)) t _ _ _ _ e.marks e.nodes e.edges e.components (entered (Edge graph) (seen s) _ v H.sound to u H.led);
        known = stand_from (AllKnown (Edge graph)) t _ _ _ _ e.marks e.nodes e.edges e.components (known_entered (Edge graph) (seen s) _ v H.sound to u H.led H.known);
      }

  pub enter_sees : (seen s).mark v ≡ Unseen → Enters graph v s t → ((seen t).mark v ≡ OnPath (length s.nodes.items)) × Sees s t
  enter_sees u e =
      let at : (seen t).mark v ≡ OnPath (length s.nodes.items) = ap (λ ms. mark_at ms v) e.marks ∙ mark_set s.marks.items v _ (unseen_within s.marks.items v u) in (
        at,
        λ x q. ⊎_elim (λ (same : x ≡ v). let w : OnPath (length s.nodes.items) ≡ Unseen = sym at ∙ ap (seen t).mark (sym same) ∙ q in absurd cc)
            (λ n. sym (ap (λ ms. mark_at ms x) e.marks ∙ mark_other s.marks.items v x _ n) ∙ q) (cases_eq x v),
      )

  pub take_holds : Holds graph s → Takes s t v → HoldsBut graph t v
  take_holds H e =
      let at = taken_at s.marks.items s.nodes.items s.edges.items t.edges.items s.components.items v e.edges e.fresh in
      let m = ap (λ v. v.items) e.marks in
      let n = ap (λ v. v.items) e.nodes in
      let c = ap (λ v. v.items) e.components in
      record {
        nodes = ap length m ∙ H.nodes;
        sound = stand_from (Sound (Edge graph)) t s.marks.items s.nodes.items t.edges.items s.components.items m n refl c (taken (Edge graph) (seen s) H.sound _ _ _ v at);
        known = stand_from (λ s. KnownBut (Edge graph) s v) t s.marks.items s.nodes.items t.edges.items s.components.items m n refl c (known_taken (Edge graph) (seen s) H.sound _ _ _ v at H.known);
        led = stand_from (λ s. IsLed (Edge graph) s v) t s.marks.items s.nodes.items t.edges.items s.components.items m n refl c (led_taken (Edge graph) (seen s) H.sound _ _ _ v at);
      }

  pub merge_holds : (p h : ℕ) → HoldsBut graph s v → (seen s).mark v ≡ OnPath p → h + 2 ≡ length s.components.items → p < bound (seen s) (h + 1) → Merges s t → HoldsBut graph t v
  merge_holds p h H on top low e =
      let at = merged_at s.marks.items s.nodes.items s.edges.items s.components.items h (omega arith) in
      let m = ap (λ v. v.items) e.marks in
      let n = ap (λ v. v.items) e.nodes in
      let d = ap (λ v. v.items) e.edges in
      let c = e.components h top in
      record {
        nodes = ap length m ∙ H.nodes;
        sound = stand_from (Sound (Edge graph)) t _ _ _ _ m n d c (merged (Edge graph) (seen s) H.sound _ _ h at v p (h + 1) H.led on (omega arith) (omega arith) (omega arith) low);
        known = stand_from (λ s. KnownBut (Edge graph) s v) t _ _ _ _ m n d c (known_merged (Edge graph) (seen s) H.sound _ _ h at v p (h + 1) H.led on (omega arith) (omega arith) (omega arith) low H.known);
        led = stand_from (λ s. IsLed (Edge graph) s v) t _ _ _ _ m n d c (led_merged (Edge graph) (seen s) H.sound _ _ h at v p (h + 1) H.led on (omega arith) (omega arith) (omega arith) low);
      }

  pub ring_holds : (p h : ℕ) → HoldsBut graph s v → (seen s).mark v ≡ OnPath p → h + 1 ≡ length s.components.items → bound (seen s) h ≤ p
      → t.marks ≡ s.marks → t.nodes ≡ s.nodes → t.edges ≡ s.edges → t.components.items ≡ set s.components.items h (as_cyclic ((seen s).component h)) → Holds graph t
  ring_holds p h H on top low ms ns es cs =
      let at = merged_at s.marks.items s.nodes.items s.edges.items s.components.items h (omega arith) in
      let m = ap (λ v. v.items) ms in
      let n = ap (λ v. v.items) ns in
      let d = ap (λ v. v.items) es in
      let c : t.components.items ≡ set (take (h + 1) s.components.items) h (as_cyclic ((seen s).component h)) =
      cs ∙ ap (λ l. set l h (as_cyclic ((seen s).component h))) (sym (take_all (h + 1) s.components.items (omega arith))) in
      let under : p < bound (seen s) (h + 1) = omega (arith, H.sound.last (h + 1), (H.sound.path.found v p on).0) in
      let whole = known_merged (Edge graph) (seen s) H.sound _ _ h at v p h H.led on (omega arith) (omega arith) top under H.known in
      record {
        nodes = ap length m ∙ H.nodes;
        sound = stand_from (Sound (Edge graph)) t _ _ _ _ m n d c (merged (Edge graph) (seen s) H.sound _ _ h at v p h H.led on (omega arith) (omega arith) top under);
        known = stand_from (AllKnown (Edge graph)) t _ _ _ _ m n d c
            (known_ring (Edge graph) _ v p h (sym at.count) on (omega (arith, at.bound_old h)) at.cyclic_new whole);
      }

  pub leave_holds : Holds graph s → IsSpent s → (h : ℕ) → h + 1 ≡ length s.components.items → Leaves s t → Holds graph t
  leave_holds H spent h top e =
      let at = left_at s.marks.items t.marks.items s.nodes.items s.edges.items s.components.items h top (bound_le (Edge graph) (seen s) H.sound h) (e.marks h top) in
      let d = ap (λ v. v.items) e.edges in
      record {
        nodes = e.count ∙ H.nodes;
        sound = stand_from (Sound (Edge graph)) t _ _ _ _ refl (e.nodes h top) d (e.components h top) (left (Edge graph) (seen s) H.sound H.known _ h at top (spent h top));
        known = stand_from (AllKnown (Edge graph)) t _ _ _ _ refl (e.nodes h top) d (e.components h top) (known_left (Edge graph) (seen s) H.sound H.known _ h at top (spent h top));
      }

pub done_holds : (graph : Graph) (s : Search) (v : ℕ) → HoldsBut graph s v → IsDone ((seen s).mark v) → Holds graph s
done_holds graph s v H d = record { nodes = H.nodes; sound = H.sound; known = known_done (Edge graph) (seen s) v d H.known }

-- a search between two paths
pub idle_holds : (graph : Graph) (s : Search) (v : ℕ) → Holds graph s → s.components.items ≡ [] → HoldsBut graph s v
idle_holds graph s v H none =
    let zero : length s.components.items ≡ 0 = ap length none in
    record { nodes = H.nodes; sound = H.sound; known = λ f a y i w l. absurd (omega (arith, zero)); led = λ f q. absurd (omega (arith, zero)) }

-- a node on the path stands in a component
pub path_open : (graph : Graph) (s : Search) (v p : ℕ) → HoldsBut graph s v → (seen s).mark v ≡ OnPath p → 0 < length s.components.items
path_open graph s v p H on = ⊎_elim (λ (l : 0 < length s.components.items). l)
    (λ none. absurd (omega (arith, (H.sound.path.found v p on).0, H.sound.first, H.sound.last 0 none)))
    (order 0 (length s.components.items))

module _ (s t : Search) (h : ℕ) (top : h + 1 ≡ length s.components.items) (e : Leaves s t) where
  sees_on : (x k : ℕ) → (seen s).mark x ≡ OnPath k → (seen t).mark x ≡ Unseen → (seen s).mark x ≡ Unseen
  sees_on x k q u =
      let L = e.marks h top in
      ⊎_elim
      (λ (low : k < bound (seen s) h). sym (L.kept x (λ j r l m. let w : OnPath k ≡ OnPath j = sym q ∙ r in let z : k ≡ j = cc in omega arith)) ∙ u)
      (λ high. ⊎_elim
      (λ (on : k < length s.nodes.items). let w : Done ((seen s).component h).cyclic ≡ Unseen = sym (L.gone x k q high on) ∙ u in absurd cc)
      (λ off. sym (L.kept x (λ j r l m. let w : OnPath k ≡ OnPath j = sym q ∙ r in let z : k ≡ j = cc in omega arith)) ∙ u)
      (order k (length s.nodes.items)))
      (order k (bound (seen s) h))

  sees_at : (x : ℕ) (m : Mark) → (seen s).mark x ≡ m → (seen t).mark x ≡ Unseen → (seen s).mark x ≡ Unseen
  sees_at x Unseen q u = q
  sees_at x (OnPath k) q u = sees_on x k q u
  sees_at x (Done c) q u = sym ((e.marks h top).kept x (λ j r l m. let w : ◌≡◌ {A = Mark} (Done c) (OnPath j) = sym q ∙ r in cc)) ∙ u

  pub leave_sees : Sees s t
  leave_sees x u = sees_at x ((seen s).mark x) refl u
