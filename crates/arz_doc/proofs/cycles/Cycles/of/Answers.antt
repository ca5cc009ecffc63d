use Rattle.std.proofs.Common.{◌≡◌, ◌↔◌, ℕ, false, IsTrue, get_or, map, sym, ap, ◌∙◌, subst}
use Rattle.arz_graph.specs.Reaches.{IsCyclic}
use Rattle.arz_doc.specs.Cycles.{number_in, number_from, named_by}
use Rattle.arz_doc.proofs.Numbered.{graph_tells}
use Rattle.arz_doc.proofs.cycles.Cycles.of.Goals as goal

pub returns : goal.returns
returns c =
    let same = c.items_at-workflows.ensures in
    let flags = c.in_ok-flags.flags.items in
    graph_tells c.args.root.now (number_in c.in_ok-numbers.numbers) c.in_ok-graph.graph.items flags
    (λ q. c.in_ok-numbers.ensures q ∙ ap (λ ws. number_from 0 ws q) same)
    (c.in_ok-graph.ensures ∙ ap (map (named_by (number_in c.in_ok-numbers.numbers))) same)
    (subst (λ g. (i : ℕ) → IsTrue (get_or flags i false) ↔ IsCyclic g i) c.as_slice.ensures.value c.in_ok-flags.ensures.cyclic)
