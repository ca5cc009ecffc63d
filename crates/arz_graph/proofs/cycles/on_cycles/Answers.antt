use Rattle.std.proofs.Common.{◌↔◌, false, IsTrue, get_or, sym, subst, arith}
use Rattle.std.proofs.lemmas.Result.{IfOk-weaker}
use Rattle.arz_graph.specs.Reaches.{IsCyclic}
use Rattle.arz_graph.proofs.Ends.{begun_holds, flags_exact}
use Rattle.arz_graph.proofs.cycles.on_cycles.Goals as goal

pub loop-root-init : goal.loop-root-init
loop-root-init c =
    let begun = c.in_ok-search.ensures in
    record { sound = begun_holds c.args.graph.now c.in_ok-search.search begun; idle = begun.components; seen = λ x l. absurd (omega arith) }

pub returns-clause-cyclic : goal.returns-clause-cyclic
returns-clause-cyclic c =
    let inv = c.loop-root.invariant in
    let exact = flags_exact c.args.graph.now c.loop-root.search inv.sound inv.idle (λ x l. inv.seen x (omega arith)) in
    IfOk-weaker c.flags.result _ _ (λ v e i. subst (λ l. IsTrue (get_or l i false) ↔ IsCyclic c.args.graph.now i) (sym e) (exact i)) c.flags.ensures
