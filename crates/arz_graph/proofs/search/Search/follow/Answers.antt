use Rattle.std.proofs.Common.{◌≡◌, length, sym, ◌∙◌, arith}
use Rattle.std.proofs.lemmas.Result.{on_ok_weaker}
use Rattle.arz_graph.specs.declared.search.Mark.TheVariants.{Unseen, OnPath}
use Rattle.arz_graph.specs.Search.{Enters}
use Rattle.arz_graph.proofs.Searches.{enter_holds, enter_sees, done_holds, path_open}
use Rattle.arz_graph.proofs.Works.{enter_work}
use Rattle.arz_graph.proofs.search.Search.follow.Goals as goal

pub close-requires : goal.close-requires
close-requires c = omega (arith, path_open c.args.graph.now c.args.self.now c.args.node c.in-OnPath.place c.requires (sym c.in-OnPath.ensures))

pub returns-in-Unseen-clause-sound : goal.returns-in-Unseen-clause-sound
returns-in-Unseen-clause-sound c = on_ok_weaker c.enter.result (enter_holds c.args.graph.now c.args.self.now _ c.args.node c.requires (sym c.in-Unseen.ensures)) c.enter.ensures

pub returns-in-Unseen-clause-seen : goal.returns-in-Unseen-clause-seen
returns-in-Unseen-clause-seen c = on_ok_weaker c.enter.result
    (λ (e : Enters c.args.graph.now c.args.node c.args.self.now c.enter.new.self) q. let at = (enter_sees c.args.graph.now c.args.self.now _ c.args.node (sym c.in-Unseen.ensures) e).0 in
    let w : OnPath (length c.args.self.now.nodes.items) ≡ Unseen = sym at ∙ q in cc) c.enter.ensures

pub returns-in-Unseen-clause-sees : goal.returns-in-Unseen-clause-sees
returns-in-Unseen-clause-sees c = on_ok_weaker c.enter.result (λ e. (enter_sees c.args.graph.now c.args.self.now _ c.args.node (sym c.in-Unseen.ensures) e).1) c.enter.ensures

pub returns-in-Unseen-clause-work : goal.returns-in-Unseen-clause-work
returns-in-Unseen-clause-work c = on_ok_weaker c.enter.result (enter_work c.args.graph.now c.args.self.now _ c.args.node c.requires.nodes (sym c.in-Unseen.ensures)) c.enter.ensures

pub returns-in-Done-clause-sound : goal.returns-in-Done-clause-sound
returns-in-Done-clause-sound c = done_holds c.args.graph.now c.args.self.now c.args.node c.requires (_, sym c.in-Done.ensures)
