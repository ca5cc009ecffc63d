use Rattle.std.proofs.Common.{◌<◌, ◌-◌, length, sym, ap, subst, arith}
use Rattle.arz_graph.specs.Search.{Holds, Sees, work}
use Rattle.arz_graph.proofs.Searches.{take_holds, leave_holds, leave_sees}
use Rattle.arz_graph.proofs.Works.{leave_work}
use Rattle.arz_graph.proofs.search.Search.advance.Goals as goal

pub follow-requires : goal.follow-requires
follow-requires c = take_holds c.args.graph.now c.args.self.now _ c.in-Some.node c.requires.sound c.in-Some.ensures.some

pub returns-in-None-clause-sound : goal.returns-in-None-clause-sound
returns-in-None-clause-sound c =
    let same = c.in-None.ensures.none in
    let some : 0 < length c.take.new.self.components.items = omega (arith, ap (λ s. length s.components.items) same, c.requires.some) in
    leave_holds c.args.graph.now c.take.new.self _ 0 (subst (Holds c.args.graph.now) (sym same) c.requires.sound) c.in-None.ensures.spent
    (length c.take.new.self.components.items - 1) (omega arith) c.leave.ensures

pub returns-in-None-clause-sees : goal.returns-in-None-clause-sees
returns-in-None-clause-sees c =
    let same = c.in-None.ensures.none in
    let some : 0 < length c.take.new.self.components.items = omega (arith, ap (λ s. length s.components.items) same, c.requires.some) in
    subst (λ s. Sees s c.leave.new.self) same (leave_sees c.take.new.self _ (length c.take.new.self.components.items - 1) (omega arith) c.leave.ensures)

pub returns-in-None-clause-work : goal.returns-in-None-clause-work
returns-in-None-clause-work c =
    let same = c.in-None.ensures.none in
    let some : 0 < length c.take.new.self.components.items = omega (arith, ap (λ s. length s.components.items) same, c.requires.some) in
    let less = leave_work c.args.graph.now c.take.new.self _ (length c.take.new.self.components.items - 1) (omega arith) c.leave.ensures in
    subst (λ s. work c.args.graph.now c.leave.new.self < work c.args.graph.now s) same less
