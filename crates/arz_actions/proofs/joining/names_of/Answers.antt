use Rattle.std.proofs.Common.{◌∙◌, List, ℕ, ap, true, cond}
use Rattle.std.specs.Ordering.{nat_cmp, is_eq}
use Rattle.std.specs.Cmp.Lexicographic.{slice_cmp}
use Rattle.arz_actions.specs.Shared.{is_in}
use Rattle.arz_actions.specs.declared.ready.Ready.{Ready}
use Rattle.arz_actions.proofs.Naming.{name_put}
use Rattle.arz_actions.proofs.joining.names_of.Goals as goal

pub loop-action-preserved : goal.loop-action-preserved
loop-action-preserved c = λ q.
    name_put c.args.actions.now c.loop-action.action-index c.action-item.result q (is_in c.loop-action.names q) (is_in c.insert.new.self q)
    c.loop-action-test.true c.action-item.is (c.loop-action.invariant q)
    (c.in_ok-insert.ensures.updates.0 (record { ref_ptr = (0, 0); now = q })
    ∙ ap (λ (n : List ℕ). cond (is_eq (slice_cmp nat_cmp n q)) true (is_in c.loop-action.names q)) (c.as_str.ensures ∙ ap (λ (r : Ready). r.name) c.deref.ensures))
