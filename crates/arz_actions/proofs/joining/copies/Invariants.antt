use Rattle.std.proofs.Common.{◌≡◌, take}
use Rattle.arz_actions.specs.Ready.{readies}
use Rattle.arz_actions.proofs.joining.copies.Given as goal

abbrev pub invariant-loop-action : goal.invariant-loop-action
invariant-loop-action l = readies l.all.items ≡ readies (take l.action-index l.actions)
