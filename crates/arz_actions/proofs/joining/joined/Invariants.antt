use Rattle.std.proofs.Common.{◌≡◌, ◌++◌, take}
use Rattle.arz_actions.specs.Ready.{readies}
use Rattle.arz_actions.specs.Shared.{unnamed}
use Rattle.arz_actions.proofs.joining.joined.Given as goal

abbrev pub invariant-loop-action : goal.invariant-loop-action
invariant-loop-action l = readies l.all.items ≡ readies l.initial.all.items ++ unnamed l.names (readies (take l.action-index l.others))
