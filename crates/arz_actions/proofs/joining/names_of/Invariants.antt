use Rattle.std.proofs.Common.{◌≡◌, ℕ, List, take}
use Rattle.arz_actions.specs.Ready.{readies}
use Rattle.arz_actions.specs.Shared.{has_name, is_in}
use Rattle.arz_actions.proofs.joining.names_of.Given as goal

abbrev pub invariant-loop-action : goal.invariant-loop-action
invariant-loop-action l = (q : List ℕ) → is_in l.names q ≡ has_name (readies (take l.action-index l.actions)) q
