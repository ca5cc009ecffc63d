-- Outputs that have a compact text.
use Rattle.std.specs.Prelude.{◌&&◌, nat_le, not, Bool, true, List}
use Rattle.arz_json.specs.Tree.{has_form, depth, max_depth, has_opaque}
use Rattle.arz_json.specs.declared.Json.TheVariants.{Object}
use Rattle.arz_json.specs.declared.Member.{Member}
use Rattle.arz_relation.specs.declared.ends.End.{End}
use Rattle.arz_relation.specs.declared.ends.End.TheVariants.{Completed, Broke, Out, Stuck, TooDeep, Budget}
use Rattle.arz_runs.specs.declared.frames.State.{State}
use Rattle.arz_runs.specs.declared.frames.State.TheVariants.{Sends, Waits, Ended}

-- the object of these members is well-formed, and no number with a fraction is inside
abbrev pub are_plain : List Member → Bool
are_plain members = has_form (Object members) && nat_le (depth (Object members)) max_depth && not (has_opaque (Object members))

abbrev pub has_plain_outputs : End → Bool
has_plain_outputs (Completed outputs) = are_plain outputs
has_plain_outputs (Broke outputs) = are_plain outputs
has_plain_outputs (Out ask) = true
has_plain_outputs (Stuck cause at) = true
has_plain_outputs (TooDeep at) = true
has_plain_outputs (Budget limit) = true

abbrev pub is_plain : State → Bool
is_plain (Sends q i next) = true
is_plain (Waits n i counts before) = true
is_plain (Ended e) = has_plain_outputs e
