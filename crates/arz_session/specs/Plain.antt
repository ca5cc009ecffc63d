-- Outcomes whose outputs have a compact text.
use Rattle.std.specs.Prelude.{Bool, true}
use Rattle.arz_machine.specs.Plain.{has_plain_outputs}
use Rattle.arz_session.specs.declared.session.Outcome.{Outcome}
use Rattle.arz_session.specs.declared.session.Outcome.TheVariants.{Ended, Pattern}

abbrev pub is_plain : Outcome → Bool
is_plain (Ended e) = has_plain_outputs e
is_plain Pattern = true
