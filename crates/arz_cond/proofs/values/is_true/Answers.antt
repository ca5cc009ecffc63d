use Rattle.std.proofs.Common.{sym, ap, ◌∙◌}
use Rattle.arz_cond.specs.Meaning.{is_true}
use Rattle.arz_cond.specs.Seen.{worth_seen}
use Rattle.arz_cond.proofs.Truth.{flag_is_true, only_flags_are_true}
use Rattle.arz_cond.proofs.values.is_true.Goals as goal

pub returns-in-Flag : goal.returns-in-Flag
returns-in-Flag c = sym (ap (λ w. is_true (worth_seen w)) c.in-Flag.is ∙ flag_is_true c.in-Flag.b)

pub returns-in_default : goal.returns-in_default
returns-in_default c = sym (only_flags_are_true c.args.worth c.requires c.in_default.not-Flag)
