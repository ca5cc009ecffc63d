-- Why the value at a place was not changed.
use Rattle.std.specs.Prelude.{ℕ, Option, Some, None}
use Rattle.arz_changes.specs.declared.changing.ChangeFault.{ChangeFault}
use Rattle.arz_changes.specs.declared.changing.ChangeFault.TheVariants.{Target, Mismatch, Memory}
use Rattle.arz_changes.specs.Merging.{no_target, no_match}

-- the rule that failed
abbrev pub rule_of : ChangeFault → Option ℕ
rule_of Target = Some no_target
rule_of Mismatch = Some no_match
rule_of Memory = None
