use Rattle.std.proofs.Common.{◌≡◌, take, codes, option_map}
use Rattle.arz_rules.specs.Sites.{in_items}
use Rattle.arz_components.specs.Indexes.{finds}
use Rattle.arz_sources.specs.Rules.{gives, at_items}
use Rattle.arz_sources.specs.Served.{found_in}
use Rattle.arz_sources.specs.Failures.{seen_failure, fails, first_of}
use Rattle.arz_sources.proofs.steps.first_in_workflows.Given as goal

abbrev pub invariant-loop-i : goal.invariant-loop-i
invariant-loop-i l =
    option_map seen_failure l.best
    ≡ first_of (λ rule. in_items (λ workflow. at_items (codes "steps") (fails rule (found_in l.sources) (finds l.components) (gives (finds l.components) workflow)) workflow) 0 (take l.i l.workflows))
