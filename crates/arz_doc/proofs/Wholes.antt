-- The rules before that of patterns, and those from it on.
use Rattle.std.proofs.Common.{◌≡◌, ℕ, List, ◌++◌, Option, Some, None, Bool, ap, sym, ◌∙◌, append_assoc}
use Rattle.arz_json.specs.declared.tree.Json.{Json}
use Rattle.arz_components.specs.Described.{component}
use Rattle.arz_rules.specs.Phases.{Failure, first_failure}
use Rattle.arz_doc.specs.Order.{name_rules, judged_rules, pattern_rules, sending_rules, rules_before, rules_from, whole_rules_with, whole_rules}
use Rattle.arz_doc.proofs.Orders.{of_first, of_later}

module _ (root : Json) (is_cyclic : ℕ → Bool) (refuses : List ℕ → Bool) where
  parts : whole_rules is_cyclic refuses root ≡ rules_before (component root) is_cyclic root ++ rules_from refuses root
  unfolding whole_rules whole_rules_with rules_before rules_from
  parts = append_assoc (name_rules (component root) is_cyclic root ++ judged_rules root) (pattern_rules refuses root) (sending_rules root)

  pub whole_first : (f : Failure) → Some f ≡ first_failure (rules_before (component root) is_cyclic root) → Some f ≡ first_failure (whole_rules is_cyclic refuses root)
  whole_first f e = of_first (rules_before (component root) is_cyclic root) (rules_from refuses root) f e ∙ ap first_failure (sym parts)

  pub whole_later : (r : Option Failure) → None ≡ first_failure (rules_before (component root) is_cyclic root) → r ≡ first_failure (rules_from refuses root) → r ≡ first_failure (whole_rules is_cyclic refuses root)
  whole_later r e f = of_later (rules_before (component root) is_cyclic root) (rules_from refuses root) r e f ∙ ap first_failure (sym parts)
