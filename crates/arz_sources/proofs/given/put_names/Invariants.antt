use Rattle.std.proofs.Common.{◌≡◌, ◌||◌, ℕ, List, drop}
use Rattle.std.specs.List.{list_any}
use Rattle.arz_rules.specs.Sets.{has}
use Rattle.arz_components.specs.Indexes.{finds}
use Rattle.arz_description.specs.Requests.{given_of}
use Rattle.arz_sources.specs.Rules.{fills}
use Rattle.arz_sources.proofs.given.put_names.Given as goal

abbrev pub invariant-loop-item : goal.invariant-loop-item
invariant-loop-item l = (q : List ℕ) →
    (list_any (λ item. fills q (given_of (finds l.components) item)) (drop l.item-index l.items) || has l.set q)
    ≡ (list_any (λ item. fills q (given_of (finds l.components) item)) l.items || has l.initial.set q)
