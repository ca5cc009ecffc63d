-- There is one test of the workflows that depend on themselves, so the rules of a description are one list.
use Rattle.std.proofs.Common.{◌≡◌, ℕ, Bool}
use Rattle.arz_graph.proofs.Tests.{tests_agree}
use Rattle.arz_json.specs.declared.tree.Json.{Json}
use Rattle.arz_doc.specs.Cycles.{TellsCycles}
use Rattle.arz_doc.specs.Order.{rules}

pub same_rules : (root : Json) (f g : ℕ → Bool) → TellsCycles root f → TellsCycles root g → rules f root ≡ rules g root
same_rules root f g p q = λ k. rules (λ i. (tests_agree (f i) (g i) (p.exact i) (q.exact i)) k) root
