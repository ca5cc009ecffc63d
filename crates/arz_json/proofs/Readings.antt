-- A text has at most one tree.
use Rattle.std.proofs.Common.{◌≡◌, ℕ, List, sym, ap, ◌∙◌}
use Rattle.json.proofs.Found.{Some_inj}
use Rattle.arz_json.specs.Reading.{tree_of, Reads}
use Rattle.arz_json.specs.declared.tree.Json.{Json}

pub Reads-unique : (bytes : List ℕ) (j k : Json) → Reads bytes j → Reads bytes k → j ≡ k
Reads-unique bytes j k (u, d, reads, is) (v, e, reads', is') = is ∙ ap tree_of (Some_inj d e (sym reads ∙ reads')) ∙ sym is'
