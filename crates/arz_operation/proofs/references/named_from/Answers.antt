use Rattle.std.proofs.Common.{◌≡◌, ◌≢◌, ℕ, List, [], ◌∷◌, Err, refl, ap, arith}
use Rattle.std.proofs.lemmas.Bool.{ne_eqb}
use Rattle.std.proofs.lemmas.Str.Pattern.{strip_prefix_char}
use Rattle.arz_json.specs.declared.tree.Json.{Json}
use Rattle.arz_operation.specs.References.{named_by}
use Rattle.arz_operation.specs.declared.references.Lost.TheVariants.{Outer}
use Rattle.arz_operation.proofs.references.named_from.Goals as goal

outside : (root : Json) (text : List ℕ) → ((rest : List ℕ) → text ≢ 35 ∷ rest) → Err Outer ≡ named_by root text
outside root [] h = refl
outside root (b ∷ bs) h = rw (ne_eqb b 35 (λ e. h bs (ap (λ y. y ∷ bs) e))) refl

pub returns-in_default : goal.returns-in_default
returns-in_default c =
    outside c.args.root.now c.args.text.now (rw c.in_default.is at (strip_prefix_char 35 c.args.text.now c.strip_prefix.result c.strip_prefix.ensures.cases (omega arith)))
