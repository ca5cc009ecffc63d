-- The misses of a tree, from those one level down.
use Rattle.std.proofs.Common.{◌≡◌, ℕ, List, sym, ap, ◌∙◌}
use Rattle.arz_json.specs.Tree.{member_step}
use Rattle.arz_json.specs.declared.tree.Json.{Json}
use Rattle.arz_json.specs.declared.tree.Json.TheOpen.{Json-F}
use Rattle.arz_json.specs.declared.tree.Json.TheFolds.{fold-roll-Json}
use Rattle.arz_json.specs.declared.tree.Json.TheVariants.{rolls-Object}
use Rattle.arz_json.specs.declared.tree.Json.TheViews.{out-Json, roll-Json, roll-out-Json}
use Rattle.arz_json.specs.declared.tree.Member.{Member}
use Rattle.arz_json.proofs.Layers.{folded-Object}
use Rattle.arz_rules.specs.declared.kinds.Kind.{Kind}
use Rattle.arz_rules.specs.Shapes.{Shape}
use Rattle.arz_rules.specs.Kinds.{form_of}
use Rattle.arz_rules.specs.Misses.{Misses, misses, level_misses, level_of, level_in, chosen, shape_misses}

misses_roll : (x : Json-F Json Member) → misses (roll-Json x) ≡ level_misses (level_in x)
misses_roll (Json-F.List js) = fold-roll-Json Misses (List ℕ × Misses) level_misses member_step (Json-F.List js)
misses_roll (Json-F.Object ms) = ap misses (rolls-Object ms) ∙ folded-Object Misses level_misses ms
misses_roll Json-F.Null = fold-roll-Json Misses (List ℕ × Misses) level_misses member_step Json-F.Null
misses_roll (Json-F.Flag b) = fold-roll-Json Misses (List ℕ × Misses) level_misses member_step (Json-F.Flag b)
misses_roll (Json-F.Int z) = fold-roll-Json Misses (List ℕ × Misses) level_misses member_step (Json-F.Int z)
misses_roll (Json-F.Text s) = fold-roll-Json Misses (List ℕ × Misses) level_misses member_step (Json-F.Text s)
misses_roll Json-F.Opaque = fold-roll-Json Misses (List ℕ × Misses) level_misses member_step Json-F.Opaque

-- what each place below gives makes up what the tree gives
pub misses_level : (j : Json) → misses j ≡ level_misses (level_of j)
misses_level j = ap misses (sym (roll-out-Json j)) ∙ misses_roll (out-Json j)

-- what a tree gives for a kind, by the shape of the kind that is chosen
pub misses_by : (j : Json) (kind k : Kind) (shape : Shape) → k ≡ chosen kind (level_of j) → shape ≡ form_of k → shape_misses shape (level_of j) ≡ misses j kind
misses_by j kind k shape e f = sym (
    ap (λ (m : Misses). m kind) (misses_level j)
    ∙ ap (λ (k : Kind). shape_misses (form_of k) (level_of j)) (sym e)
    ∙ ap (λ (s : Shape). shape_misses s (level_of j)) (sym f))
