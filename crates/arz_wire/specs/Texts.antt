-- Trees whose texts and names are UTF-8, as those of each program's tree are.
use Rattle.std.specs.Prelude.{ℕ, ◌&&◌, List, [], ◌∷◌, Bool, true}
use Rattle.std.specs.Str.{is_utf8}
use Rattle.arz_json.specs.Tree.{member_step, all_true, values_of}
use Rattle.arz_json.specs.declared.tree.Json.{Json}
use Rattle.arz_json.specs.declared.tree.Json.TheOpen.{Json-F}
use Rattle.arz_json.specs.declared.tree.Json.TheFolds.{fold-Json}
use Rattle.arz_json.specs.declared.tree.Member.{Member}

abbrev pub names_are_texts : {A : Type 0} → List (List ℕ × A) → Bool
names_are_texts [] = true
names_are_texts (m ∷ ms) = is_utf8 m.0 && names_are_texts ms

abbrev pub texts_step : Json-F Bool (List ℕ × Bool) → Bool
texts_step Json-F.Null = true
texts_step (Json-F.Flag b) = true
texts_step (Json-F.Int z) = true
texts_step (Json-F.Text s) = is_utf8 s
texts_step (Json-F.List bs) = all_true bs
texts_step (Json-F.Object ms) = names_are_texts ms && all_true (values_of ms)
texts_step Json-F.Opaque = true

abbrev pub has_texts : Json → Bool
has_texts = fold-Json Bool (List ℕ × Bool) texts_step member_step

-- ---- for private clauses: the name of a member, and the texts of its value
abbrev pub has_text : Member → Bool
has_text m = is_utf8 m.name && has_texts m.value
