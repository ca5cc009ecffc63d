use Rattle.std.proofs.Common.{◌≡◌, ℕ, zero, suc, List, [], ◌∷◌, map, option_map, refl, sym, ap, ◌∙◌}
use Rattle.std.specs.Prelude.{slice_get}
use Rattle.arz_json.specs.Put.{children_in, children}
use Rattle.arz_json.specs.declared.tree.Json.TheViews.{outs-Object}
use Rattle.arz_json.specs.declared.tree.Member.{Member}
use Rattle.arz_changes.proofs.looking.child.Goals as goal

value_at : (ms : List Member) (i : ℕ) → slice_get (map (λ m. m.value) ms) i ≡ option_map (λ m. m.value) (slice_get ms i)
value_at [] zero = refl
value_at [] (suc i) = refl
value_at (m ∷ ms) zero = refl
value_at (m ∷ ms) (suc i) = value_at ms i

pub returns-in-Object : goal.returns-in-Object
returns-in-Object c =
    c.value_of.ensures ∙ ap (option_map (λ m. m.value)) c.get-in-Object.ensures ∙ sym (ap (λ js. slice_get js c.args.at) (ap children c.in-Object.is ∙ ap children_in (outs-Object c.in-Object.members)) ∙ value_at c.in-Object.members c.args.at)
