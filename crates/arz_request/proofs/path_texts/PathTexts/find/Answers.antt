use Rattle.std.proofs.Common.{◌≡◌, Option, Some, None, Bor, find, option_map, refl, ap, ◌∙◌}
use Rattle.std.specs.Option.{option_copied}
use Rattle.arz_json.specs.declared.Location.TheVariants as place
use Rattle.arz_request.specs.Parameters.{Written, is_named}
use Rattle.arz_request.proofs.path_texts.PathTexts.find.Goals as goal

copied-map : (o : Option (Bor Written)) → option_copied o ≡ option_map (λ w. w.now) o
copied-map None = refl
copied-map (Some w) = refl

pub returns : goal.returns
returns c =
    ap option_copied (c.copied.ensures ∙ c.get.ensures.value) ∙ copied-map _ ∙ c.self.invariant c.args.name.now
    ∙ ap (find (is_named place.Path c.args.name.now)) c.self.view_is
