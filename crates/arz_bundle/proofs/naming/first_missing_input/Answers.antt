use Rattle.std.proofs.Common.{◌∷◌, codes, option_map, ap, sym, ◌∙◌}
use Rattle.arz_json.specs.declared.Token.TheVariants.{Name}
use Rattle.arz_rules.specs.Place.{here_unless, least}
use Rattle.arz_rules.proofs.Places.{least-under}
use Rattle.arz_bundle.specs.Naming.{gives_all, schema_run}
use Rattle.arz_bundle.proofs.naming.first_missing_input.Goals as goal

pub returns : goal.returns
returns c =
    let setup = c.args.setup.now in
    c.in_ok-place.ensures
    ∙ ap (option_map (λ q. Name (codes "inputs") ∷ q)) (c.root_unless.ensures ∙ ap (λ b. least (here_unless b)) (c.in_ok-gives_all.ensures ∙ ap (gives_all setup) c.schema_run.ensures.run))
    ∙ sym (least-under (Name (codes "inputs")) (here_unless (gives_all setup (schema_run setup c.args.description.now))))
