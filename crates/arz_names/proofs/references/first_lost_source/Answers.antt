use Rattle.std.proofs.Common.{◌++◌, codes}
use Rattle.arz_rules.specs.Sites.{at}
use Rattle.arz_rules.specs.Sets.{has, bad_text}
use Rattle.arz_sites.specs.Sites.{only, sources, steps}
use Rattle.arz_sites.specs.Texts.{source_and_id, source_and_pointer}
use Rattle.arz_sites.specs.Wants.{fits}
use Rattle.arz_names.specs.Names.{names_known}
use Rattle.arz_sites.specs.declared.checks.Wanted.TheVariants.{NotArazzo}
use Rattle.arz_sites.proofs.Parts.{joined}
use Rattle.arz_names.proofs.references.first_lost_source.Goals as goal

pub returns : goal.returns
returns c =
    let known = has c.args.sources.now in
    let root = c.args.root.now in
    let types = at (sources ++ only (codes "type")) (bad_text (fits NotArazzo)) root in
    let ids = at (steps ++ only (codes "operationId")) (bad_text (λ s. names_known known (source_and_id s))) root in
    let paths = at (steps ++ only (codes "operationPath")) (bad_text (λ s. names_known known (source_and_pointer s))) root in
    joined (types ++ ids) paths _ _ _ c.lesser.ensures
    (joined types ids _ _ _ c.lesser-named.ensures c.in_ok-types.ensures c.in_ok-ids.ensures)
    c.in_ok-paths.ensures
