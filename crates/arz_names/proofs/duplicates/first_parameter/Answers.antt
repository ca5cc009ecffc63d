use Rattle.std.proofs.Common.{◌++◌}
use Rattle.arz_json.specs.declared.tree.Location.TheVariants.{Path, Query, Header, Cookie}
use Rattle.arz_components.specs.Indexes.{finds}
use Rattle.arz_names.specs.Names.{repeats}
use Rattle.arz_names.specs.declared.repeats.Key.TheVariants.{NamedIn}
use Rattle.arz_sites.proofs.Parts.{joined}
use Rattle.arz_names.proofs.duplicates.first_parameter.Goals as goal

pub returns : goal.returns
returns c =
    let find = finds c.args.components.now in
    let list = c.args.list.now in
    let paths = repeats find (NamedIn Path) list in
    let queries = repeats find (NamedIn Query) list in
    let headers = repeats find (NamedIn Header) list in
    let cookies = repeats find (NamedIn Cookie) list in
    joined (paths ++ queries ++ headers) cookies _ _ _ c.lesser.ensures
    (joined (paths ++ queries) headers _ _ _ c.lesser-heads.ensures
    (joined paths queries _ _ _ c.lesser-urls.ensures c.in_ok-paths.ensures c.in_ok-queries.ensures)
    c.in_ok-headers.ensures)
    c.in_ok-cookies.ensures
