use Rattle.std.proofs.Common.{◌+◌, ◌++◌, drop, map, option_map, ap, sym, ◌∙◌}
use Rattle.std.specs.Option.{option_to_list}
use Rattle.std.specs.List.{filter_map}
use Rattle.arz_openapi.specs.Called.{with_id}
use Rattle.arz_sources.specs.Served.{seen_source, seen_outcome, asked, only_of}
use Rattle.arz_sources.proofs.Searches.{one_more, both_found}
use Rattle.arz_sources.proofs.calls.find_anywhere.Goals as goal

pub loop-source-preserved : goal.loop-source-preserved
loop-source-preserved c =
    let ask = asked (with_id c.args.id.now) in
    let old = option_map seen_outcome c.loop-source.found in
    let rest = filter_map ask (map seen_source (drop (c.loop-source.source-index + 1) c.args.sources.now)) in
    one_more ask _ old c.args.sources.now c.loop-source.source-index c.source-item.result c.loop-source.invariant c.loop-source-test.true c.source-item.is
    ∙ ap (λ o. only_of (option_to_list old ++ (option_to_list o ++ rest))) (sym c.in_ok-more.ensures)
    ∙ both_found old (option_map seen_outcome c.in_ok-more.more) (option_map seen_outcome c.in_ok-found.found) rest c.in_ok-found.ensures
