use Rattle.std.proofs.Common.{◌≡◌, ◌++◌, drop, map, option_map}
use Rattle.std.specs.Option.{option_to_list}
use Rattle.std.specs.List.{filter_map}
use Rattle.arz_openapi.specs.Called.{with_id}
use Rattle.arz_sources.specs.Served.{seen_source, seen_outcome, asked, only_of}
use Rattle.arz_sources.proofs.calls.find_anywhere.Given as goal

abbrev pub invariant-loop-source : goal.invariant-loop-source
invariant-loop-source l =
    let ask = filter_map (asked (with_id l.id)) in
    only_of (ask (map seen_source l.sources)) ≡ only_of (option_to_list (option_map seen_outcome l.found) ++ ask (map seen_source (drop l.source-index l.sources)))
