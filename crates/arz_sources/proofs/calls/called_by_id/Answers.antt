use Rattle.std.proofs.Common.{◌≡◌, ℕ, Option, Some, None, Result, option_map, rules, sym, subst, map}
use Rattle.std.specs.List.{filter_map}
use Rattle.arz_json.specs.Answer.{Gives}
use Rattle.arz_description.specs.Calls.{source_and_id}
use Rattle.arz_openapi.specs.Called.{with_id}
use Rattle.arz_openapi.specs.Targets.{Target}
use Rattle.arz_sources.specs.Seen.{seen_target}
use Rattle.arz_sources.specs.Served.{seen_source, asked, asked_named, only_of, lost_cause, source_in_map}
use Rattle.arz_sources.proofs.Searches.{found-id, found-anywhere}
use Rattle.arz_sources.proofs.calls.called_by_id.Goals as goal

pub returns-in-Some : goal.returns-in-Some
returns-in-Some c =
    let e : source_and_id c.args.text.now ≡ Some (c.in-Some.name.now, c.in-Some.id.now) = search rules in
    let P : Result (Option Target) ℕ → Type 0 = λ meant. Gives (option_map seen_target) lost_cause c.some_target.result meant in
    subst P (sym (found-id c.args.sources.now c.args.text.now c.in-Some.name.now c.in-Some.id.now e))
    (c.some_target.ensures (only_of (asked_named (source_in_map c.args.sources.now.names) c.in-Some.name.now (with_id c.in-Some.id.now))) c.find_id.ensures)

pub returns-in-None : goal.returns-in-None
returns-in-None c =
    let e : source_and_id c.args.text.now ≡ None = search rules in
    let P : Result (Option Target) ℕ → Type 0 = λ meant. Gives (option_map seen_target) lost_cause c.some_target-in-None.result meant in
    subst P (sym (found-anywhere c.args.sources.now c.args.text.now e))
    (c.some_target-in-None.ensures (only_of (filter_map (asked (with_id c.args.text.now)) (map seen_source c.args.sources.now.list.now))) c.find_anywhere.ensures)
