use Rattle.std.proofs.Common.{◌≡◌, ℕ, [], Option, Some, None, Result, option_map, rules, sym, subst}
use Rattle.arz_json.specs.Answer.{Gives}
use Rattle.arz_description.specs.Calls.{source_and_pointer}
use Rattle.arz_openapi.specs.Called.{at_pointer}
use Rattle.arz_openapi.specs.Targets.{Target}
use Rattle.arz_sources.specs.Seen.{seen_target}
use Rattle.arz_sources.specs.Served.{asked_named, only_of, lost_cause, source_in_map}
use Rattle.arz_sources.proofs.Searches.{found-path, found-nowhere}
use Rattle.arz_sources.proofs.calls.called_by_path.Goals as goal

pub returns-in-Some : goal.returns-in-Some
returns-in-Some c =
    let e : source_and_pointer c.args.text.now ≡ Some (c.in-Some.name.now, c.in-Some.pointer.now) = search rules in
    let P : Result (Option Target) ℕ → Type 0 = λ meant. Gives (option_map seen_target) lost_cause c.some_target.result meant in
    subst P (sym (found-path c.args.sources.now c.args.text.now c.in-Some.name.now c.in-Some.pointer.now e))
    (c.some_target.ensures (only_of (asked_named (source_in_map c.args.sources.now.names) c.in-Some.name.now (at_pointer c.in-Some.pointer.now))) c.find_pointer.ensures)

pub returns-in-None : goal.returns-in-None
returns-in-None c =
    let e : source_and_pointer c.args.text.now ≡ None = search rules in
    let P : Result (Option Target) ℕ → Type 0 = λ meant. Gives (option_map seen_target) lost_cause c.some_target-in-None.result meant in
    subst P (sym (found-nowhere c.args.sources.now c.args.text.now e))
    (c.some_target-in-None.ensures (only_of (asked_named (source_in_map c.args.sources.now.names) [] (at_pointer c.args.text.now))) c.find_pointer-in-None.ensures)
