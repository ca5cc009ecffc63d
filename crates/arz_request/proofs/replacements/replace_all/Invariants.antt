use Rattle.std.proofs.Common.{◌≡◌, drop}
use Rattle.arz_json.specs.Shallow.{IsShallow}
use Rattle.arz_request.specs.Payloads.{with_replacements}
use Rattle.arz_request.proofs.replacements.replace_all.Given as goal

abbrev pub invariant-loop-replacement : goal.invariant-loop-replacement
invariant-loop-replacement g l =
    let found = g.S.Scope.found l.scope in
    record {
      made : with_replacements found l.fn.payload l.replacements ≡ with_replacements found l.tree (drop l.replacement-index l.replacements);
      shallow : IsShallow l.tree;
    }
