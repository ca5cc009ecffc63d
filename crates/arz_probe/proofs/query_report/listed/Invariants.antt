use Rattle.std.proofs.Common.{◌≡◌, ◌++◌, drop, map}
use Rattle.arz_path.specs.Results.{tokens_in}
use Rattle.arz_probe.specs.Selections.{place_lines}
use Rattle.arz_probe.proofs.query_report.listed.Given as goal

abbrev pub invariant-loop-place : goal.invariant-loop-place
invariant-loop-place l = place_lines (map tokens_in l.fn.places) ≡ l.text.items ++ place_lines (map tokens_in (drop l.place-index l.fn.places))
