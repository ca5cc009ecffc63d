use Rattle.std.proofs.Common.{◌≡◌, ◌++◌, drop}
use Rattle.arz_top.specs.Report.{ask_lines}
use Rattle.arz_top.proofs.report.push_lines.Given as goal

-- what stands there and what is left make the whole
abbrev pub invariant-loop-line : goal.invariant-loop-line
invariant-loop-line l = l.out.items ++ ask_lines (drop l.line-index l.lines) ≡ l.initial.out.items ++ ask_lines l.lines
