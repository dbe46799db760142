use Rattle.std.proofs.Common.{◌≡◌, ◌++◌}
use Rattle.report.proofs.ReportLemmas.{first_lines}
use Rattle.report.proofs.heading_lines.push_groups.Given as goal

abbrev pub invariant-loop-i : goal.invariant-loop-i
invariant-loop-i l = l.text ≡ l.fn.text ++ first_lines l.i l.sizes l.labels
