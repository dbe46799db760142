use Rattle.std.proofs.Common.{◌≡◌, ◌++◌, take}
use Rattle.std.specs.List.{flat_map}
use Rattle.report.specs.Report.{value_line}
use Rattle.report.proofs.answer_lines.push_spread.Given as goal

abbrev pub invariant-loop-attained : goal.invariant-loop-attained
invariant-loop-attained l = l.text ≡ l.fn.text ++ flat_map value_line (take l.attained-index l.attained-items)
