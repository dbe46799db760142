use Rattle.std.proofs.Common.{drop}
use Rattle.stage_network.proofs.NodeLines.{LinesLeave}
use Rattle.stage_network.proofs.spreads.merge_lines.Given as goal

-- the spread and the lines that are left weigh what all lines do
abbrev pub invariant-loop-i : goal.invariant-loop-i
invariant-loop-i l = LinesLeave l.lines l.spread (drop l.i l.lines)
