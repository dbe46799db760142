use Rattle.std.proofs.Common.{◌≡◌, Bool, take, length}
use Rattle.std.specs.Prelude.{ℤ}
use Rattle.networks.specs.Lines.{line_sum}
use Rattle.stage_network.proofs.NodeLines.{value_sums}
use Rattle.stage_network.proofs.spreads.node_lines.Given as goal

-- the lines are those of the nodes before this one
abbrev pub invariant-loop-i : goal.invariant-loop-i
invariant-loop-i g l = record {
  told : (p : ℤ → Bool) → line_sum p l.lines.items ≡ value_sums (g.S.Stages.network l.stages) p (take l.i l.nodes.nodes);
  long : length l.key ≡ (g.S.Stages.network l.stages).width;
}
