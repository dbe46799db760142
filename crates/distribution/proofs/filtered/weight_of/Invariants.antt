use Rattle.std.proofs.Common.{◌≡◌, take}
use Rattle.weights.specs.Rules.{passes}
use Rattle.networks.specs.Lines.{line_sum}
use Rattle.distribution.proofs.filtered.weight_of.Given as goal

-- the sum is that of the lines so far
abbrev pub invariant-loop-line : goal.invariant-loop-line
invariant-loop-line l = l.sum ≡ line_sum (passes l.rule) (take l.line-index l.lines)
