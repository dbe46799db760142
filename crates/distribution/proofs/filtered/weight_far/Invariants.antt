use Rattle.std.proofs.Common.{◌≡◌, take}
use Rattle.std.specs.Prelude.{nat_le}
use Rattle.weights.specs.Conditional.{distance}
use Rattle.networks.specs.Lines.{line_sum}
use Rattle.distribution.proofs.filtered.weight_far.Given as goal

-- the weight is that of the lines so far
abbrev pub invariant-loop-line : goal.invariant-loop-line
invariant-loop-line l = l.weight ≡ line_sum (λ v. nat_le l.apart (distance l.factor l.centre v)) (take l.line-index l.lines)
