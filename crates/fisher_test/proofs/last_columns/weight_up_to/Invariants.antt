use Rattle.std.proofs.Common.{◌≡◌, take}
use Rattle.std.specs.Prelude.{int_le}
use Rattle.fisher_test.specs.LastSteps.{once, valued}
use Rattle.fisher_test.proofs.last_columns.weight_up_to.Given as goal

-- the lines before this one
abbrev pub invariant-loop-line : goal.invariant-loop-line
invariant-loop-line l = l.sum ≡ valued (once (λ v. int_le v l.fn.most)) (take l.line-index l.lines)
