use Rattle.std.proofs.Common.{◌≡◌, ℕ, ◌+◌, ◌*◌, get_or}
use Rattle.std.specs.List.{range_with_len, sum_by}
use Rattle.table_sums.proofs.margins.line_sum.Given as goal

abbrev pub invariant-loop-k : goal.invariant-loop-k
invariant-loop-k l = l.sum ≡ sum_by (λ (k : ℕ). get_or l.cells (l.from + k * l.step) 0) (range_with_len 0 l.k)
