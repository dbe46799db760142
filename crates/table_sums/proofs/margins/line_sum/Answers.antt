use Rattle.std.proofs.Common.{◌≤◌, ◌+◌, ◌*◌, ℕ, get_or, arith}
use Rattle.std.specs.List.{range_with_len, sum_by}
use Rattle.table_sums.proofs.MarginSums.{count-few, range-more, range-most}
use Rattle.table_sums.proofs.margins.line_sum.Goals as goal

pub overflow_add-sum-in-loop-k : goal.overflow_add-sum-in-loop-k
overflow_add-sum-in-loop-k c =
    let few : sum_by (λ (k : ℕ). get_or c.args.cells.now (c.args.from + k * c.args.step) 0) (range_with_len 0 c.loop-k.k) ≤ c.loop-k.k * 1000000 = range-most (λ (k : ℕ). get_or c.args.cells.now (c.args.from + k * c.args.step) 0) 1000000 (λ k. count-few c.args.cells.now c.requires.counts (c.args.from + k * c.args.step)) 0 c.loop-k.k in
    let one : get_or c.args.cells.now (c.args.from + c.loop-k.k * c.args.step) 0 ≤ 1000000 = count-few c.args.cells.now c.requires.counts (c.args.from + c.loop-k.k * c.args.step) in
    omega (arith, few, one, c.loop-k.invariant, c.loop-k-test.true, c.requires.few)

pub loop-k-preserved : goal.loop-k-preserved
loop-k-preserved c = rw c.loop-k.invariant (range-more (λ (k : ℕ). get_or c.args.cells.now (c.args.from + k * c.args.step) 0) c.loop-k.k)
