use Rattle.std.proofs.Common.{◌≡◌, List, ℕ, arith, false, nat_eq, subst, sym, true}
use Rattle.std.specs.Prelude.{slice_index}
use Rattle.std.specs.List.{list_all}
use Rattle.block_tests.specs.EvenBlocks.{pair_sums}
use Rattle.block_tests.proofs.EvenBlocks.{all-paired, not-paired}
use Rattle.block_tests.proofs.block.is_even.Goals as goal

pub returns-then-pair_sum : goal.returns-then-pair_sum
returns-then-pair_sum c =
    sym (subst (λ (xs : List ℕ). list_all (nat_eq (slice_index (pair_sums xs) 0)) (pair_sums xs) ≡ false) c.first-numbers.ensures.first
    (not-paired c.first-numbers.result.now c.loop-i.i c.loop-i-test.true (λ same. omega (arith, same, c.pair_sum.ensures, c.pair_sum-in-loop-i.ensures, c.if-pair_sum.true))))

pub returns : goal.returns
returns c =
    sym (subst (λ (xs : List ℕ). list_all (nat_eq (slice_index (pair_sums xs) 0)) (pair_sums xs) ≡ true) c.first-numbers.ensures.first
    (all-paired c.first-numbers.result.now (λ i h. c.loop-i.invariant i (omega (arith, h, c.loop-i-test.false)))))
