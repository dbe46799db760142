-- Subjects in order, and parts of them.
use Rattle.std.proofs.Common.{ℕ, ◌*◌, ◌≤◌, List, ◌++◌, length, max, arith, length-append}
use Rattle.std.specs.Prelude.{ℤ, int_le}
use Rattle.weights.specs.Numbers.{absolute_sum}
use Rattle.weights.specs.declared.TheConstants.{MAX}
use Rattle.weights.proofs.OneOrder.{length-in_order}
use Rattle.networks.specs.PartialSums.{ascending}
use Rattle.score_convolution.specs.DrawRows.{AreSubjects}
use Rattle.score_convolution.specs.Subjects.{AreApart}
use Rattle.score_convolution.proofs.ScoreTotals.{absolute-append, absolute-ascending, part-small, twice-small}
use Rattle.score_convolution.proofs.Strides.{apart-ascending, apart-first, apart-second, apart-some, ascend-ascending, ascend-first, ascend-second}

module _ (stride : ℕ) (xs ys : List ℤ) (s : AreSubjects stride (xs ++ ys)) where
  pub first-subjects : AreSubjects stride xs
  first-subjects = record {
    some = s.some;
    apart = apart-first stride xs ys s.apart;
    ascend = ascend-first xs ys s.ascend;
    small = omega (arith, s.small, absolute-append xs ys);
    near = part-small (length (xs ++ ys)) (length xs) (absolute_sum (xs ++ ys)) (absolute_sum xs) MAX (omega (arith, length-append xs ys)) (omega (arith, absolute-append xs ys)) s.near;
  }

  pub second-subjects : AreSubjects stride ys
  second-subjects = record {
    some = s.some;
    apart = apart-second stride xs ys s.apart;
    ascend = ascend-second xs ys s.ascend;
    small = omega (arith, s.small, absolute-append xs ys);
    near = part-small (length (xs ++ ys)) (length ys) (absolute_sum (xs ++ ys)) (absolute_sum ys) MAX (omega (arith, length-append xs ys)) (omega (arith, absolute-append xs ys)) s.near;
  }

pub ordered-subjects : (stride : ℕ) (scores : List ℤ) → AreApart stride scores → 2 * length scores * absolute_sum scores ≤ MAX → AreSubjects (max stride 1) (ascending scores)
ordered-subjects stride scores apart small = record {
  some = omega arith;
  apart = apart-ascending (max stride 1) scores (apart-some stride scores apart);
  ascend = ascend-ascending scores;
  small = omega (arith, twice-small scores MAX small, absolute-ascending scores);
  near = rw (length-in_order int_le scores, absolute-ascending scores) small;
}
