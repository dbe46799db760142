-- Sums of products of scores of which none is too great, over as many subjects as a table has, pass no limit.
use Rattle.std.proofs.Common.{◌≡◌, ℕ, ◌*◌, ◌≤◌, List, length, subst, arith}
use Rattle.std.specs.Prelude.{ℤ, unsigned_abs}
use Rattle.std.specs.List.{sum}
use Rattle.std.proofs.Math.Nat.{mul-le-mul}
use Rattle.weights.specs.Numbers.{absolute_sum}
use Rattle.networks.specs.declared.verdicts.Judge.{Judge}
use Rattle.networks.specs.Judged.{JudgeFits}
use Rattle.later_scores.specs.LaterSums.{subjects}
use Rattle.label_network.specs.Linear.{IsLinear, greatest_sizes}
use Rattle.table_sums.specs.TableSteps.{AreScores}
use Rattle.label_network.proofs.LinearValues.{subjects-size}

module _ (rows columns : List ℕ) (us vs : List ℤ) (level : sum columns ≡ sum rows) (few : sum rows ≤ 512000000) (small_us : AreScores us) (small_vs : AreScores vs) where
  columns-small : absolute_sum (subjects vs columns) ≤ 512000000000000000
  columns-small =
      let size : absolute_sum (subjects vs columns) ≤ 1000000000 * sum rows = subst (λ n. absolute_sum (subjects vs columns) ≤ 1000000000 * n) level (subjects-size vs columns 1000000000 small_vs) in
      omega (arith, size, few)

  pub sizes-small : greatest_sizes us vs columns ≤ 512000000000000000000000000
  sizes-small = omega (arith, mul-le-mul small_us columns-small)

  pub is-linear : length us ≡ length rows → length vs ≡ length columns → length rows ≤ 8 → (judge : Judge) → ((v : ℤ) → unsigned_abs v ≤ greatest_sizes us vs columns → JudgeFits judge v) → IsLinear us rows vs columns judge
  is-linear wide long few_rows judge fits = record {
    wide = wide;
    long = long;
    level = level;
    units = omega (arith, few);
    few = few_rows;
    scores_fit = omega (arith, small_us);
    columns_fit = omega (arith, columns-small);
    rows_fit = omega (arith, mul-le-mul small_us few);
    sums_fit = omega (arith, sizes-small);
    rules_fit = fits;
  }
