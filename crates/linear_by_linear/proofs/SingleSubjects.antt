-- The linear-by-linear test over columns of single subjects: what is summed is the same.
use Rattle.std.proofs.Common.{◌≡◌, ℕ, zero, suc, List, [], ◌∷◌, length, replicate, refl, sym, ◌∙◌, ap, arith}
use Rattle.std.specs.Prelude.{ℤ}
use Rattle.std.specs.List.{sum}
use Rattle.std.proofs.lemmas.List.Sums.{sum_by-cons}
use Rattle.weights.specs.declared.tails.Tail.{Tail}
use Rattle.networks.specs.declared.verdicts.Judge.{Judge}
use Rattle.networks.specs.Judged.{judge_of}
use Rattle.networks.specs.Follows.{Follows}
use Rattle.later_scores.specs.LaterSums.{subjects}
use Rattle.later_scores.proofs.Later.{length-subjects}
use Rattle.label_network.specs.LabelNetwork.{label_network}
use Rattle.label_network.specs.Linear.{IsLinear, linear_statistic}
use Rattle.label_network.proofs.LinearNarrows.{linear_measure}
use Rattle.label_network.proofs.LinearValues.{statistic-value}
use Rattle.labelled.proofs.LabelLaws.{label-follows}
use Rattle.table_sums.specs.Tables.{column_sums, row_sums}
use Rattle.table_sums.proofs.MarginSums.{even}
use Rattle.linear_by_linear.specs.LinearByLinear.{ScoredTable, linear_says, linear_test}
use Rattle.linear_by_linear.specs.LinearNetworks.{subject_meaning}
use Rattle.linear_by_linear.specs.LinearSteps.{AreFitting}
use Rattle.linear_by_linear.proofs.LinearTests.{as-long, as-wide, is-linear}

-- so many columns of one subject
pub single-subjects : (units : List ℤ) → subjects units (replicate (length units) 1) ≡ units
single-subjects [] = refl
single-subjects (v ∷ units) = ap (λ vs. v ∷ vs) (single-subjects units)

pub sum-singles : (n : ℕ) → sum (replicate n 1) ≡ n
sum-singles zero = refl
sum-singles (suc n) = sum_by-cons (λ v. v) 1 (replicate n 1) ∙ omega (arith, sum-singles n)

pub length-singles : (n : ℕ) → length {A = ℕ} (replicate n 1) ≡ n
length-singles zero = refl
length-singles (suc n) = ap suc (length-singles n)

module _ (t : ScoredTable) (f : AreFitting t) where
  abbrev units : List ℤ
  units = subjects t.column_scores (column_sums t.table)

  abbrev singles : List ℕ
  singles = replicate (length units) 1

  level : sum singles ≡ sum (row_sums t.table)
  level = sum-singles (length units) ∙ length-subjects t.column_scores (column_sums t.table) (as-long t f) ∙ even t.table

  pub linear-singles : (judge : Judge) → judge ≡ judge_of (linear_test t) → IsLinear t.row_scores (row_sums t.table) units singles judge
  linear-singles judge e =
      let written : IsLinear t.row_scores (row_sums t.table) t.column_scores (column_sums t.table) judge = is-linear t f judge e in
      record {
        wide = written.wide;
        long = sym (length-singles (length units));
        level = level;
        units = written.units;
        few = written.few;
        scores_fit = written.scores_fit;
        columns_fit = rw (single-subjects units) written.columns_fit;
        rows_fit = written.rows_fit;
        sums_fit = rw (single-subjects units) written.sums_fit;
        rules_fit = rw (single-subjects units) written.rules_fit;
      }

  pub follows-singles : (tail : Tail) → Follows (linear_test t) tail (label_network (subject_meaning t))
  follows-singles =
      let judge : Judge = judge_of (linear_test t) in
      label-follows (linear_says t) (subject_meaning t) (linear_measure t.row_scores (row_sums t.table) units singles judge (linear-singles judge refl)) refl refl
      (λ xs m.
      ap (λ vs. linear_statistic t.row_scores vs xs) (sym (single-subjects units))
      ∙ statistic-value t.row_scores (row_sums t.table) units singles judge (as-wide t f) (sym (length-singles (length units))) xs)
