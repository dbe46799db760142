-- What holds of the linear-by-linear test of a table whose total passes no limit.
use Rattle.std.proofs.Common.{◌≡◌, ℕ, ◌*◌, ◌≤◌, List, length, refl, sym, ◌∙◌, ap, arith}
use Rattle.std.specs.Prelude.{ℤ, Contains, unsigned_abs}
use Rattle.std.specs.List.{sum}
use Rattle.std.proofs.Math.Nat.{mul-le-mul}
use Rattle.std.proofs.lemmas.Int.{unsigned_abs-mul}
use Rattle.weights.specs.declared.rules.Rule.TheVariants.{Far}
use Rattle.weights.specs.declared.TheConstants.{MAX}
use Rattle.weights.specs.Conditional.{observed_statistic}
use Rattle.weights.specs.Grouped.{columns_of}
use Rattle.weights.specs.Labellings.{labellings, number_of_labellings}
use Rattle.weights.specs.Rules.{RuleFits}
use Rattle.weights.proofs.Centred.{far-fits}
use Rattle.weights.proofs.Members.{Contains-labellings}
use Rattle.completion_bounds.specs.Pairings.{greatest_score}
use Rattle.networks.specs.declared.verdicts.Judge.{Judge}
use Rattle.networks.specs.Judged.{judge_of}
use Rattle.later_scores.specs.LaterSums.{subjects}
use Rattle.label_network.specs.LabelNetwork.{label_network}
use Rattle.label_network.specs.Linear.{IsLinear, greatest_sizes, row_sum, table_sum}
use Rattle.label_network.proofs.LinearNarrows.{linear_measure}
use Rattle.label_network.proofs.LinearSizes.{row-size}
use Rattle.label_network.proofs.LinearValues.{statistic-size, statistic-table, statistic-value}
use Rattle.labelled.specs.LabelTests.{IsSound, IsWithin}
use Rattle.labelled.proofs.LabelLaws.{label-judge, label-sound}
use Rattle.table_reader.specs.Data.{table_data_of}
use Rattle.table_reader.specs.declared.tables.Table.{Table}
use Rattle.table_sums.specs.Tables.{column_sums, columns_in, observed_labels, row_sums}
use Rattle.table_sums.specs.TableSteps.{AreScored, AreScores}
use Rattle.table_sums.proofs.MarginSums.{are-columns, even, few-labels, length-columns, length-rows, subjects-few, table-of}
use Rattle.table_sums.proofs.Observed.{observed-columns, observed-labelling}
use Rattle.table_sums.proofs.ProductLimits.{is-linear as linear-within, sizes-small}
use Rattle.linear_by_linear.specs.LinearByLinear.{ScoredTable, linear_says, linear_test}
use Rattle.linear_by_linear.specs.LinearNetworks.{product_meaning}
use Rattle.linear_by_linear.specs.LinearSteps.{AreFitting, scored_of}

pub fitting-of : (t : Table) (us vs : List ℤ) → number_of_labellings (row_sums (table_data_of t)) ≤ MAX → length us ≡ t.rows → length vs ≡ t.columns → AreScores us → AreScores vs → AreFitting (scored_of (table_data_of t) us vs)
fitting-of t us vs total wide long small_us small_vs = record {
  table = table-of t total;
  rows_level = wide;
  columns_level = long;
  row_sizes = small_us;
  column_sizes = small_vs;
}

pub observed-sum : (t : ScoredTable) → length t.row_scores ≡ t.table.rows → table_sum t.row_scores t.column_scores (columns_in t.table) ≡ observed_statistic (linear_test t)
observed-sum t wide =
    sym (
    statistic-table t.row_scores t.column_scores (column_sums t.table) (observed_labels t.table)
    ∙ ap (λ k. table_sum t.row_scores t.column_scores (columns_of k (column_sums t.table) (observed_labels t.table))) wide
    ∙ ap (table_sum t.row_scores t.column_scores) (observed-columns t.table))

module _ (t : ScoredTable) (f : AreFitting t) where
  few : sum (row_sums t.table) ≤ 512000000
  few = subjects-few t.table f.table

  pub as-wide : length t.row_scores ≡ length (row_sums t.table)
  as-wide = f.rows_level ∙ sym (length-rows t.table)

  pub as-long : length t.column_scores ≡ length (column_sums t.table)
  as-long = f.columns_level ∙ sym (length-columns t.table)

  pub are-scored : (xs : List ℕ) → Contains (labellings (row_sums t.table)) xs → AreScored t.row_scores t.column_scores (column_sums t.table) xs
  are-scored xs m = record {
    row_sizes = f.row_sizes;
    column_sizes = f.column_sizes;
    few = omega (arith, as-wide, few-labels t.table f.table);
    level = as-long;
    whole = are-columns t.table f.table xs m;
  }

  -- the summed scores of the rows times those of the columns
  pub rows-fit : greatest_score t.row_scores * sum (row_sums t.table) ≤ MAX
  rows-fit = omega (arith, mul-le-mul f.row_sizes few)

  pub columns-fit : greatest_score t.column_scores * sum (column_sums t.table) ≤ MAX
  columns-fit =
      let columns : sum (column_sums t.table) ≤ 512000000 = omega (arith, even t.table, few) in
      omega (arith, mul-le-mul f.column_sizes columns)

  centre-small : unsigned_abs (row_sum t.row_scores (row_sums t.table)) * unsigned_abs (row_sum t.column_scores (column_sums t.table)) ≤ 262144000000000000000000000000000000
  centre-small =
      let rows : unsigned_abs (row_sum t.row_scores (row_sums t.table)) ≤ 512000000000000000 = omega (arith, row-size t.row_scores (row_sums t.table) 1000000000 f.row_sizes, few) in
      let columns : unsigned_abs (row_sum t.column_scores (column_sums t.table)) ≤ 512000000000000000 = omega (arith, row-size t.column_scores (column_sums t.table) 1000000000 f.column_sizes, few, even t.table) in
      omega (arith, mul-le-mul rows columns)

  pub centre-fits : unsigned_abs (row_sum t.row_scores (row_sums t.table)) * unsigned_abs (row_sum t.column_scores (column_sums t.table)) ≤ MAX
  centre-fits = omega (arith, centre-small)

  value-fits : (v : ℤ) → unsigned_abs v ≤ greatest_sizes t.row_scores t.column_scores (column_sums t.table) → RuleFits (Far (linear_says t).factor (linear_says t).centre 0) v
  value-fits v h =
      let small : unsigned_abs v ≤ 512000000000000000000000000 = omega (arith, h, sizes-small (row_sums t.table) (column_sums t.table) t.row_scores t.column_scores (even t.table) few f.row_sizes f.column_sizes) in
      far-fits (linear_says t).factor (linear_says t).centre v (omega (arith, few))
      (omega (arith, mul-le-mul few small, unsigned_abs-mul (row_sum t.row_scores (row_sums t.table)) (row_sum t.column_scores (column_sums t.table)), centre-small))

  pub is-within : IsWithin (linear_says t)
  is-within = record {
    few = omega (arith, few-labels t.table f.table);
    total_fits = f.table.total_fits;
    shown = refl;
    observed = Contains-labellings (row_sums t.table) (observed_labels t.table) (observed-labelling t.table);
    fits = λ xs m. value-fits _ (statistic-size t.row_scores (subjects t.column_scores (column_sums t.table)) xs);
  }

  pub is-linear : (judge : Judge) → judge ≡ judge_of (linear_test t) → IsLinear t.row_scores (row_sums t.table) t.column_scores (column_sums t.table) judge
  is-linear judge e =
      linear-within (row_sums t.table) (column_sums t.table) t.row_scores t.column_scores (even t.table) few f.row_sizes f.column_sizes as-wide as-long (few-labels t.table f.table) judge
      (λ v h. label-judge (linear_says t) is-within judge e v (value-fits v h))

  pub linear-sound : IsSound (linear_says t) (label_network (product_meaning t)) (label_network (product_meaning t))
  linear-sound =
      let judge : Judge = judge_of (linear_test t) in
      label-sound (linear_says t) (product_meaning t) is-within
      (linear_measure t.row_scores (row_sums t.table) t.column_scores (column_sums t.table) judge (is-linear judge refl)) refl refl
      (λ xs m. statistic-value t.row_scores (row_sums t.table) t.column_scores (column_sums t.table) judge as-wide as-long xs)

  pub bound-fits : (linear_says t).bound ≤ MAX
  bound-fits =
      let squares : sum (row_sums t.table) * sum (row_sums t.table) ≤ 262144000000000000 = omega (arith, mul-le-mul few few) in
      let scores : greatest_score t.row_scores * greatest_score t.column_scores ≤ 1000000000000000000 = omega (arith, mul-le-mul f.row_sizes f.column_sizes) in
      let twice : 2 * (sum (row_sums t.table) * sum (row_sums t.table)) ≤ 524288000000000000 = omega (arith, squares) in
      omega (arith, mul-le-mul twice scores)
