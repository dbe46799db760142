-- Kendall's test transposed: the two values of each subject change places. K stays, and what is
-- counted is in the ratio of the totals.
use Rattle.std.specs.Prelude.{◌≡◌, ℕ, ◌*◌, ◌/◌, map}
use Rattle.weights.specs.declared.lines.Line.{Line}
use Rattle.weights.specs.declared.tails.Tail.{Tail}
use Rattle.weights.specs.Conditional.{distribution, numerator, observed_statistic, total}
use Rattle.sample_reader.specs.Twins.{TwinData}
use Rattle.kendall_test.specs.Kendall.{kendall_test}

abbrev pub transposed_twins : TwinData → TwinData
transposed_twins sample = record { first = sample.second; second = sample.first }

-- a line with its weight in the ratio of two totals
abbrev pub weighed_line : ℕ → ℕ → Line → Line
weighed_line all of line = record { value = line.value; weight = line.weight * all / of }

-- K is the same in two tests, and what is counted is in the ratio of their totals: each tail, and
-- the lines of the distribution
pub record AreInRatio (t u : TwinData) : Type 0 where
  pub observed : observed_statistic (kendall_test t) ≡ observed_statistic (kendall_test u)
  pub numerators : (tail : Tail)
      → numerator (kendall_test t) tail * total (kendall_test u)
      ≡ numerator (kendall_test u) tail * total (kendall_test t)
  pub distributions :
      let weighed = weighed_line (total (kendall_test t)) (total (kendall_test u)) in
      distribution (kendall_test t) ≡ map weighed (distribution (kendall_test u))
