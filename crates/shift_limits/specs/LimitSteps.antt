-- What is made on the way to limits.
use Rattle.std.specs.Prelude.{◌≡◌, ℕ, ◌+◌, ◌*◌, ◌≤◌, ℤ, pos, int_le, Bool, nat_le, List, length, map, slice_index}
use Rattle.std.specs.List.{range_with_len}
use Rattle.weights.specs.declared.lines.Line.{Line}
use Rattle.record_reader.specs.declared.TheConstants.{MOST_ROWS}
use Rattle.sample_reader.specs.Groups.{GroupData}
use Rattle.sample_reader.specs.Kept.{AreDifferences}
use Rattle.networks.specs.Lines.{WeightsFit, line_sum}
use Rattle.shift_limits.specs.Differences.{differences, decimal_places_of}
use Rattle.shift_limits.specs.LaterPairs.{labellings_below}
use Rattle.shift_limits.specs.declared.differences.Differences.{Differences}

-- the same groups with the values 0, 1, 2 and so on, in the order of the subjects
abbrev pub untied : GroupData → GroupData
untied groups = record {
  labels = groups.labels;
  members = groups.members;
  values = map pos (range_with_len 0 (length groups.values));
}

-- the differences that are made of groups
pub record AreMade (groups : GroupData) (made : Differences) : Type 0 where
  pub places : made.places ≡ decimal_places_of groups
  pub list : made.list.items ≡ differences groups
  pub some : 1 ≤ length (differences groups)
  pub in_range : AreDifferences (differences groups)

-- the doubled rank sum of so many subjects, where these many pairs have the later one of them
abbrev pub rank_sum : ℕ → ℕ → ℤ
rank_sum second pairs = pos (2 * pairs + second * (second + 1))

-- the lines of the doubled rank sum over the labellings of two sizes, without ties
pub record AreRankLines (sizes : List ℕ) (lines : List Line) : Type 0 where
  pub two : length sizes ≡ 2
  pub few : slice_index sizes 1 ≤ MOST_ROWS
  pub fit : WeightsFit lines
  pub counted : (k : ℕ)
      → line_sum (λ v. int_le v (rank_sum (slice_index sizes 1) k)) lines
      ≡ labellings_below sizes (k + 1)

-- at most so many labellings have fewer than k later pairs
abbrev pub is_within : List ℕ → ℕ → ℕ → Bool
is_within sizes most k = nat_le (labellings_below sizes k) most
