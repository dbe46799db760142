-- Words for the bodies of the runs test.
use Rattle.std.specs.Prelude.{◌≡◌, ℕ, ◌+◌, ◌*◌, ◌<◌, ◌≤◌, ℤ, pos, ◌+ℤ◌, nat_abs, List, length, get_or}
use Rattle.std.specs.List.{All}
use Rattle.networks.specs.declared.verdicts.Judge.{Judge}
use Rattle.networks.specs.Judged.{JudgeFits}
use Rattle.weights.specs.declared.TheConstants.{MAX}
use Rattle.weights.specs.Labellings.{number_of_labellings}
use Rattle.record_reader.specs.declared.TheConstants.{MOST_ROWS}
use Rattle.label_network.specs.LabelSteps.{AreSizes}
use Rattle.label_network.specs.Meanings.{sizes_in}
use Rattle.sample_reader.specs.Sequences.{SequenceData}
use Rattle.runs_test.specs.Runs.{row_counts}
use Rattle.runs_test.specs.RunNetwork.{firsts_in, last_in, least_to_come, most_to_come, runs_so_far, seconds_in}

-- a partial has a label, or 2, and a number of runs
pub record AreRunNumbers (p : List ℤ) : Type 0 where
  pub two : length p ≡ 2
  pub last : get_or p 0 (pos 0) ≡ pos (last_in p)
  pub label : last_in p ≤ 2
  pub runs : runs_so_far p ≡ pos (nat_abs (runs_so_far p))
  pub few : nat_abs (runs_so_far p) ≤ MOST_ROWS

-- of few rows it is said how many are still to get the first label, and how many the second
pub record AreTwoSizes (remaining : List ℤ) : Type 0 where
  pub two : length remaining ≡ 2
  pub sizes : AreSizes remaining
  pub few : firsts_in (sizes_in remaining) + seconds_in (sizes_in remaining) ≤ MOST_ROWS

-- the least and the greatest number of runs that can still begin
abbrev pub least_left : List ℤ → List ℤ → ℕ
least_left remaining partial = let left = sizes_in remaining in
    least_to_come (last_in partial) (firsts_in left) (seconds_in left)

abbrev pub most_left : List ℤ → List ℤ → ℕ
most_left remaining partial = let left = sizes_in remaining in
    most_to_come (last_in partial) (firsts_in left) (seconds_in left)

-- few rows, and rules of which no number of runs passes a limit
pub record IsRunning (a b : ℕ) (judge : Judge) : Type 0 where
  pub few : a + b ≤ MOST_ROWS
  pub rules_fit : (n : ℕ) → n ≤ 4 * MOST_ROWS → JudgeFits judge (pos n)

-- what is known of a key, and of the runs that can still begin there
pub record RunSeat (judge : Judge) (remaining partial : List ℤ) : Type 0 where
  pub numbers : AreRunNumbers partial
  pub sizes : AreTwoSizes remaining
  pub low_fits : nat_abs (runs_so_far partial) + least_left remaining partial ≤ 4 * MOST_ROWS
  pub high_fits : nat_abs (runs_so_far partial) + most_left remaining partial ≤ 4 * MOST_ROWS
  pub low : JudgeFits judge (runs_so_far partial +ℤ pos (least_left remaining partial))
  pub high : JudgeFits judge (runs_so_far partial +ℤ pos (most_left remaining partial))

-- the sequence of these labels, of which each row has one
abbrev pub sequence_of : List (List ℕ) → List ℕ → SequenceData
sequence_of labels members = record { labels = labels; members = members }

-- what is known of a sequence whose rows have these counts
pub record AreRuns (sequence : SequenceData) (sizes : List ℕ) : Type 0 where
  pub sizes_are : sizes ≡ row_counts sequence
  pub labels : All (λ label. label < 2) sequence.members
  pub few : length sequence.members ≤ MOST_ROWS
  pub total_fits : number_of_labellings (row_counts sequence) ≤ MAX
