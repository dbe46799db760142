-- The runs test: whether two labels follow each other in a sequence as by chance, judged by the
-- number of runs (Wald and Wolfowitz, Annals of Mathematical Statistics 11, 1940; Swed and
-- Eisenhart, Annals of Mathematical Statistics 14, 1943), conditional on how many rows have each
-- label. A run is a longest block of equal neighbouring labels.
use Rattle.std.specs.Prelude.{ℕ, pos, ◌+◌, ◌*◌, List, [], ◌∷◌, length, nat_eq, if◌then◌else◌}
use Rattle.std.specs.List.{count_by}
use Rattle.weights.specs.Conditional.{ConditionalTest, every_tail}
use Rattle.labelled.specs.LabelTests.{LabelTest, label_test}
use Rattle.sample_reader.specs.Sequences.{SequenceData}

-- a label before the blocks of those that follow: it joins a first block of its own kind
abbrev pub put_before : ℕ → List (List ℕ) → List (List ℕ)
put_before x ((y ∷ ys) ∷ blocks) =
    if nat_eq x y then (x ∷ y ∷ ys) ∷ blocks else (x ∷ []) ∷ (y ∷ ys) ∷ blocks
put_before x blocks = (x ∷ []) ∷ blocks

-- the longest blocks of equal neighbouring labels
abbrev pub blocks : List ℕ → List (List ℕ)
blocks [] = []
blocks (x ∷ xs) = put_before x (blocks xs)

-- the number of runs
abbrev pub runs : List ℕ → ℕ
runs xs = length (blocks xs)

-- how many rows have a label
abbrev pub rows_with : SequenceData → ℕ → ℕ
rows_with sequence label = count_by (λ l. nat_eq l label) sequence.members

-- how many have each
abbrev pub row_counts : SequenceData → List ℕ
row_counts sequence = rows_with sequence 0 ∷ rows_with sequence 1 ∷ []

-- All ways to label the rows, in the order of the file, with as many of each label. The mean number
-- of runs of N rows, m of the one label and n of the other, is (N + 2 m n) / N.
abbrev pub runs_says : SequenceData → LabelTest
runs_says sequence =
    let rows = length sequence.members in record {
      sizes = row_counts sequence;
      statistic = λ xs. pos (runs xs);
      observed = sequence.members;
      tails = every_tail;
      factor = rows;
      centre = pos (rows + 2 * (rows_with sequence 0 * rows_with sequence 1));
      scale = 1;
      bound = 2 * (rows * rows);
    }

-- the test of them
abbrev pub runs_test : SequenceData → ConditionalTest
runs_test sequence = label_test (runs_says sequence)
