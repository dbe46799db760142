-- What a measure measures of labellings, column by column, and what it knows on the way.
use Rattle.std.specs.Prelude.{◌≡◌, ◌≢◌, ℕ, zero, suc, ◌+◌, ◌≤◌, ◌<◌, ℤ, pos, List, [], ◌++◌, length, map, take, drop, filter, slice_index, Bool, true, false, nat_lt, if◌then◌else◌}
use Rattle.std.specs.List.{Contains}
use Rattle.weights.specs.declared.tails.Tail.{Tail}
use Rattle.weights.specs.Grouped.{choices, columns_of, minus}
use Rattle.weights.specs.Labellings.{labellings, number_of_labellings}
use Rattle.networks.specs.declared.stages.Verdict.{Verdict}
use Rattle.networks.specs.declared.stages.Verdict.TheVariants.{Inside, Outside, Undecided}
use Rattle.networks.specs.Completions.{ends_inside, path_end}
use Rattle.networks.specs.Laws.{IsSound}
use Rattle.networks.specs.Network.{Network, IsReached}
use Rattle.room_network.specs.Meanings.{Meaning as RoomMeaning, verdict_at}
use Rattle.label_network.specs.ChoiceOrder.{later_choices}
use Rattle.label_network.specs.LabelRooms.{IsLabelled}
use Rattle.label_network.specs.Meanings.{sizes_in}

pub record Measured : Type 0 where
  -- how many subjects each column has, and how many get each label
  pub columns : List ℕ
  pub rows : List ℕ
  -- how many numbers a partial has
  pub slots : ℕ
  -- the partial before the first column
  pub first : List ℤ
  -- of a stage, the sizes that remain, a choice and a partial: the partial that the choice leads to
  pub advance : ℕ → List ℤ → List ℕ → List ℤ → List ℤ
  -- of a tail, a stage, the sizes that remain and a partial: what is known of their completions
  pub verdict : Tail → ℕ → List ℤ → List ℤ → Verdict
  -- the value of a partial after the last column
  pub value : List ℤ → ℤ

-- the counts that the column of a stage can be given where sizes remain
abbrev pub allowed : Measured → ℕ → List ℤ → List (List ℕ)
allowed m g remaining = choices (slice_index m.columns g) (sizes_in remaining)

-- the sizes that remain after a choice
abbrev pub left_after : List ℤ → List ℕ → List ℤ
left_after remaining c = map pos (minus (sizes_in remaining) c)

-- these sizes and this partial are reached together by choices for the columns before stage g
abbrev pub AreReached : Measured → ℕ → List ℤ → List ℤ → Type 0
AreReached m zero r p = (r ≡ map pos m.rows) × (p ≡ m.first)
AreReached m (suc g) r p =
    (s : List ℤ) × (q : List ℤ) × (c : List ℕ) × AreReached m g s q × (g < length m.columns)
    × Contains (allowed m g s) c × (r ≡ left_after s c) × (p ≡ m.advance g s c q)

-- a partial that is reached after the last column
pub record IsEnd (m : Measured) (partial : List ℤ) : Type 0 where
  pub remaining : List ℤ
  pub reached : AreReached m (length m.columns) remaining partial

abbrev pub remaining_of : Measured → List ℤ → List ℤ
remaining_of m k = take (length m.rows) k

abbrev pub partial_of : Measured → List ℤ → List ℤ
partial_of m k = drop (length m.rows) k

-- the network of a measure: a key has the sizes that remain, and then the partial
abbrev pub measured_network : Measured → Network
measured_network m = record {
  count = length m.columns;
  width = length m.rows + m.slots;
  choice_width = length m.rows;
  first = map pos m.rows ++ m.first;
  choices = λ g k. if nat_lt g (length m.columns) then allowed m g (remaining_of m k) else [];
  later = λ g k c. later_choices (slice_index m.columns g) (sizes_in (remaining_of m k)) c;
  weight = λ g k c. number_of_labellings c;
  next = λ g k c. left_after (remaining_of m k) c
      ++ m.advance g (remaining_of m k) c (partial_of m k);
  verdict = λ t g k. m.verdict t g (remaining_of m k) (partial_of m k);
  value = λ k. m.value (partial_of m k);
}

-- What a measure owes, whatever its verdicts come of: they are sound over the completions of its
-- columns and rows, and decided after the last column.
pub record IsMeasure (m : Measured) : Type 0 where
  pub wide : (g : ℕ) (r p : List ℤ) → AreReached m g r p → length p ≡ m.slots
  pub inside : IsSound (measured_network m) Inside true
  pub outside : IsSound (measured_network m) Outside false
  pub decided : (t : Tail) (k : List ℤ) → IsReached (measured_network m) (length m.columns) k
      → (measured_network m).verdict t (length m.columns) k ≢ Undecided

-- columns and rows that are the measure's, of which there are few enough
pub record AreMargins (m : Measured) (columns rows : List ℕ) : Type 0 where
  pub columns_are : columns ≡ m.columns
  pub rows_are : rows ≡ m.rows
  pub labelled : IsLabelled columns rows
  pub some : 2 ≤ length rows
  pub wide : length rows + m.slots ≤ 16

-- the completion of a labelling of single subjects: its choice for a column counts the labels of
-- the column's subjects, which are consecutive
abbrev pub completion_of : Measured → List ℕ → List (List ℕ)
completion_of m xs = columns_of (length m.rows) m.columns xs

-- how many labellings have a value that passes
abbrev pub passing_labellings : Measured → (ℤ → Bool) → ℕ
passing_labellings m p =
    let n = measured_network m in
    length (filter (λ xs. p (n.value (path_end n 0 n.first (completion_of m xs))))
    (labellings m.rows))

-- how many are extreme for a tail
abbrev pub extreme_labellings : Measured → Tail → ℕ
extreme_labellings m t =
    let n = measured_network m in
    length (filter (λ xs. ends_inside n t 0 n.first (completion_of m xs)) (labellings m.rows))

-- a measure by intervals of rooms, those of labels over these columns and rows
abbrev pub by_intervals : List ℕ → List ℕ → RoomMeaning → Measured
by_intervals columns rows m = record {
  columns = columns;
  rows = rows;
  slots = m.slots;
  first = m.first;
  advance = m.advance;
  verdict = verdict_at m;
  value = m.value;
}
