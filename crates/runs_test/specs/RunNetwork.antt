-- The networks of the runs test: a stage is a row, in the order of the file, and its choice says
-- which of two labels it gets. As it is written, a key has how many rows are left to get the first
-- label, the label of the row before, or 2 before the first row, and the runs so far. What runs
-- keeps beside these how many are left to get the second label.
use Rattle.std.specs.Prelude.{ℕ, zero, suc, ◌+◌, ◌-◌, ◌*◌, ℤ, pos, ◌+ℤ◌, nat_abs, List, [], ◌∷◌, drop, get_or, min, replicate, nat_eq, nat_lt, if◌then◌else◌}
use Rattle.networks.specs.declared.verdicts.Judge.{Judge}
use Rattle.weights.specs.declared.tails.Tail.{Tail}
use Rattle.sample_reader.specs.Sequences.{SequenceData}
use Rattle.networks.specs.Judged.{judge_of, rule_in, verdict_of}
use Rattle.networks.specs.Network.{Network}
use Rattle.label_network.specs.LabelNetwork.{label_network}
use Rattle.label_network.specs.Meanings.{Meaning}
use Rattle.runs_test.specs.Runs.{rows_with, runs_test}

-- the numbers of a partial
abbrev pub last_in : List ℤ → ℕ
last_in p = nat_abs (get_or p 0 (pos 0))

abbrev pub runs_so_far : List ℤ → ℤ
runs_so_far p = get_or p 1 (pos 0)

-- a choice for one row has a count of 1 for its label
abbrev pub chosen_label : List ℕ → ℕ
chosen_label c = get_or c 1 0

-- a label that differs from the one before begins a run
abbrev pub begins_run : ℕ → ℕ → ℕ
begins_run last label = if nat_eq last label then 0 else 1

-- how many of each label are still to be given
abbrev pub firsts_in : List ℕ → ℕ
firsts_in r = get_or r 0 0

abbrev pub seconds_in : List ℕ → ℕ
seconds_in r = get_or r 1 0

abbrev pub one_where_some : ℕ → ℕ
one_where_some n = if nat_lt 0 n then 1 else 0

-- the least runs that a rows of the first label and b of the second begin: after the first label,
-- after the second, and with no row before
abbrev pub least_to_come : ℕ → ℕ → ℕ → ℕ
least_to_come zero a b = one_where_some b
least_to_come (suc zero) a b = one_where_some a
least_to_come (suc (suc n)) a b = one_where_some a + one_where_some b

-- the greatest after a label of which r rows are left, and of the other o
abbrev pub most_after : ℕ → ℕ → ℕ
most_after r o = if nat_lt r o then 2 * r + 1 else 2 * o

abbrev pub most_to_come : ℕ → ℕ → ℕ → ℕ
most_to_come zero a b = most_after a b
most_to_come (suc zero) a b = most_after b a
most_to_come (suc (suc n)) a b = 2 * min a b + (if nat_eq a b then 0 else 1)

-- the least and the greatest after each label
abbrev pub runs_outlook : ℕ → ℕ → List ℤ
runs_outlook a b =
    pos (least_to_come 0 a b) ∷ pos (most_to_come 0 a b)
    ∷ pos (least_to_come 1 a b) ∷ pos (most_to_come 1 a b)
    ∷ pos (least_to_come 2 a b) ∷ pos (most_to_come 2 a b) ∷ []

-- The runs of so many rows of the first label and so many of the second, from the least to the
-- greatest number that can still come.
abbrev pub runs_meaning : ℕ → ℕ → Judge → Meaning
runs_meaning a b judge = record {
  columns = replicate (a + b) 1;
  rows = a ∷ b ∷ [];
  slots = 2;
  step_width = 0;
  outlook_width = 6;
  first = pos 2 ∷ pos 0 ∷ [];
  step = λ g r x. [];
  advance = λ g r x p.
      pos (chosen_label x) ∷ (runs_so_far p +ℤ pos (begins_run (last_in p) (chosen_label x))) ∷ [];
  outlook = λ g r. runs_outlook (firsts_in r) (seconds_in r);
  value = runs_so_far;
  low = λ g r p. runs_so_far p +ℤ pos (least_to_come (last_in p) (firsts_in r) (seconds_in r));
  high = λ g r p. runs_so_far p +ℤ pos (most_to_come (last_in p) (firsts_in r) (seconds_in r));
  judge = judge;
}

-- ---- the network as it is written

-- how many rows are left to get the first label, and of so many rows the second
abbrev pub firsts_left : List ℤ → ℕ
firsts_left k = nat_abs (get_or k 0 (pos 0))

abbrev pub seconds_left : ℕ → ℕ → List ℤ → ℕ
seconds_left rows g k = rows - g - firsts_left k

-- the labels that a row can get
abbrev pub labels_for : ℕ → ℕ → List (List ℕ)
labels_for zero zero = []
labels_for zero (suc b) = (1 ∷ []) ∷ []
labels_for (suc a) zero = (0 ∷ []) ∷ []
labels_for (suc a) (suc b) = (0 ∷ []) ∷ (1 ∷ []) ∷ []

-- where a label leads so many rows of the first
abbrev pub firsts_after : ℕ → ℕ → ℕ
firsts_after zero a = a - 1
firsts_after (suc label) a = a

-- the runs so far, and with them as many as can still come
abbrev pub with_runs : (ℕ → ℕ → ℕ → ℕ) → ℕ → ℕ → List ℤ → ℤ
with_runs to_come rows g k = runs_so_far (drop 1 k)
    +ℤ pos (to_come (last_in (drop 1 k)) (firsts_left k) (seconds_left rows g k))

-- of so many rows of the first label and so many of the second
abbrev pub written_runs : ℕ → ℕ → Judge → Network
written_runs a b judge = record {
  count = a + b;
  width = 3;
  choice_width = 1;
  first = pos a ∷ pos 2 ∷ pos 0 ∷ [];
  choices = λ g k. labels_for (firsts_left k) (seconds_left (a + b) g k);
  later = λ g k c.
      if nat_eq (get_or c 0 0) 0 then labels_for 0 (seconds_left (a + b) g k) else [];
  weight = λ g k c. 1;
  next = λ g k c. pos (firsts_after (get_or c 0 0) (firsts_left k)) ∷ pos (get_or c 0 0)
      ∷ (runs_so_far (drop 1 k) +ℤ pos (begins_run (last_in (drop 1 k)) (get_or c 0 0))) ∷ [];
  verdict = λ t g k. verdict_of (rule_in judge t)
      (with_runs least_to_come (a + b) g k) (with_runs most_to_come (a + b) g k);
  value = λ k. runs_so_far (drop 1 k);
}

-- ---- of a sequence

-- as it is written
abbrev pub written_network : SequenceData → Network
written_network sequence =
    written_runs (rows_with sequence 0) (rows_with sequence 1) (judge_of (runs_test sequence))

-- one for all tails
abbrev pub runs_network : SequenceData → Tail → Network
runs_network sequence tail = written_network sequence

-- what is measured where the network runs
abbrev pub sequence_meaning : SequenceData → Meaning
sequence_meaning sequence =
    runs_meaning (rows_with sequence 0) (rows_with sequence 1) (judge_of (runs_test sequence))

-- what runs
abbrev pub running_runs : SequenceData → Tail → Network
running_runs sequence tail = label_network (sequence_meaning sequence)
