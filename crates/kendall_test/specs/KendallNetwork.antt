-- The network of Kendall's test: after the room comes K so far, of the pairs with a placed subject.
use Rattle.std.specs.Prelude.{ℕ, ◌+◌, ◌*◌, ℤ, pos, ◌-ℤ◌, List, [], ◌∷◌, length, drop}
use Rattle.std.specs.List.{sum}
use Rattle.weights.specs.declared.tails.Tail.{Tail}
use Rattle.weights.specs.Grouped.{minus}
use Rattle.sample_reader.specs.Twins.{TwinData}
use Rattle.sample_reader.specs.PooledSample.{values_of}
use Rattle.networks.specs.Judged.{judge_of}
use Rattle.networks.specs.Network.{Network}
use Rattle.networks.specs.declared.verdicts.Judge.{Judge}
use Rattle.room_network.specs.Meanings.{Meaning}
use Rattle.room_network.specs.Numbers.{Numbers, scalar_meaning}
use Rattle.room_network.specs.RoomNetworks.{room_network}
use Rattle.room_network.specs.declared.numbers.Operation.TheVariants.{Sum}
use Rattle.label_network.specs.LabelRooms.{label_weight}
use Rattle.pooled_columns.specs.PooledColumns.{column_sizes}
use Rattle.concordant_pairs.specs.ConcordantPairs.{pairs_across}
use Rattle.kendall_test.specs.Kendall.{kendall_subjects, kendall_test}
use Rattle.kendall_test.specs.KendallRooms.{counts_left, kendall_floor}

-- the concordant pairs of a subject here and a later one: those where the later one has the greater
-- second value, by the counts of both
abbrev pub concordant_pairs : List ℕ → List ℕ → ℕ
concordant_pairs [] later = 0
concordant_pairs (a ∷ here) [] = 0
concordant_pairs (a ∷ here) (b ∷ later) = a * sum later + concordant_pairs here later

-- what subjects add with those that are placed later: the concordant pairs, less the discordant
abbrev pub concordance : List ℕ → List ℕ → ℤ
concordance here later = pos (concordant_pairs here later) -ℤ pos (concordant_pairs later here)

-- the pairs of subjects not yet placed before stage g that have distinct first values
abbrev pub open_pairs : List ℕ → ℕ → ℕ
open_pairs columns g = pairs_across (drop g columns)

-- what a choice adds
abbrev pub concordance_added : List ℕ → ℕ → ℕ → List ℤ → List ℕ → ℤ
concordance_added columns m g room c = concordance c (minus (counts_left columns m g room) c)

abbrev pub kendall_numbers : List ℕ → List ℕ → Judge → Numbers (List ℤ)
kendall_numbers columns rows judge = record {
  operation = Sum;
  step = λ g room c. concordance_added columns (length rows) g room c;
  least = λ g room. pos 0 -ℤ pos (open_pairs columns g);
  greatest = λ g room. pos (open_pairs columns g);
  judge = judge;
}

abbrev pub kendall_meaning : List ℕ → List ℕ → Judge → Meaning
kendall_meaning columns rows judge =
    scalar_meaning (kendall_floor columns rows) (kendall_numbers columns rows judge)

abbrev pub sample_meaning : TwinData → Meaning
sample_meaning sample = kendall_meaning (column_sizes (values_of (kendall_subjects sample)))
    (column_sizes sample.second) (judge_of (kendall_test sample))

abbrev pub kendall_stages : TwinData → Network
kendall_stages sample = room_network (sample_meaning sample) label_weight

-- one network for all tails
abbrev pub kendall_network : TwinData → Tail → Network
kendall_network sample tail = kendall_stages sample
