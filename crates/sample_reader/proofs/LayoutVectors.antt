-- Small files by computation: the data of each layout, and the first fault of each faulty file.
use Rattle.std.proofs.Common.{◌≡◌, ℕ, ◌-◌, ◌*◌, ◌^◌, pos, negsuc, List, [], ◌∷◌, codes, Ok, Err, refl}
use Rattle.number_text.specs.NumberTexts.{units_of, value_of}
use Rattle.record_reader.specs.declared.faults.Kind.TheVariants as kind
use Rattle.record_reader.specs.declared.faults.LayoutFault.{LayoutFault}
use Rattle.record_reader.specs.declared.missing.Missing.TheVariants.{Refuse, Drop}
use Rattle.record_reader.specs.declared.picks.Picks.{Picks}
use Rattle.record_reader.specs.declared.faults.LayoutFault.TheVariants.{Columns}
use Rattle.record_reader.specs.declared.picks.Picks.TheVariants.{Natural, Listed}
use Rattle.sample_reader.specs.Twins.{twins_in}
use Rattle.sample_reader.specs.CellLayouts.{binary_blocks_in, blocks_in, differences_in}
use Rattle.sample_reader.specs.Dropped.{dropped_of}
use Rattle.sample_reader.specs.GroupLayout.{groups_in}
use Rattle.sample_reader.specs.Groups.{GroupData, group_sizes}
use Rattle.sample_reader.specs.Orders.{reordered_strata}
use Rattle.sample_reader.specs.Sequences.{sequence_in}
use Rattle.sample_reader.specs.StrataGroups.{StrataGroupData, strata_groups_in}
use Rattle.sample_reader.specs.declared.TheConstants.{MOST_TWINS, MOST_LABELS}
use Rattle.sample_reader.specs.declared.layout.Layout.TheVariants.{Pairs, Groups, Blocks, BinaryBlocks, StrataGroups, Sequence}
use Rattle.record_reader.specs.Layouts.{field_fault, row_fault}

-- a row of one field, of two and of three
abbrev one : List ℕ → List (List ℕ)
one a = a ∷ []

abbrev two : List ℕ → List ℕ → List (List ℕ)
two a b = a ∷ b ∷ []

abbrev three : List ℕ → List ℕ → List ℕ → List (List ℕ)
three a b c = a ∷ b ∷ c ∷ []

abbrev header : List (List ℕ)
header = two (codes "group") (codes "value")

-- ---- groups

most_labels : MOST_LABELS ≡ 8
most_labels = refl

abbrev small : GroupData
small = record {
  labels = (121 ∷ []) ∷ (120 ∷ []) ∷ [];
  members = 0 ∷ 1 ∷ 0 ∷ [];
  values = pos (10 ^ 13) ∷ pos (2 * 10 ^ 18) ∷ negsuc (3 * 10 ^ 18 - 1) ∷ [];
}

small_file : groups_in 2 Refuse Natural (header ∷ two (codes " y\t") (codes "1e-05") ∷ two (codes "x") (codes " 2 ") ∷ two (codes "y") (codes "-3") ∷ []) ≡ Ok small
unfolding units_of value_of
small_file = refl

small_sizes : group_sizes small ≡ 2 ∷ 1 ∷ []
small_sizes = refl

-- a file of two labels at most has this first fault
abbrev IsFaulty : Picks → List (List (List ℕ)) → LayoutFault → Type 0
IsFaulty picks rows fault = groups_in 2 Refuse picks rows ≡ Err fault

not_a_number : IsFaulty Natural (header ∷ two (codes "x") (codes "1") ∷ two (codes "x") (codes "2") ∷ two (codes "y") (codes "1.2.3") ∷ []) (field_fault 4 2 kind.NotNumber)
unfolding units_of value_of
not_a_number = refl

no_header : IsFaulty Natural [] (row_fault 1 kind.NoHeader)
no_header = refl

third_label : IsFaulty Natural (header ∷ two (codes "x") (codes "1") ∷ two (codes "y") (codes "2") ∷ two (codes "z") (codes "3") ∷ []) (field_fault 4 1 kind.GroupTooMany)
unfolding units_of value_of
third_label = refl

short_row : IsFaulty Natural (header ∷ two (codes "x") (codes "1") ∷ one (codes "y") ∷ []) (row_fault 3 kind.FieldCount)
unfolding units_of value_of
short_row = refl

missing_value : IsFaulty Natural (header ∷ two (codes "x") (codes "NA") ∷ []) (field_fault 2 2 kind.Missing)
unfolding units_of value_of
missing_value = refl

large_value : IsFaulty Natural (header ∷ two (codes "x") (codes "1e18") ∷ []) (field_fault 2 2 kind.OutOfRange)
unfolding units_of value_of
large_value = refl

one_label : IsFaulty Natural (header ∷ two (codes "x") (codes "1") ∷ two (codes "x") (codes "2") ∷ []) (row_fault 3 kind.EndsEarly)
unfolding units_of value_of
one_label = refl

only_header : IsFaulty Natural (header ∷ []) (row_fault 1 kind.EndsEarly)
only_header = refl

-- the header's fault comes first, and a row's field count before its fields
wide_header : IsFaulty Natural (three (codes "") (codes "group") (codes "value") ∷ one (codes "") ∷ []) (row_fault 1 kind.FieldCount)
wide_header = refl

long_row : IsFaulty Natural (header ∷ three (codes "") (codes "NA") (codes "1") ∷ []) (row_fault 2 kind.FieldCount)
long_row = refl

unknown_field : IsFaulty (Listed (2 ∷ 4 ∷ [])) (three (codes "") (codes "group") (codes "value") ∷ one (codes "") ∷ []) Columns
unknown_field = refl

-- a fault's field has its number in the file, and the label is read first
label_behind_value : IsFaulty (Listed (3 ∷ 1 ∷ [])) (three (codes "value") (codes "") (codes "group") ∷ three (codes "one") (codes "") (codes " ") ∷ []) (field_fault 2 3 kind.Missing)
label_behind_value = refl

value_before_label : IsFaulty (Listed (3 ∷ 1 ∷ [])) (three (codes "value") (codes "") (codes "group") ∷ three (codes "one") (codes "") (codes "x") ∷ []) (field_fault 2 1 kind.NotNumber)
unfolding units_of value_of
value_before_label = refl

-- ---- pairs

single_values : differences_in Refuse Natural (one (codes "d") ∷ one (codes "1") ∷ one (codes "-2") ∷ one (codes "0") ∷ []) ≡ Ok (pos (10 ^ 18) ∷ negsuc (2 * 10 ^ 18 - 1) ∷ pos 0 ∷ [])
unfolding units_of value_of
single_values = refl

two_values : differences_in Refuse Natural (two (codes "before") (codes "after") ∷ two (codes "1") (codes "2") ∷ two (codes "5") (codes "4") ∷ []) ≡ Ok (pos (10 ^ 18) ∷ negsuc (10 ^ 18 - 1) ∷ [])
unfolding units_of value_of
two_values = refl

turned_values : differences_in Refuse (Listed (2 ∷ 1 ∷ [])) (two (codes "after") (codes "before") ∷ two (codes "3") (codes "1") ∷ []) ≡ Ok (pos (2 * 10 ^ 18) ∷ [])
unfolding units_of value_of
turned_values = refl

no_pairs : differences_in Refuse Natural (one (codes "d") ∷ []) ≡ Err (row_fault 1 kind.EndsEarly)
no_pairs = refl

-- ---- bivariate samples

most_twins : MOST_TWINS ≡ 120
most_twins = refl

turned_twins : twins_in Refuse (Listed (3 ∷ 1 ∷ [])) (three (codes "a") (codes "b") (codes "c") ∷ three (codes "1") (codes "") (codes "2") ∷ three (codes "5") (codes "x") (codes "-4") ∷ [])
    ≡ Ok (record { first = pos (2 * 10 ^ 18) ∷ negsuc (4 * 10 ^ 18 - 1) ∷ []; second = pos (10 ^ 18) ∷ pos (5 * 10 ^ 18) ∷ [] })
unfolding units_of value_of
turned_twins = refl

-- a single value in each row makes no bivariate sample
single_twins : twins_in Refuse Natural (one (codes "d") ∷ one (codes "1") ∷ []) ≡ Err (row_fault 1 kind.FieldCount)
single_twins = refl

-- ---- sequences

labels_in_turn : sequence_in Drop Natural (one (codes "l") ∷ one (codes "b ") ∷ one (codes "NA") ∷ one (codes " ") ∷ one (codes "NA") ∷ one (codes "b") ∷ [])
    ≡ Ok (record { labels = codes "b" ∷ codes "NA" ∷ []; members = 0 ∷ 1 ∷ 1 ∷ 0 ∷ [] })
labels_in_turn = refl

one_left_out : dropped_of Sequence Natural (one (codes "l") ∷ one (codes "b") ∷ one (codes " ") ∷ []) ≡ 1
one_left_out = refl

third_in_turn : sequence_in Refuse Natural (one (codes "l") ∷ one (codes "a") ∷ one (codes "b") ∷ one (codes "c") ∷ []) ≡ Err (field_fault 4 1 kind.GroupTooMany)
third_in_turn = refl

-- ---- groups in strata

abbrev strata_rows : List (List ℕ) → List (List (List ℕ))
strata_rows last = three (codes "s") (codes "g") (codes "v") ∷ three (codes "two") (codes "x") (codes "1") ∷ three (codes "one") (codes "y") (codes "2") ∷ last ∷ []

abbrev two_strata : StrataGroupData
two_strata = record {
  strata = codes "two" ∷ codes "one" ∷ [];
  labels = codes "x" ∷ codes "y" ∷ [];
  places = 0 ∷ 1 ∷ 0 ∷ [];
  members = 0 ∷ 1 ∷ 1 ∷ [];
  values = pos (10 ^ 18) ∷ pos (2 * 10 ^ 18) ∷ pos (10 ^ 18) ∷ [];
}

strata_file : strata_groups_in Refuse Natural (strata_rows (three (codes " two") (codes "y\t") (codes "1"))) ≡ Ok two_strata
unfolding units_of value_of
strata_file = refl

turned_groups : reordered_strata (codes "y" ∷ codes "x" ∷ []) two_strata ≡ record {
  strata = two_strata.strata;
  labels = codes "y" ∷ codes "x" ∷ [];
  places = two_strata.places;
  members = 1 ∷ 0 ∷ 0 ∷ [];
  values = two_strata.values;
}
turned_groups = refl

-- a third label of a group is one too many, at its field, and a third stratum is none
third_group : strata_groups_in Refuse Natural (strata_rows (three (codes "three") (codes "z") (codes "NA"))) ≡ Err (field_fault 4 2 kind.GroupTooMany)
unfolding units_of value_of
third_group = refl

no_stratum : strata_groups_in Refuse Natural (strata_rows (three (codes "") (codes "z") (codes "1"))) ≡ Err (field_fault 4 1 kind.Missing)
unfolding units_of value_of
no_stratum = refl

-- a stratum in dropped rows alone is none
stratum_left_out : strata_groups_in Drop Natural (strata_rows (three (codes "three") (codes "z") (codes "NA")))
    ≡ Ok (record { strata = codes "two" ∷ codes "one" ∷ []; labels = codes "x" ∷ codes "y" ∷ []; places = 0 ∷ 1 ∷ []; members = 0 ∷ 1 ∷ []; values = pos (10 ^ 18) ∷ pos (2 * 10 ^ 18) ∷ [] })
unfolding units_of value_of
stratum_left_out = refl

one_without_value : dropped_of StrataGroups Natural (strata_rows (three (codes "three") (codes "z") (codes "NA"))) ≡ 1
one_without_value = refl

-- ---- blocks

two_blocks : blocks_in Refuse Natural (two (codes "a") (codes "b") ∷ two (codes "1") (codes "2") ∷ two (codes "3") (codes "4") ∷ [])
    ≡ Ok (record { blocks = 2; treatments = 2; cells = pos (10 ^ 18) ∷ pos (2 * 10 ^ 18) ∷ pos (3 * 10 ^ 18) ∷ pos (4 * 10 ^ 18) ∷ [] })
unfolding units_of value_of
two_blocks = refl

picked_treatments : binary_blocks_in Refuse (Listed (3 ∷ 1 ∷ [])) (three (codes "a") (codes "b") (codes "c") ∷ three (codes "0 ") (codes "") (codes "1") ∷ [])
    ≡ Ok (record { blocks = 1; treatments = 2; cells = pos 1 ∷ pos 0 ∷ [] })
picked_treatments = refl

not_binary : binary_blocks_in Refuse Natural (two (codes "a") (codes "b") ∷ two (codes "1") (codes "+1") ∷ []) ≡ Err (field_fault 2 2 kind.NotBinary)
not_binary = refl

missing_binary : binary_blocks_in Refuse Natural (two (codes "a") (codes "b") ∷ two (codes " NA ") (codes "2") ∷ []) ≡ Err (field_fault 2 1 kind.Missing)
missing_binary = refl

one_treatment : blocks_in Refuse Natural (one (codes "a") ∷ one (codes "1") ∷ []) ≡ Err (row_fault 1 kind.FieldCount)
one_treatment = refl

nine_treatments : blocks_in Refuse Natural ((codes "a" ∷ codes "b" ∷ codes "c" ∷ codes "d" ∷ codes "e" ∷ codes "f" ∷ codes "g" ∷ codes "h" ∷ codes "i" ∷ []) ∷ []) ≡ Err (row_fault 1 kind.TooManyColumns)
nine_treatments = refl

-- ---- dropped rows

-- A label in dropped rows alone, and a fault before the missing field or behind it, change nothing. NA is a label.
abbrev gaps : List (List (List ℕ))
gaps = header ∷ two (codes "z") (codes "NA") ∷ two (codes "x") (codes "1") ∷ two (codes " ") (codes "one") ∷ two (codes "NA") (codes "2") ∷ two (codes "w") [] ∷ []

without_gaps : groups_in 2 Drop Natural gaps ≡ Ok (record { labels = codes "x" ∷ codes "NA" ∷ []; members = 0 ∷ 1 ∷ []; values = pos (10 ^ 18) ∷ pos (2 * 10 ^ 18) ∷ [] })
unfolding units_of value_of
without_gaps = refl

three_gaps : dropped_of Groups Natural gaps ≡ 3
three_gaps = refl

first_gap : IsFaulty Natural gaps (field_fault 2 2 kind.Missing)
unfolding units_of value_of
first_gap = refl

-- a row of another width is not dropped
short_gap : groups_in 2 Drop Natural (header ∷ two (codes "x") (codes "1") ∷ one [] ∷ []) ≡ Err (row_fault 3 kind.FieldCount)
unfolding units_of value_of
short_gap = refl

-- nor is one that misses a field which is not picked
abbrev beside : List (List (List ℕ))
beside = three (codes "a") (codes "b") (codes "c") ∷ three (codes "1") (codes "NA") (codes "0") ∷ three [] (codes "1") (codes "1") ∷ three (codes "0") (codes "x") (codes "1") ∷ []

gap_beside : binary_blocks_in Drop (Listed (3 ∷ 1 ∷ [])) beside ≡ Ok (record { blocks = 2; treatments = 2; cells = pos 0 ∷ pos 1 ∷ pos 1 ∷ pos 0 ∷ [] })
gap_beside = refl

one_gap : dropped_of BinaryBlocks (Listed (3 ∷ 1 ∷ [])) beside ≡ 1
one_gap = refl

block_left_out : blocks_in Drop Natural (two (codes "a") (codes "b") ∷ two (codes "1") (codes "2") ∷ two (codes "z") (codes "NA") ∷ two (codes "3") (codes "4") ∷ [])
    ≡ Ok (record { blocks = 2; treatments = 2; cells = pos (10 ^ 18) ∷ pos (2 * 10 ^ 18) ∷ pos (3 * 10 ^ 18) ∷ pos (4 * 10 ^ 18) ∷ [] })
unfolding units_of value_of
block_left_out = refl

-- where no row is left, the last row of the file is named
abbrev all_gaps : List (List (List ℕ))
all_gaps = one (codes "d") ∷ one (codes "NA") ∷ one [] ∷ []

none_left : differences_in Drop Natural all_gaps ≡ Err (row_fault 3 kind.EndsEarly)
none_left = refl

all_dropped : dropped_of Pairs Natural all_gaps ≡ 2
all_dropped = refl

-- a header at fault drops no row
narrow_header : dropped_of Blocks Natural all_gaps ≡ 0
narrow_header = refl
