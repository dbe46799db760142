-- Groups whose labels are put into another order.
use Rattle.std.specs.Prelude.{ℕ, List, [], map, bytes_eq, slice_index_or}
use Rattle.sample_reader.specs.Groups.{GroupData, number_among}
use Rattle.sample_reader.specs.StrataGroups.{StrataGroupData}

-- the number in an order of the label that each member has
abbrev pub renumbered : List (List ℕ) → List (List ℕ) → List ℕ → List ℕ
renumbered order labels members =
    map (λ member. number_among bytes_eq order (slice_index_or labels member [])) members

-- the groups with their labels in this order, and the subjects as they were
abbrev pub reordered : List (List ℕ) → GroupData → GroupData
reordered order groups = record {
  labels = order;
  members = renumbered order groups.labels groups.members;
  values = groups.values;
}

-- the same of groups in strata, which stay as they were
abbrev pub reordered_strata : List (List ℕ) → StrataGroupData → StrataGroupData
reordered_strata order samples = record {
  strata = samples.strata;
  labels = order;
  places = samples.places;
  members = renumbered order samples.labels samples.members;
  values = samples.values;
}
