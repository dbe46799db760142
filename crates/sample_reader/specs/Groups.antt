-- Grouped values: each subject has a label and a value.
use Rattle.std.specs.Prelude.{ℕ, ℤ, List, length, [], ◌∷◌, ◌++◌, ◌==◌, Bool, not, if◌then◌else◌}
use Rattle.std.specs.List.{filter, position_or_len}
use Rattle.weights.specs.Labellings.{counts_of}

-- The labels in the order in which they first appear, the number of each subject's label, from 0,
-- and each subject's value in units of 10^-18.
pub record GroupData : Type 0 where
  pub labels : List (List ℕ)
  pub members : List ℕ
  pub values : List ℤ

-- how many subjects each group has
abbrev pub group_sizes : GroupData → List ℕ
group_sizes groups = counts_of (length groups.labels) groups.members

-- the items in the order in which they first appear, each once
abbrev pub first_appearances : {X : Type 0} → (X → X → Bool) → List X → List X
first_appearances same [] = []
first_appearances same (x ∷ xs) = x ∷ filter (λ y. not (same y x)) (first_appearances same xs)

-- the number of an item in a list without repeats: how many items stand before it
abbrev pub number_among : {X : Type 0} → (X → X → Bool) → List X → X → ℕ
number_among same items x = position_or_len (λ y. same y x) items

-- the items, with this one at their end where it is not among them
abbrev pub with_item : {X : Type 0} → (X → X → Bool) → List X → X → List X
with_item same items x =
    if number_among same items x == length items then items ++ x ∷ [] else items
