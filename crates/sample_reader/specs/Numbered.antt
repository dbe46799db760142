-- Items that are numbered in the order in which they first appear.
use Rattle.std.specs.Prelude.{◌≡◌, ◌≢◌, ℕ, ◌<◌, Bool, List, length, map, nat_eq, All, AllPairs, count_by}
use Rattle.sample_reader.specs.Groups.{first_appearances, number_among}

-- The items seen so far have these labels, in the order in which they first appear, and these
-- numbers.
pub record IsNumbered {X : Type 0} (same : X → X → Bool) (seen labels : List X)
    (members : List ℕ) : Type 0 where
  pub in_order : labels ≡ first_appearances same seen
  pub numbers : members ≡ map (number_among same labels) seen
  pub below : All (λ member. member < length labels) members
  pub none_empty : (group : ℕ) → group < length labels
      → 0 < count_by (λ member. nat_eq member group) members
  pub distinct : AllPairs ◌≢◌ labels
