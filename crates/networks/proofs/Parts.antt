-- What an additive network owes of the parts that its rearrangements are made of, one for each stage.
use Rattle.std.proofs.Common.{◌≡◌, ℕ, ◌+◌, ◌*◌, List, [], ◌∷◌, Bool, true, length, filter}
use Rattle.std.specs.Prelude.{ℤ}
use Rattle.std.specs.List.{sum_by, AllByRecursion}
use Rattle.weights.specs.Labellings.{product}
use Rattle.networks.specs.PartialSums.{plus}
use Rattle.networks.specs.Addends.{Addends}
use Rattle.networks.proofs.Swaps.{swap_at}

-- what a part of a rearrangement weighs and adds, by its stage
pub record Pieces : Type 0 where
  pub mass : ℕ → List ℕ → ℕ
  pub added : ℕ → List ℕ → List ℤ

-- what is left of the sums after a member of a product, one part for each stage
abbrev pub summed : {X : Type 0} → (ℕ → X → List ℤ) → ℕ → List ℤ → List X → List ℤ
summed added g k [] = k
summed added g k (x ∷ xs) = summed added (g + 1) (plus k (added g x)) xs

-- the product of the weights of its parts
abbrev pub product_weight : {X : Type 0} → (ℕ → X → ℕ) → ℕ → List X → ℕ
product_weight mass g [] = 1
product_weight mass g (x ∷ xs) = mass g x * product_weight mass (g + 1) xs

-- the summed weight of the members of a product whose sums pass, from stage g on
abbrev pub gathered : Pieces → (List ℤ → Bool) → ℕ → List ℤ → List (List (List ℕ)) → ℕ
gathered ps p g k parts = sum_by (product_weight ps.mass g) (filter (λ xs. p (summed ps.added g k xs)) (product parts))

-- A stage's choices are its part, grouped by what they add; and where sums are kept ascending, two neighbours may change places.
pub record IsStage (a : Addends) (ps : Pieces) (g : ℕ) (part : List (List ℕ)) : Type 0 where
  pub same : (f : List ℤ → ℕ) → sum_by (λ x. ps.mass g x * f (ps.added g x)) part ≡ sum_by (λ c. a.weight g c * f (a.adds g c)) (a.choices g)
  pub closed : a.sorted ≡ true → (i : ℕ) (f : List ℤ → ℕ) → sum_by (λ x. ps.mass g x * f (swap_at i (ps.added g x))) part ≡ sum_by (λ x. ps.mass g x * f (ps.added g x)) part
  -- each adds one number to each sum
  pub wide : AllByRecursion (λ x. length (ps.added g x) ≡ a.slots) part

-- each stage from g on owes it of its part
abbrev pub AreStages : Addends → Pieces → ℕ → List (List (List ℕ)) → Type 0
AreStages a ps g [] = Unit {0}
AreStages a ps g (part ∷ parts) = IsStage a ps g part × AreStages a ps (g + 1) parts
