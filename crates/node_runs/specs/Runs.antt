-- What it does to keys with weights that a weight is added to one of them: all that is told is what
-- they sum to, and that none weighs nothing.
use Rattle.std.specs.Prelude.{◌≡◌, ℕ, ℤ, ◌+◌, ◌*◌, ◌≤◌, List, [], ◌∷◌, map}
use Rattle.std.specs.List.{AllByRecursion}
use Rattle.node_pool.specs.Nodes.{Node, node, weighted}
use Rattle.node_runs.specs.declared.loose.Lead.{Lead}

-- each sum over the nodes gains this weight at this key
pub record IsGrown (old : List Node) (key : List ℤ) (weight : ℕ) (new : List Node) : Type 0 where
  pub sums : (f : List ℤ → ℕ) → weighted f new ≡ weighted f old + weight * f key
  pub heavy : 1 ≤ weight → AllByRecursion (λ (a : Node). 1 ≤ a.weight) old
      → AllByRecursion (λ (a : Node). 1 ≤ a.weight) new

-- each sum over the nodes gains those of other nodes
pub record IsPoured (old more new : List Node) : Type 0 where
  pub sums : (f : List ℤ → ℕ) → weighted f new ≡ weighted f old + weighted f more
  pub heavy : AllByRecursion (λ (a : Node). 1 ≤ a.weight) more
      → AllByRecursion (λ (a : Node). 1 ≤ a.weight) old
      → AllByRecursion (λ (a : Node). 1 ≤ a.weight) new

-- the nodes of keys that were put aside
abbrev pub loose_nodes : {C : Type 0} → (C → ℕ) → List (Lead C) → List Node
loose_nodes {C = C} number leads =
    map (λ (l : Lead C). node (l.number ∷ []) (number l.weight)) leads

-- nodes, and others that were put aside: each sum over both gains this weight at this key
pub record IsAdded (old loose : List Node) (key : List ℤ) (weight : ℕ)
    (new loose' : List Node) : Type 0 where
  pub sums : (f : List ℤ → ℕ)
      → weighted f new + weighted f loose' ≡ weighted f old + weighted f loose + weight * f key
  pub heavy : 1 ≤ weight → AllByRecursion (λ (a : Node). 1 ≤ a.weight) old
      → AllByRecursion (λ (a : Node). 1 ≤ a.weight) loose
      → AllByRecursion (λ (a : Node). 1 ≤ a.weight) new
      × AllByRecursion (λ (a : Node). 1 ≤ a.weight) loose'
