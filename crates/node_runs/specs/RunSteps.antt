-- How runs are merged.
use Rattle.std.specs.Prelude.{◌≡◌, ℕ, ℤ, pos, ◌+◌, ◌*◌, ◌≤◌, ◌<ℤ◌, List, [], ◌∷◌, ◌++◌, length, map, drop, Bool, true, false, ⊤, slice_index_or}
use Rattle.std.specs.List.{AllByRecursion}
use Rattle.node_pool.specs.Nodes.{Node, NodeRow, weighted}
use Rattle.node_pool.specs.Pool.{Pool}
use Rattle.node_runs.specs.Runs.{IsGrown}

-- the first number of a node's key
abbrev pub lead : Node → ℤ
lead a = slice_index_or a.key 0 (pos 0)

abbrev pub leads : List Node → List ℤ
leads nodes = map lead nodes

-- each number is less than all behind it
abbrev pub IsAscending : List ℤ → Type 0
IsAscending [] = ⊤
IsAscending (x ∷ xs) = AllByRecursion (λ y. x <ℤ y) xs × IsAscending xs

-- a number is greater than all these
abbrev pub IsOver : ℤ → List ℤ → Type 0
IsOver z xs = AllByRecursion (λ x. x <ℤ z) xs

-- nodes that a run has passed, and nodes of which it has yet to pass those from a place on
pub record IsMerger (into from : NodeRow) (at count : ℕ) : Type 0 where
  pub done : into.width ≡ 1
  pub left : from.width ≡ 1
  pub within : at ≤ length from.nodes
  pub counted : count ≡ length (into.nodes ++ drop at from.nodes)
  pub ascending : IsAscending (leads (into.nodes ++ drop at from.nodes))

-- nodes were passed from one list to another, and a place moved on by as many
pub record IsPassed (from : List Node) (at : ℕ) (into : NodeRow) (at' : ℕ)
    (into' : NodeRow) : Type 0 where
  pub wide : into'.width ≡ into.width
  pub within : at' ≤ length from
  pub same : into'.nodes ++ drop at' from ≡ into.nodes ++ drop at from

-- a key was taken in, or could not be
abbrev pub IsTaken : List Node → List ℤ → ℕ → List Node → Bool → Type 0
IsTaken old key weight new true = IsGrown old key weight new
IsTaken old key weight new false = new ≡ old

-- while runs are merged the keys are numbers, and the table is empty
pub record IsRunPool (width : ℕ) (is_merging : Bool) (table : Pool) : Type 0 where
  pub wide : table.width ≡ width
  pub one : is_merging ≡ true → width ≡ 1
  pub idle : is_merging ≡ true → table.nodes ≡ []

-- of nodes the first ones are of one key: they weigh this, and the others are left
pub record IsJoined (nodes : List Node) (key : List ℤ) (weight : ℕ)
    (left : List Node) : Type 0 where
  pub sums : (f : List ℤ → ℕ) → weight * f key + weighted f left ≡ weighted f nodes
  pub heavy : AllByRecursion (λ (a : Node). 1 ≤ a.weight) nodes
      → (1 ≤ weight) × AllByRecursion (λ (a : Node). 1 ≤ a.weight) left
