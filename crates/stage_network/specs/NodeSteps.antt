-- Nodes of a stage: where they lead, and what is decided of them.
use Rattle.std.specs.Prelude.{ℕ, ℤ, ◌*◌, ◌≤◌, ◌<◌, List, length, map, filter, Bool, false, cond}
use Rattle.std.specs.List.{flat_map, sum_by, AllByRecursion}
use Rattle.weights.specs.declared.tails.Tail.{Tail}
use Rattle.node_pool.specs.Nodes.{Node}
use Rattle.networks.specs.Network.{Network, IsReached}
use Rattle.networks.specs.Completions.{is_inside, total_weight}
use Rattle.networks.specs.Laws.{IsLawful}
use Rattle.networks.specs.Opened.{is_open, is_open_for_some}

-- the node that a choice reaches from a node of stage g
abbrev pub successor : Network → ℕ → Node → List ℕ → Node
successor n g a c = record { key = n.next g a.key c; weight = a.weight * n.weight g a.key c }

-- those that all its choices reach
abbrev pub successors : Network → ℕ → Node → List Node
successors n g a = map (successor n g a) (n.choices g a.key)

-- those of many nodes
abbrev pub all_successors : Network → ℕ → List Node → List Node
all_successors n g nodes = flat_map (successors n g) nodes

-- those that are open for some tail
abbrev pub open_nodes : Network → ℕ → List Node → List Node
open_nodes n g nodes = filter (λ a. is_open_for_some n g a.key) nodes

-- how many are open for a tail
abbrev pub opened_in : Network → Tail → ℕ → List Node → ℕ
opened_in n t g nodes = length (filter (λ a. is_open n t g a.key) nodes)

-- whether a key closes with all its completions extreme for a tail: it is open for none
abbrev pub closes_inside : Network → Tail → ℕ → List ℤ → Bool
closes_inside n t g k = cond (is_open_for_some n g k) false (is_inside (n.verdict t g k))

-- what a node adds to a tail's sum, and all nodes of a stage
abbrev pub closed_part : Network → Tail → ℕ → Node → ℕ
closed_part n t g a = cond (closes_inside n t g a.key) (a.weight * total_weight n g a.key) 0

abbrev pub closed_weight : Network → Tail → ℕ → List Node → ℕ
closed_weight n t g nodes = sum_by (closed_part n t g) nodes

-- each node's key is reached at stage g
abbrev pub AllReached : Network → ℕ → List Node → Type 0
AllReached n g nodes = AllByRecursion (λ a. IsReached n g a.key) nodes

-- each node weighs at least 1
abbrev pub AllHeavy : List Node → Type 0
AllHeavy nodes = AllByRecursion (λ (a : Node). 1 ≤ a.weight) nodes

-- nodes of a stage before the last, from which the next one is filled
pub record AreNodes (n : Network) (g : ℕ) (nodes : List Node) : Type 0 where
  pub lawful : IsLawful n
  pub before : g < n.count
  pub reached : AllReached n g nodes
  pub heavy : AllHeavy nodes
