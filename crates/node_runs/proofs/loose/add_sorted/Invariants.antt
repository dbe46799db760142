use Rattle.std.proofs.Common.{◌≡◌, ◌+◌, ◌-◌, ◌≤◌, ℕ, List, length, drop}
use Rattle.std.specs.Prelude.{ℤ}
use Rattle.std.specs.List.{AllByRecursion}
use Rattle.node_pool.specs.Nodes.{Node, weighted}
use Rattle.node_runs.specs.Runs.{loose_nodes}
use Rattle.node_runs.proofs.loose.add_sorted.Given as goal

-- those before the place are in the pool
abbrev pub invariant-loop-place : goal.invariant-loop-place
invariant-loop-place g l =
    let left : List Node = loose_nodes g.C.Count.number (drop l.place l.loose.items) in
    let more : List Node = loose_nodes g.C.Count.number l.fn.loose.items in
    record {
      within : l.place ≤ length l.loose.items;
      one : l.pool.width ≡ 1;
      sums : (f : List ℤ → ℕ) → weighted f l.pool.nodes + weighted f left ≡ weighted f l.fn.pool.nodes + weighted f more;
      heavy : AllByRecursion (λ (a : Node). 1 ≤ a.weight) more → AllByRecursion (λ (a : Node). 1 ≤ a.weight) l.fn.pool.nodes → AllByRecursion (λ (a : Node). 1 ≤ a.weight) l.pool.nodes × AllByRecursion (λ (a : Node). 1 ≤ a.weight) left;
    }

abbrev pub decreases-loop-place : goal.decreases-loop-place
decreases-loop-place g l = length l.loose.items - l.place
