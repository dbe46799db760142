-- Expanding every node keeps each sum over completions.
use Rattle.std.proofs.Common.{◌≡◌, ℕ, ◌+◌, ◌-◌, ◌*◌, ◌<◌, List, [], ◌∷◌, Bool, true, false, cond, refl, ◌∙◌, ap, arith}
use Rattle.std.specs.Prelude.{ℤ}
use Rattle.std.specs.List.{sum_by, flat_map}
use Rattle.node_pool.specs.Nodes.{Node, weighted}
use Rattle.networks.specs.Network.{Network}
use Rattle.networks.specs.Completions.{ending_weight, path_weight}
use Rattle.stage_network.specs.NodeSteps.{successors, AllReached}
use Rattle.networks.proofs.Steps.{sum_by-same, passing, passing-step, left}
use Rattle.stage_network.proofs.Conserved.{successors-reached, all_append}

-- what is still to come, for keys that pass at the end
abbrev pub to_come : Network → (List ℤ → Bool) → ℕ → List ℤ → ℕ
to_come n p g k = passing n p (n.count - g) g k

pub to_come-step : (n : Network) (p : List ℤ → Bool) (g : ℕ) → g < n.count → (k : List ℤ) → to_come n p g k ≡ sum_by (λ c. n.weight g k c * to_come n p (g + 1) (n.next g k c)) (n.choices g k)
to_come-step n p g h k = ap (λ m. passing n p m g k) (left n g h) ∙ passing-step n p (n.count - (g + 1)) g k

pub all-reached : (n : Network) (g : ℕ) → g < n.count → (nodes : List Node) → AllReached n g nodes → AllReached n (g + 1) (flat_map (successors n g) nodes)
all-reached n g h [] r = tt
all-reached n g h (a ∷ nodes) r = all_append _ (successors n g a) (flat_map (successors n g) nodes) (successors-reached n g h a r.0) (all-reached n g h nodes r.1)

last_one : (n : Network) (p : List ℤ → Bool) (k : List ℤ) → to_come n p n.count k ≡ cond (p k) 1 0
last_one n p k = let none : n.count - n.count ≡ 0 = omega arith in rw none (elim (p k) as (λ b. sum_by (path_weight n n.count k) (cond b ([] ∷ []) []) ≡ cond b 1 0) [ true ↦ refl | false ↦ refl ])

pub to_come-last : (n : Network) (p : List ℤ → Bool) (nodes : List Node) → weighted (to_come n p n.count) nodes ≡ weighted (λ k. cond (p k) 1 0) nodes
to_come-last n p nodes = sum_by-same _ _ (λ a. ap (λ m. a.weight * m) (last_one n p a.key)) nodes

pub to_come-first : (n : Network) (p : List ℤ → Bool) → to_come n p 0 n.first ≡ ending_weight n p
unfolding ending_weight
to_come-first n p = refl
