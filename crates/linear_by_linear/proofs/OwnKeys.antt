-- A sweep of a network that goes on for another one, from that one's keys as they are, at a stage of its own.
use Rattle.std.proofs.Common.{◌≡◌, ℕ, ◌*◌, ◌≤◌, List, sym, ap, subst}
use Rattle.std.specs.Prelude.{ℤ}
use Rattle.weights.specs.declared.tails.Tail.{Tail}
use Rattle.weights.specs.declared.TheConstants.{MAX}
use Rattle.weights.proofs.Filters.{all_weaker}
use Rattle.weights.proofs.Sums.{sum_by-same_where}
use Rattle.node_pool.specs.Nodes.{Node, weighted}
use Rattle.node_pool.specs.PoolSteps.{nodes_of}
use Rattle.networks.specs.Completions.{extreme_weight, total_weight}
use Rattle.networks.specs.GoesOn.{GoesOn}
use Rattle.networks.specs.Network.{Network, IsReached}
use Rattle.stage_network.specs.FromKeys.{AreStarts}

module _ (n q : Network) (wide : q.width ≡ n.width) (g h : ℕ) (on : GoesOn n q g h (λ k. k)) (row : List ℤ) (weights : List ℕ) (starts : AreStarts n g row weights) where
  abbrev own : List Node
  own = nodes_of n.width row weights

  alike : (f e : List ℤ → ℕ) → ((k : List ℤ) → IsReached n g k → f k ≡ e k) → weighted f own ≡ weighted e own
  alike f e same = sum_by-same_where (λ (a : Node). IsReached n g a.key) (λ (a : Node). a.weight * f a.key) (λ (a : Node). a.weight * e a.key) (λ a r. ap (λ v. a.weight * v) (same a.key r)) own starts.reached

  pub own-starts : AreStarts q h row weights
  own-starts = record {
    within = on.within;
    long = rw wide starts.long;
    reached = rw wide (all_weaker (λ (a : Node). IsReached n g a.key) (λ (a : Node). IsReached q h a.key) (λ a r. on.reached a.key r) own starts.reached);
    heavy = rw wide starts.heavy;
    distinct = rw wide starts.distinct;
    fits = subst (λ w. weighted (total_weight q h) (nodes_of w row weights) ≤ MAX) (sym wide) (subst (λ m. m ≤ MAX) (sym (alike (total_weight q h) (total_weight n g) on.total)) starts.fits);
  }

  pub own-sum : (t : Tail) → weighted (extreme_weight q t h) (nodes_of q.width row weights) ≡ weighted (extreme_weight n t g) own
  own-sum t = subst (λ w. weighted (extreme_weight q t h) (nodes_of w row weights) ≡ weighted (extreme_weight n t g) own) (sym wide) (alike (extreme_weight q t h) (extreme_weight n t g) (on.extreme t))
