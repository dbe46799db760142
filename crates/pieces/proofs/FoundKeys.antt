-- What a sweep finds at a stage, once it is sorted and laid flat, is a cut.
use Rattle.std.proofs.Common.{◌≡◌, ℕ, ◌*◌, ◌≤◌, List, length, map, sym, ◌∙◌, ap, subst, arith}
use Rattle.std.specs.Prelude.{ℤ, IsPermutation}
use Rattle.std.specs.List.{AllByRecursion, IsDistinct}
use Rattle.std.specs.List.Sorted.{IsSortedBy}
use Rattle.std.specs.Ordering.{is_lt}
use Rattle.std.specs.Set.{is_member}
use Rattle.weights.specs.declared.tails.Tail.{Tail}
use Rattle.weights.specs.declared.TheConstants.{MAX}
use Rattle.node_pool.specs.Nodes.{Node, key_eq, keys, is_held, weighted}
use Rattle.node_pool.specs.PoolSteps.{nodes_of}
use Rattle.networks.specs.Completions.{total_weight}
use Rattle.networks.specs.Laws.{IsLawful}
use Rattle.networks.specs.Network.{Network, IsReached}
use Rattle.stage_network.specs.NodeSteps.{AllHeavy, AllReached}
use Rattle.stage_network.specs.declared.ordering.Entry.{Entry}
use Rattle.pieces.specs.Cuts.{IsCutAt, closed_sum, met_sum, keys_open_at}
use Rattle.stage_network.specs.Ordering.{entry_cmp, entry_node}
use Rattle.stage_network.proofs.Ascending.{AllInRooms, same-sums, still_all, still_distinct, still_members, ascending}

-- nodes at the open keys of a stage
pub record AreFound (n : Network) (t : Tail) (at : ℕ) (nodes : List Node) : Type 0 where
  pub within : at ≤ n.count
  pub reached : AllReached n at nodes
  pub heavy : AllHeavy nodes
  pub distinct : IsDistinct key_eq (keys nodes)
  pub fits : weighted (total_weight n at) nodes ≤ MAX
  pub told : (f : List ℤ → ℕ) → weighted f nodes ≡ met_sum n t at f
  pub members : (q : List ℤ) → is_held nodes q ≡ is_member key_eq (keys_open_at n t at) q

module _ (n : Network) (l : IsLawful n) (t : Tail) (at width : ℕ) (nodes : List Node) (found : AreFound n t at nodes) (entries sorted : List Entry) (is : map entry_node entries ≡ nodes) (moved : IsPermutation entries sorted) where
  here : (P : Node → Type 0) → AllByRecursion P nodes → AllByRecursion P (map entry_node entries)
  here P a = subst (AllByRecursion P) (sym is) a

  still-reached : AllReached n at (map entry_node sorted)
  still-reached = still_all entries sorted moved (λ (a : Node). IsReached n at a.key) (here (λ (a : Node). IsReached n at a.key) found.reached)

  solid : AllHeavy (map entry_node entries)
  solid = here (λ (a : Node). 1 ≤ a.weight) found.heavy

  apart : IsDistinct key_eq (keys (map entry_node entries))
  apart = subst (λ ns. IsDistinct key_eq (keys ns)) (sym is) found.distinct

  sums : (f : List ℤ → ℕ) → weighted f (map entry_node sorted) ≡ weighted f nodes
  sums f = same-sums entries sorted moved f ∙ ap (weighted f) is

  pub found-cut : AllInRooms width entries → IsSortedBy (λ a b. is_lt (entry_cmp a b)) sorted → (g closed : ℕ) (row : List ℤ) (weights : List ℕ) → g ≡ at → closed ≡ closed_sum n t at → nodes_of n.width row weights ≡ map entry_node sorted → length row ≡ length weights * n.width → IsCutAt n t g closed row weights
  found-cut rooms rising g closed row weights e closed_is laid long = record {
    within = rw e found.within;
    closed_is = closed_is ∙ ap (closed_sum n t) (sym e);
    starts = record {
      within = rw e found.within;
      long = long;
      reached = rw e (subst (AllReached n at) (sym laid) still-reached);
      heavy = subst AllHeavy (sym laid) (still_all entries sorted moved (λ (a : Node). 1 ≤ a.weight) solid);
      distinct = subst (λ ns. IsDistinct key_eq (keys ns)) (sym laid) (still_distinct entries sorted moved solid apart);
      fits = omega (arith, ap (λ g. weighted (total_weight n g) (nodes_of n.width row weights)) e, ap (weighted (total_weight n at)) laid, sums (total_weight n at), found.fits);
    };
    told = λ f. ap (weighted f) laid ∙ sums f ∙ found.told f ∙ ap (λ g. met_sum n t g f) (sym e);
    ascending = rw laid (ascending entries sorted moved width rooms solid apart rising);
    members = λ q. ap (λ ns. is_held ns q) laid ∙ still_members entries sorted moved solid q ∙ ap (λ ns. is_held ns q) is ∙ found.members q ∙ ap (λ g. is_member key_eq (keys_open_at n t g) q) (sym e);
  }
