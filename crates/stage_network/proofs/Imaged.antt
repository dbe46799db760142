-- The images of nodes, gathered one after another; and a sweep that begins from them.
use Rattle.std.proofs.Common.{◌≡◌, ℕ, ◌+◌, ◌*◌, ◌<◌, ◌≤◌, List, [], length, map, take, get_or, refl, sym, ◌∙◌, ap, subst, arith}
use Rattle.std.specs.Prelude.{ℤ, IsPermutation}
use Rattle.std.specs.List.{AllByRecursion, IsDistinct}
use Rattle.weights.specs.declared.tails.Tail.{Tail}
use Rattle.weights.specs.declared.TheConstants.{MAX}
use Rattle.weights.proofs.Filters.{all_map, all_weaker}
use Rattle.weights.proofs.Sums.{sum_by-map, sum_by-same_where}
use Rattle.node_pool.specs.Nodes.{Node, node, key_eq, keys, weighted}
use Rattle.node_pool.specs.PoolSteps.{nodes_of}
use Rattle.node_pool.specs.TableSteps.{key_at}
use Rattle.node_pool.proofs.NodeLists.{length-nodes, nodes-at}
use Rattle.node_runs.specs.Runs.{IsGrown}
use Rattle.networks.specs.Completions.{extreme_weight, total_weight}
use Rattle.networks.specs.Laws.{IsLawful}
use Rattle.networks.specs.Network.{Network, IsReached}
use Rattle.stage_network.specs.FromKeys.{AreStarts}
use Rattle.stage_network.specs.NodeSteps.{AllHeavy, AllReached}
use Rattle.stage_network.proofs.Bounds.{weights-le-weighted}
use Rattle.stage_network.proofs.Gathered.{same-members}
use Rattle.stage_network.proofs.OpenKeys.{same-holds}
use Rattle.stage_network.proofs.Roomwise.{all_at}
use Rattle.stage_network.proofs.Starting.{total-fits, total-more}
use Rattle.networks.specs.GoesOn.{GoesOn, GoesOnAlike}
use Rattle.stage_network.specs.declared.ordering.Entry.{Entry}
use Rattle.stage_network.specs.Images.{AreImages}
use Rattle.stage_network.specs.Ordering.{entry_node}
use Rattle.stage_network.proofs.Ascending.{same-sums, still_all, still_distinct}

-- no image yet
pub none-gathered : (image : List ℤ → List ℤ) (nodes : List Node) (images : List Node) → images ≡ [] → AreImages image (take 0 nodes) images
none-gathered image nodes images e = rw e (record { sums = λ f. refl; heavy = tt })

module _ (n : Network) (l : IsLawful n) (g : ℕ) (row : List ℤ) (weights : List ℕ) (starts : AreStarts n g row weights) (image : List ℤ → List ℤ) where
  abbrev all : List Node
  all = nodes_of n.width row weights

  module _ (i w : ℕ) (low : i < length weights) (w_is : w ≡ get_or weights i 0) where
    -- the next weight, and those before it, are within the limit
    pub next-fits : (images : List Node) → AreImages image (take i all) images → weighted (λ k. 1) images + w ≤ MAX
    next-fits images are =
        omega (
          arith,
          total-fits n g row weights starts i low (λ k. 1) w (weighted (λ k. 1) images) 1 w_is refl (are.sums (λ k. 1)),
          weights-le-weighted n l g starts.within all starts.reached,
          starts.fits,
        )

    pub next-heavy : 1 ≤ w
    next-heavy =
        let at = nodes-at n.width row weights i (node [] 0) low in
        let within : i < length all = omega (arith, low, length-nodes n.width row weights) in
        omega (arith, all_at (λ (a : Node). 1 ≤ a.weight) all i (node [] 0) starts.heavy within, ap (λ (a : Node). a.weight) at, w_is)

    -- one image more
    pub one-gathered : (key : List ℤ) → key ≡ key_at n.width row i → (images more : List Node) → AreImages image (take i all) images → IsGrown images (image key) w more → AreImages image (take (i + 1) all) more
    one-gathered key key_is images more are grown = record {
      sums = λ f. grown.sums f ∙ total-more n g row weights starts i low (λ k. f (image k)) w (weighted f images) (f (image key)) w_is (ap (λ k. f (image k)) key_is) (are.sums f);
      heavy = grown.heavy next-heavy are.heavy;
    }

-- ---- a sweep from the images

module _ (n q : Network) (g h : ℕ) (image : List ℤ → List ℤ) (goes : GoesOn n q g h image) (row : List ℤ) (weights : List ℕ) (starts : AreStarts n g row weights) (images : List Node) (are : AreImages image (nodes_of n.width row weights) images) where
  abbrev nodes : List Node
  nodes = nodes_of n.width row weights

  -- the image of each node
  abbrev each : List Node
  each = map (λ (a : Node). node (image a.key) a.weight) nodes

  each-sums : (f : List ℤ → ℕ) → weighted f images ≡ weighted f each
  each-sums f = are.sums f ∙ sym (sum_by-map (λ (a : Node). a.weight * f a.key) (λ (a : Node). node (image a.key) a.weight) nodes)

  each-reached : AllReached q h each
  each-reached = all_map (λ (a : Node). IsReached q h a.key) (λ (a : Node). node (image a.key) a.weight) nodes (all_weaker (λ (a : Node). IsReached n g a.key) (λ (a : Node). IsReached q h (image a.key)) (λ a r. goes.reached a.key r) nodes starts.reached)

  each-heavy : AllHeavy each
  each-heavy = all_map (λ (a : Node). 1 ≤ a.weight) (λ (a : Node). node (image a.key) a.weight) nodes starts.heavy

  images-reached : AllReached q h images
  images-reached = same-holds (IsReached q h) each images each-reached (same-members images each are.heavy each-heavy each-sums)

  -- what is the same of a key and its image sums to the same
  carried : (f e : List ℤ → ℕ) → ((k : List ℤ) → IsReached n g k → f (image k) ≡ e k) → weighted f images ≡ weighted e nodes
  carried f e same = are.sums f ∙ sum_by-same_where (λ (a : Node). IsReached n g a.key) (λ (a : Node). a.weight * f (image a.key)) (λ (a : Node). a.weight * e a.key) (λ a r. ap (λ v. a.weight * v) (same a.key r)) nodes starts.reached

  -- an image is as wide as a key
  pub images-wide : IsLawful q → (entries : List Entry) → map entry_node entries ≡ images → AllByRecursion (λ (a : Node). length a.key ≡ q.width) (map entry_node entries)
  images-wide l entries is = subst (AllByRecursion (λ (a : Node). length a.key ≡ q.width)) (sym is) (all_weaker (λ (a : Node). IsReached q h a.key) (λ (a : Node). length a.key ≡ q.width) (λ a r. l.long h a.key r) images images-reached)

  module _ (apart : IsDistinct key_eq (keys images)) (entries sorted : List Entry) (is : map entry_node entries ≡ images) (moved : IsPermutation entries sorted) (row' : List ℤ) (weights' : List ℕ) (laid : nodes_of q.width row' weights' ≡ map entry_node sorted) where
    here : (P : Node → Type 0) → AllByRecursion P images → AllByRecursion P (nodes_of q.width row' weights')
    here P a = subst (AllByRecursion P) (sym laid) (still_all entries sorted moved P (subst (AllByRecursion P) (sym is) a))

    laid-sums : (f : List ℤ → ℕ) → weighted f (nodes_of q.width row' weights') ≡ weighted f images
    laid-sums f = ap (weighted f) laid ∙ same-sums entries sorted moved f ∙ ap (weighted f) is

    pub image-starts : length row' ≡ length weights' * q.width → AreStarts q h row' weights'
    image-starts long = record {
      within = goes.within;
      long = long;
      reached = here (λ (a : Node). IsReached q h a.key) images-reached;
      heavy = here (λ (a : Node). 1 ≤ a.weight) are.heavy;
      distinct = subst (λ ns. IsDistinct key_eq (keys ns)) (sym laid) (still_distinct entries sorted moved (subst AllHeavy (sym is) are.heavy) (subst (λ ns. IsDistinct key_eq (keys ns)) (sym is) apart));
      fits = omega (arith, laid-sums (total_weight q h), carried (total_weight q h) (total_weight n g) goes.total, starts.fits);
    }

    pub image-sum : (t : Tail) → weighted (extreme_weight q t h) (nodes_of q.width row' weights') ≡ weighted (extreme_weight n t g) nodes
    image-sum t = laid-sums (extreme_weight q t h) ∙ carried (extreme_weight q t h) (extreme_weight n t g) (goes.extreme t)

-- ---- keys that are their own images

module _ (n q : Network) (goes : GoesOnAlike n q) (g : ℕ) (row : List ℤ) (weights : List ℕ) (starts : AreStarts n g row weights) where
  abbrev own : List Node
  own = nodes_of n.width row weights

  on : GoesOn n q g g (λ k. k)
  on = goes.goes_on g starts.within

  alike : (f e : List ℤ → ℕ) → ((k : List ℤ) → IsReached n g k → f k ≡ e k) → weighted f own ≡ weighted e own
  alike f e same = sum_by-same_where (λ (a : Node). IsReached n g a.key) (λ (a : Node). a.weight * f a.key) (λ (a : Node). a.weight * e a.key) (λ a r. ap (λ v. a.weight * v) (same a.key r)) own starts.reached

  pub own-starts : AreStarts q g row weights
  own-starts = record {
    within = on.within;
    long = rw goes.wide starts.long;
    reached = rw goes.wide (all_weaker (λ (a : Node). IsReached n g a.key) (λ (a : Node). IsReached q g a.key) (λ a r. on.reached a.key r) own starts.reached);
    heavy = rw goes.wide starts.heavy;
    distinct = rw goes.wide starts.distinct;
    fits = subst (λ w. weighted (total_weight q g) (nodes_of w row weights) ≤ MAX) (sym goes.wide) (subst (λ m. m ≤ MAX) (sym (alike (total_weight q g) (total_weight n g) on.total)) starts.fits);
  }

  pub own-sum : (t : Tail) → weighted (extreme_weight q t g) (nodes_of q.width row weights) ≡ weighted (extreme_weight n t g) own
  own-sum t = subst (λ w. weighted (extreme_weight q t g) (nodes_of w row weights) ≡ weighted (extreme_weight n t g) own) (sym goes.wide) (alike (extreme_weight q t g) (extreme_weight n t g) (on.extreme t))
