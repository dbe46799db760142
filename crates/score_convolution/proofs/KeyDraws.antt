-- Keys that are sums of scores, with the draws of the subjects who are left after their stage.
use Rattle.std.proofs.Common.{◌≡◌, ℕ, zero, suc, ◌+◌, ◌*◌, ◌^◌, ◌<◌, ◌≤◌, List, [], ◌∷◌, length, take, drop, get_or, Bool, cond, refl, sym, ◌∙◌, ap, arith}
use Rattle.std.specs.Prelude.{ℤ, pos, ◌+ℤ◌}
use Rattle.std.specs.List.{AllByRecursion}
use Rattle.std.proofs.Math.Nat.{mul-le-mul_left}
use Rattle.std.proofs.lemmas.Int.{ints}
use Rattle.std.proofs.lemmas.List.Sums.{sum_by-cons, sum_by_more, sum_by_more_le}
use Rattle.weights.specs.Labellings.{sign_lists}
use Rattle.weights.specs.Rules.{passes}
use Rattle.weights.specs.declared.TheConstants.{MAX}
use Rattle.weights.specs.declared.rules.Rule.{Rule}
use Rattle.weights.specs.declared.tails.Tail.{Tail}
use Rattle.weights.proofs.Sums.{sum_by-same}
use Rattle.node_pool.specs.Nodes.{Node, node, weighted}
use Rattle.node_pool.specs.PoolSteps.{nodes_of}
use Rattle.node_pool.specs.TableSteps.{key_at}
use Rattle.node_pool.proofs.NodeLists.{length-nodes, nodes-at}
use Rattle.networks.specs.Completions.{extreme_weight, total_weight}
use Rattle.networks.specs.Network.{Network, IsReached}
use Rattle.stage_network.specs.FromKeys.{AreStarts}
use Rattle.scores.specs.Scores.{labelled_sum}
use Rattle.score_convolution.specs.Draws.{draw_sum}
use Rattle.score_convolution.specs.DrawRows.{number_of, row_draws}
use Rattle.score_convolution.specs.DrawnSums.{passing_onward}
use Rattle.score_convolution.specs.Meetings.{AreFew, pair_draws}
use Rattle.score_convolution.specs.Sides.{once}
use Rattle.score_convolution.specs.declared.rows.DrawRow.{DrawRow}
use Rattle.score_convolution.proofs.BothParts.{started}
use Rattle.score_convolution.proofs.DrawnLabels.{signed-draws}
use Rattle.score_convolution.proofs.RowPairs.{pairs-most}
use Rattle.score_convolution.proofs.RowSteps.{cells-moved, cells-same, cells_draws}

-- a row that is moved by a key
pub pairs-moved : {K : Type 0} (cells_of : K → List ℕ) (stride : ℕ) (g : ℤ → ℕ) (key : ℤ) (one other : DrawRow K) (lowest : ℤ) (total : ℕ) (tally : K) → tally ≡ one.tally → lowest ≡ one.lowest +ℤ key
    → pair_draws cells_of g stride (record { lowest = lowest; total = total; tally = tally }) other ≡ pair_draws cells_of (λ v. g (key +ℤ v)) stride one other
pairs-moved cells_of stride g key one other lowest total tally same moved =
    let behind : ℤ → ℕ = λ u. row_draws cells_of (λ v. g (u +ℤ v)) stride other in
    ap (λ z. cells_draws behind stride z (cells_of tally)) moved
    ∙ ap (λ t. cells_draws behind stride (one.lowest +ℤ key) (cells_of t)) same
    ∙ cells-moved behind key stride one.lowest (cells_of one.tally)
    ∙ cells-same (λ u. behind (u +ℤ key)) (λ u. row_draws cells_of (λ v. g (key +ℤ (u +ℤ v))) stride other) (λ u. cells-same (λ v. g ((u +ℤ key) +ℤ v)) (λ v. g (key +ℤ (u +ℤ v))) (λ v. ap g (around u v)) stride other.lowest (cells_of other.tally)) stride one.lowest (cells_of one.tally)
  where
    around : (u v : ℤ) → (u +ℤ key) +ℤ v ≡ key +ℤ (u +ℤ v)
    around u v = omega (arith, ints)

-- ---- keys of one number

key-number : (row : List ℤ) (i : ℕ) → number_of (key_at 1 row i) ≡ get_or row i (pos 0)
key-number row i = let e : i * 1 ≡ i = omega arith in rw e (at row i)
  where
    at : (row : List ℤ) (i : ℕ) → get_or (take 1 (drop i row)) 0 (pos 0) ≡ get_or row i (pos 0)
    at [] zero = refl
    at [] (suc i) = refl
    at (x ∷ row) zero = refl
    at (x ∷ row) (suc i) = at row i

-- a product more, of what f says of a key's number
module _ (f : ℤ → ℕ) (row : List ℤ) (weights : List ℕ) (i : ℕ) (low : i < length weights) (sum part : ℕ) (part_is : part ≡ f (get_or row i (pos 0))) (sum_is : sum ≡ weighted (λ k. f (number_of k)) (take i (nodes_of 1 row weights))) where
  abbrev all : List Node
  all = nodes_of 1 row weights

  abbrev none : Node
  none = node [] 0

  here : get_or all i none ≡ node (key_at 1 row i) (get_or weights i 0)
  here = nodes-at 1 row weights i none low

  inside : i < length all
  inside = omega (arith, low, length-nodes 1 row weights)

  at : (get_or all i none).weight * f (number_of (get_or all i none).key) ≡ get_or weights i 0 * part
  at = ap (λ (a : Node). a.weight * f (number_of a.key)) here ∙ ap (λ z. get_or weights i 0 * f z) (key-number row i) ∙ ap (λ m. get_or weights i 0 * m) (sym part_is)

  pub key-more : sum + get_or weights i 0 * part ≡ weighted (λ k. f (number_of k)) (take (i + 1) all)
  key-more = omega (arith, sum_by_more (λ (a : Node). a.weight * f (number_of a.key)) all i none inside, at, sum_is)

  pub key-fits : sum + get_or weights i 0 * part ≤ weighted (λ k. f (number_of k)) all
  key-fits = omega (arith, sum_by_more_le (λ (a : Node). a.weight * f (number_of a.key)) all i none inside, at, sum_is)

-- ---- what is said of keys

pub weighted-same : (f g : List ℤ → ℕ) → ((k : List ℤ) → f k ≡ g k) → (nodes : List Node) → weighted f nodes ≡ weighted g nodes
weighted-same f g e nodes = sum_by-same (λ (a : Node). a.weight * f a.key) (λ (a : Node). a.weight * g a.key) (λ (a : Node). ap (λ m. a.weight * m) (e a.key)) nodes

pub weighted-most : (f g : List ℤ → ℕ) → ((k : List ℤ) → f k ≤ g k) → (nodes : List Node) → weighted f nodes ≤ weighted g nodes
weighted-most f g e [] = omega arith
weighted-most f g e (a ∷ nodes) =
    let now : a.weight * f a.key ≤ a.weight * g a.key = mul-le-mul_left a.weight (e a.key) in
    omega (arith, sum_by-cons (λ (b : Node). b.weight * f b.key) a nodes, sum_by-cons (λ (b : Node). b.weight * g b.key) a nodes, now, weighted-most f g e nodes)

pub weighted-reached : (P : List ℤ → Type 0) (f g : List ℤ → ℕ) → ((k : List ℤ) → P k → f k ≡ g k) → (nodes : List Node) → AllByRecursion (λ (a : Node). P a.key) nodes → weighted f nodes ≡ weighted g nodes
weighted-reached P f g e [] all = refl
weighted-reached P f g e (a ∷ nodes) all =
    let now : a.weight * f a.key ≡ a.weight * g a.key = ap (λ m. a.weight * m) (e a.key all.0) in
    omega (arith, sum_by-cons (λ (b : Node). b.weight * f b.key) a nodes, sum_by-cons (λ (b : Node). b.weight * g b.key) a nodes, now, weighted-reached P f g e nodes all.1)

-- ---- draws onward

-- those with a sum already there
pub onward-draws : (p : ℤ → Bool) (rule : Rule) → ((v : ℤ) → p v ≡ passes rule v) → (v : ℤ) (scores : List ℤ) → draw_sum (λ n u. once p (v +ℤ u)) 0 (pos 0) scores ≡ passing_onward rule v scores
onward-draws p rule same v scores =
    sym (started (λ n. once p) 0 v scores)
    ∙ sym (signed-draws (once p) scores 0 v)
    ∙ sum_by-same (λ xs. once p (v +ℤ labelled_sum 1 scores xs)) (λ xs. cond (passes rule (v +ℤ labelled_sum 1 scores xs)) 1 0) (λ xs. ap (λ b. cond b 1 0) (same (v +ℤ labelled_sum 1 scores xs))) (sign_lists (length scores))

-- the pairs of all keys are within the limit where their draws are
pub pairs-fit : {K : Type 0} (cells_of : K → List ℕ) (limit stride : ℕ) (one other : DrawRow K) → AreFew cells_of limit one other → (p : ℤ → Bool) (nodes : List Node) → weighted (λ k. one.total * other.total) nodes ≤ MAX
    → weighted (λ k. pair_draws cells_of (λ v. once p (number_of k +ℤ v)) stride one other) nodes ≤ MAX
pairs-fit cells_of limit stride one other few p nodes fits = omega (
  arith,
  fits,
  weighted-most (λ k. pair_draws cells_of (λ v. once p (number_of k +ℤ v)) stride one other) (λ k. one.total * other.total) (λ k. pairs-most cells_of stride one other limit few (λ z. p (number_of k +ℤ z))) nodes,
)

-- ---- all keys of a stage

module _ (n : Network) (g : ℕ) (row : List ℤ) (weights : List ℕ) (starts : AreStarts n g row weights) (one : n.width ≡ 1) (left : List ℤ) where
  pub onward-long : length row ≡ length weights
  onward-long = starts.long ∙ ap (λ m. length weights * m) one ∙ omega arith

  pub onward-fits : ((k : List ℤ) → IsReached n g k → total_weight n g k ≡ 2 ^ length left) → weighted (λ k. 2 ^ length left) (nodes_of 1 row weights) ≤ MAX
  onward-fits total =
      let told : weighted (total_weight n g) (nodes_of n.width row weights) ≡ weighted (λ k. 2 ^ length left) (nodes_of 1 row weights) = weighted-reached (IsReached n g) (total_weight n g) (λ k. 2 ^ length left) total (nodes_of n.width row weights) starts.reached ∙ ap (λ m. weighted (λ k. 2 ^ length left) (nodes_of m row weights)) one in
      omega (arith, told, starts.fits)

  pub onward-sum : (t : Tail) (p : ℤ → Bool) (rule : Rule) → ((v : ℤ) → p v ≡ passes rule v) → ((k : List ℤ) → IsReached n g k → extreme_weight n t g k ≡ passing_onward rule (number_of k) left)
      → weighted (λ k. draw_sum (λ m u. once p (number_of k +ℤ u)) 0 (pos 0) left) (nodes_of 1 row weights) ≡ weighted (extreme_weight n t g) (nodes_of n.width row weights)
  onward-sum t p rule pass same =
      ap (λ m. weighted (λ k. draw_sum (λ m u. once p (number_of k +ℤ u)) 0 (pos 0) left) (nodes_of m row weights)) (sym one)
      ∙ weighted-reached (IsReached n g) (λ k. draw_sum (λ m u. once p (number_of k +ℤ u)) 0 (pos 0) left) (extreme_weight n t g) (λ k r. onward-draws p rule pass (number_of k) left ∙ sym (same k r)) (nodes_of n.width row weights) starts.reached
