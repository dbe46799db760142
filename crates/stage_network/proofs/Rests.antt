-- Keys of one room have the same rest, so what is inside of a room can be multiplied at once.
use Rattle.std.proofs.Common.{◌≡◌, ℕ, zero, suc, ◌+◌, ◌-◌, ◌*◌, ◌<◌, ◌≤◌, List, [], ◌∷◌, take, refl, sym, ◌∙◌, ap, subst, arith}
use Rattle.std.specs.Prelude.{ℤ}
use Rattle.std.specs.List.{sum_by, Contains, AllByRecursion}
use Rattle.std.proofs.lemmas.List.Elements.{recursion_from_All, All-contains_itself}
use Rattle.weights.specs.declared.tails.Tail.{Tail}
use Rattle.weights.proofs.Sums.{sum_by-same_where}
use Rattle.node_pool.specs.Nodes.{Node}
use Rattle.networks.specs.Network.{Network, IsReached}
use Rattle.networks.specs.Completions.{total_weight}
use Rattle.networks.specs.Rooms.{AreRoommates, IsRoomed}
use Rattle.stage_network.specs.NodeSteps.{AllReached, closed_weight}
use Rattle.networks.proofs.Steps.{all_paths, all-step, reached-next}
use Rattle.stage_network.proofs.NodeSums.{closed-together, inside_weight}

all_paths-same : (n : Network) (width : ℕ) → IsRoomed n width → (m g : ℕ) (j k : List ℤ) → g + m ≡ n.count → AreRoommates n width g j k → all_paths n m g j ≡ all_paths n m g k
all_paths-same n width roomed zero g j k e mates = refl
all_paths-same n width roomed (suc m) g j k e mates =
    let before : g < n.count = omega arith in
    let same : n.choices g j ≡ n.choices g k = roomed.choices g j k mates in
    let term = λ (i : List ℤ) (c : List ℕ). n.weight g i c * all_paths n m (g + 1) (n.next g i c) in
    all-step n m g j ∙ ap (sum_by (term j)) same
    ∙ sum_by-same_where (Contains (n.choices g k)) (term j) (term k)
    (λ c allowed.
    let next : AreRoommates n width (g + 1) (n.next g j c) (n.next g k c) = record {
      first = reached-next n g j c mates.first before (subst (λ cs. Contains cs c) (sym same) allowed);
      second = reached-next n g k c mates.second before allowed;
      same = roomed.next g j k c mates allowed;
    } in
    rw (roomed.weight g j k c mates allowed, all_paths-same n width roomed m (g + 1) (n.next g j c) (n.next g k c) (omega arith) next) refl)
    (n.choices g k) (recursion_from_All _ _ (All-contains_itself (n.choices g k)))
    ∙ sym (all-step n m g k)

pub total_weight-same : (n : Network) (width : ℕ) → IsRoomed n width → (g : ℕ) (j k : List ℤ) → g ≤ n.count → AreRoommates n width g j k → total_weight n g j ≡ total_weight n g k
unfolding total_weight
total_weight-same n width roomed g j k h mates = all_paths-same n width roomed (n.count - g) g j k (omega arith) mates

module _ (n : Network) (width : ℕ) (roomed : IsRoomed n width) (t : Tail) (g : ℕ) (h : g ≤ n.count) (r : List ℤ) where
  same-totals : (k : List ℤ) → IsReached n g k → take width k ≡ r → (nodes : List Node) → AllReached n g nodes → AllByRecursion (λ (a : Node). take width a.key ≡ r) nodes → AllByRecursion (λ (a : Node). total_weight n g a.key ≡ total_weight n g k) nodes
  same-totals k at room [] reached rooms = tt
  same-totals k at room (a ∷ nodes) reached rooms = (total_weight-same n width roomed g a.key k h (record { first = reached.0; second = at; same = rooms.0 ∙ sym room }), same-totals k at room nodes reached.1 rooms.1)

  pub settled : (inside : ℕ) (k : List ℤ) (nodes : List Node) → AllReached n g nodes → AllByRecursion (λ (a : Node). take width a.key ≡ r) nodes → inside ≡ inside_weight n t g nodes → (0 < inside → IsReached n g k) → take width k ≡ r → closed_weight n t g nodes ≡ inside * total_weight n g k
  settled zero k [] reached rooms is at room = omega arith
  settled zero k (a ∷ nodes) reached rooms is at room =
      let all = a ∷ nodes in
      closed-together n t g (total_weight n g a.key) all (same-totals a.key reached.0 rooms.0 all reached rooms) ∙ ap (λ m. m * total_weight n g a.key) (sym is) ∙ omega arith
  settled (suc m) k nodes reached rooms is at room = closed-together n t g (total_weight n g k) nodes (same-totals k (at (omega arith)) room nodes reached rooms) ∙ ap (λ i. i * total_weight n g k) (sym is)
