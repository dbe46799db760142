-- The nodes of one room, one after another: what is kept and closed of them.
use Rattle.std.proofs.Common.{◌≡◌, ◌<◌, ◌≤◌, ◌+◌, ◌*◌, ◌++◌, ◌∷◌, ℕ, List, [], length, get_or, take, cond, ap, sym, subst, ◌∙◌, arith}
use Rattle.std.specs.Prelude.{ℤ}
use Rattle.std.proofs.lemmas.List.{take_all, length-take-le}
use Rattle.std.proofs.lemmas.List.Filters.{length-filter_more}
use Rattle.weights.specs.declared.TheConstants.{MAX}
use Rattle.weights.specs.declared.tails.Tail.{Tail}
use Rattle.node_pool.specs.Nodes.{Node, node, weighted}
use Rattle.networks.specs.Network.{Network, IsReached}
use Rattle.networks.specs.Completions.{total_weight}
use Rattle.networks.specs.Laws.{IsLawful}
use Rattle.networks.specs.Opened.{is_open, is_open_for_some}
use Rattle.networks.specs.Rooms.{IsPlace, IsRoomed}
use Rattle.stage_network.specs.NodeSteps.{AllReached, closes_inside, closed_weight, open_nodes, opened_in}
use Rattle.stage_network.specs.ArcSteps.{lift}
use Rattle.stage_network.proofs.Bounds.{weights-le-weighted}
use Rattle.stage_network.proofs.NodeSums.{inside-more, inside-fits, closed-le-weighted, length-filter-le, filter-both, open-for, inside_weight}
use Rattle.stage_network.proofs.Rests.{settled}
use Rattle.stage_network.proofs.Roomwise.{kept-next, take-next, lift-length, lift-at, lift-rooms, front-room}
use Rattle.stage_network.proofs.Stepping.{is_node, reached_at}

-- a node of the room, by its place and what was read there
module _ (r : List ℤ) (partials : List Node) (i : ℕ) (few : i < length partials) (p : List ℤ) (w : ℕ) (key : (d : Node) → p ≡ (get_or partials i d).key) (weight : (d : Node) → w ≡ (get_or partials i d).weight) where
  pub low : i < length (lift r partials)
  low = omega (arith, few, lift-length r partials)

  whole : (d : Node) → r ++ p ≡ (get_or (lift r partials) i d).key
  whole d = ap (λ x. r ++ x) (key d) ∙ sym (ap (λ (a : Node). a.key) (lift-at r partials i d d few))

  heavy : (d : Node) → w ≡ (get_or (lift r partials) i d).weight
  heavy d = weight d ∙ sym (ap (λ (a : Node). a.weight) (lift-at r partials i d d few))

  is : node (r ++ p) w ≡ get_or (lift r partials) i (node (r ++ p) w)
  is = is_node (lift r partials) i low (node [] 0) (r ++ p) w (whole (node [] 0)) (heavy (node [] 0))

  pub next-kept : take (i + 1) (lift r partials) ≡ take i (lift r partials) ++ node (r ++ p) w ∷ []
  next-kept = take-next (lift r partials) i (node (r ++ p) w) low is

  pub next-open : (n : Network) (g : ℕ) (kept kept' old : List Node) → kept ≡ old ++ open_nodes n g (take i (lift r partials)) → kept' ≡ kept ++ cond (is_open_for_some n g (r ++ p)) (node (r ++ p) w ∷ []) [] → kept' ≡ old ++ open_nodes n g (take (i + 1) (lift r partials))
  next-open n g kept kept' old was step = kept-next (is_open_for_some n g) (lift r partials) i low (node [] 0) (r ++ p) w (whole (node [] 0)) (heavy (node [] 0)) kept kept' old was step

  module _ (n : Network) (t : Tail) (g : ℕ) where
    pub next-opened : (opened opened' : ℕ) → opened ≡ opened_in n t g (take i (lift r partials)) → opened' ≡ opened + cond (is_open n t g (r ++ p)) 1 0 → opened' ≡ opened_in n t g (take (i + 1) (lift r partials))
    next-opened opened opened' was step =
        omega (arith, step, was, length-filter_more (λ (a : Node). is_open n t g a.key) (lift r partials) i (node (r ++ p) w) low, ap {B = ℕ} (λ (a : Node). cond (is_open n t g a.key) 1 0) is)

    pub opened-few : (opened : ℕ) → opened ≡ opened_in n t g (take i (lift r partials)) → opened ≤ i
    opened-few opened was = omega (arith, was, length-filter-le (λ (a : Node). is_open n t g a.key) (take i (lift r partials)), length-take-le i (lift r partials) (omega (arith, low)))

    pub next-inside : (inside inside' : ℕ) → inside ≡ inside_weight n t g (take i (lift r partials)) → inside' ≡ inside + cond (closes_inside n t g (r ++ p)) w 0 → inside' ≡ inside_weight n t g (take (i + 1) (lift r partials))
    next-inside inside inside' was step = omega (arith, step, was, inside-more n t g (lift r partials) i (node (r ++ p) w) low is)

    pub next-fits : IsLawful n → g ≤ n.count → AllReached n g (lift r partials) → (sum inside : ℕ) → sum + weighted (total_weight n g) (lift r partials) ≤ MAX → inside ≡ inside_weight n t g (take i (lift r partials)) → inside + w ≤ MAX
    next-fits lawful h reached sum inside fits was = omega (arith, inside-fits n t g (lift r partials) i (node (r ++ p) w) low is, weights-le-weighted n lawful g h (lift r partials) reached, was, fits)

-- those that are open for a tail are open for some
pub opened-le : (n : Network) (t : Tail) (g : ℕ) (nodes : List Node) → opened_in n t g nodes ≤ length (open_nodes n g nodes)
opened-le n t g nodes = omega (arith, ap length (filter-both (is_open n t g) (is_open_for_some n g) (open-for n t g) nodes), length-filter-le (λ (a : Node). is_open n t g a.key) (open_nodes n g nodes))

-- the key of a node of the room is reached
pub in_room : (n : Network) (g : ℕ) (r : List ℤ) (partials : List Node) (i : ℕ) (p : List ℤ) → AllReached n g (lift r partials) → i < length partials → ((d : Node) → p ≡ (get_or partials i d).key) → IsReached n g (r ++ p)
in_room n g r partials i p reached few key =
    let d = node [] 0 in
    let whole : (get_or (lift r partials) i d).key ≡ r ++ p = ap (λ (a : Node). a.key) (lift-at r partials i d d few) ∙ sym (ap (λ x. r ++ x) (key d)) in
    subst (IsReached n g) whole (reached_at n g (lift r partials) i d reached (omega (arith, few, lift-length r partials)))

-- the room of nodes is that of a reached key
pub first-place : (n : Network) (width g : ℕ) (r : List ℤ) (partials : List Node) → AllReached n g (lift r partials) → length r ≡ width → 0 < length partials → IsPlace n width g r
first-place n width g r [] reached long some = absurd (omega (arith, some))
first-place n width g r (a ∷ partials) reached long some = record { partial = a.key; wide = long; reached = reached.0 }

-- all of them
pub all-nodes : (r : List ℤ) (partials : List Node) (i : ℕ) → length partials ≤ i → take i (lift r partials) ≡ lift r partials
all-nodes r partials i last = take_all i (lift r partials) (omega (arith, last, lift-length r partials))

-- what is closed of them, by the first one's partial
pub closed_is : (n : Network) (t : Tail) (width g : ℕ) (r : List ℤ) (partials : List Node) (i inside : ℕ) (p : List ℤ) → IsRoomed n width → length r ≡ width → g ≤ n.count → AllReached n g (lift r partials) → 0 < length partials → length partials ≤ i → inside ≡ inside_weight n t g (take i (lift r partials)) → ((d : Node) → p ≡ (get_or partials 0 d).key) → closed_weight n t g (lift r partials) ≡ inside * total_weight n g (r ++ p)
closed_is n t width g r partials i inside p roomed long h reached some last was key =
    settled n width roomed t g h r inside (r ++ p) (lift r partials) reached (lift-rooms width r partials long) (was ∙ ap (inside_weight n t g) (all-nodes r partials i last)) (λ weighs. in_room n g r partials 0 p reached some key) (front-room width r p long)

pub closed-fits : (n : Network) (t : Tail) (g : ℕ) (nodes : List Node) (sum closed : ℕ) → sum + weighted (total_weight n g) nodes ≤ MAX → closed_weight n t g nodes ≡ closed → sum + closed ≤ MAX
closed-fits n t g nodes sum closed fits is = omega (arith, is, closed-le-weighted n t g nodes, fits)
