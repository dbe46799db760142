-- Open nodes alone, from stage to stage.
use Rattle.std.proofs.Common.{◌≡◌, ℕ, ◌*◌, ◌≤◌, List, [], ◌∷◌, Bool, false, refl, sym, ◌∙◌, subst}
use Rattle.std.specs.Prelude.{ℤ}
use Rattle.std.specs.List.{sum_by, flat_map, filter, IsDistinct, Contains}
use Rattle.std.proofs.lemmas.List.Elements.{recursion_from_All, All-contains_itself}
use Rattle.weights.specs.declared.tails.Tail.{Tail}
use Rattle.weights.specs.declared.tails.Tail.TheVariants.{Less, Greater, Two}
use Rattle.node_pool.specs.Nodes.{Node, key_eq, keys, weighted}
use Rattle.networks.specs.Laws.{IsLawful}
use Rattle.networks.specs.Network.{Network, IsReached}
use Rattle.stage_network.specs.NodeSteps.{successor, successors, AllReached, AllHeavy}
use Rattle.networks.specs.Opened.{is_open, is_open_for_some}
use Rattle.networks.proofs.Steps.{sum_by-flat_map, sum_by-same}
use Rattle.stage_network.proofs.Conserved.{weighted-successors, all_append, all_map, all_weaker, not_undecided}
use Rattle.stage_network.proofs.OpenKeys.{distinct_filter, keys-filter}
use Rattle.weights.proofs.Products.{product-some}

pub carried : (n : Network) (g : ℕ) (here later : List ℤ → ℕ) → ((k : List ℤ) → here k ≡ sum_by (λ c. n.weight g k c * later (n.next g k c)) (n.choices g k)) → (nodes : List Node) → weighted later (flat_map (successors n g) nodes) ≡ weighted here nodes
carried n g here later step nodes =
    sum_by-flat_map (λ (b : Node). b.weight * later b.key) (successors n g) nodes
    ∙ sum_by-same (λ a. weighted later (successors n g a)) (λ a. a.weight * here a.key) (weighted-successors n g here later step) nodes

pub successors-heavy : (n : Network) → IsLawful n → (g : ℕ) (nodes : List Node) → AllReached n g nodes → AllHeavy nodes → AllHeavy (flat_map (successors n g) nodes)
successors-heavy n l g [] r h = tt
successors-heavy n l g (a ∷ nodes) r h =
    all_append (λ (b : Node). 1 ≤ b.weight) (successors n g a) (flat_map (successors n g) nodes)
    (all_map (λ (b : Node). 1 ≤ b.weight) (successor n g a) (n.choices g a.key)
    (all_weaker (Contains (n.choices g a.key)) (λ c. 1 ≤ a.weight * n.weight g a.key c) (λ c allowed. product-some a.weight (n.weight g a.key c) h.0 (l.weighty g a.key c r.0 allowed)) (n.choices g a.key)
    (recursion_from_All _ _ (All-contains_itself (n.choices g a.key)))))
    (successors-heavy n l g nodes r.1 h.1)

-- at the last stage no node is open
pub shut : (n : Network) → IsLawful n → (k : List ℤ) → IsReached n n.count k → is_open_for_some n n.count k ≡ false
shut n l k r =
    let no : (t : Tail) → is_open n t n.count k ≡ false = λ t. not_undecided (n.verdict t n.count k) (l.decided t k r) in
    rw (no Less, no Greater, no Two) refl

pub open-distinct : (p : List ℤ → Bool) (nodes : List Node) → IsDistinct key_eq (keys nodes) → IsDistinct key_eq (keys (filter (λ a. p a.key) nodes))
open-distinct p nodes d = subst (IsDistinct key_eq) (sym (keys-filter p nodes)) (distinct_filter p (keys nodes) d)
