-- What a stage keeps: the summed weight of the extreme completions is what was closed and what is still open.
use Rattle.std.proofs.Common.{◌≡◌, ◌≢◌, ℕ, ◌+◌, ◌*◌, ◌<◌, ◌≤◌, List, [], ◌∷◌, Bool, true, false, cond, refl, sym, ◌∙◌, ap, arith}
use Rattle.std.specs.Prelude.{ℤ}
use Rattle.std.specs.List.{sum_by, Contains}
use Rattle.std.proofs.lemmas.List.Sums.{sum_by-cons}
use Rattle.std.proofs.lemmas.List.Elements.{recursion_from_All, All-contains_itself}
use Rattle.std.proofs.Math.Nat.{mul_assoc}
use Rattle.weights.specs.declared.tails.Tail.{Tail}
use Rattle.networks.specs.declared.stages.Verdict.{Verdict}
use Rattle.networks.specs.declared.stages.Verdict.TheVariants.{Inside, Outside, Undecided}
use Rattle.node_pool.specs.Nodes.{Node, weighted}
use Rattle.networks.specs.Completions.{is_inside, ends_inside, total_weight, extreme_weight, completions, path_weight}
use Rattle.networks.specs.Laws.{IsLawful}
use Rattle.networks.specs.Network.{Network, IsReached}
use Rattle.stage_network.specs.NodeSteps.{successor, successors, closed_part, closed_weight, AllReached}
use Rattle.networks.specs.Opened.{is_open_for_some, is_undecided}
use Rattle.stage_network.proofs.NodeSums.{open-for}
use Rattle.networks.proofs.Steps.{sum_by-same, sum_by-scaled, sum_by-map, filter_all, filter_none, reached-next}
pub use Rattle.weights.proofs.Sums.{sum_by-filter}
pub use Rattle.weights.proofs.Filters.{all_append, all_map, all_weaker}

-- one node's successors carry its sum to the next stage
pub weighted-successors : (n : Network) (g : ℕ) (here later : List ℤ → ℕ) → ((k : List ℤ) → here k ≡ sum_by (λ c. n.weight g k c * later (n.next g k c)) (n.choices g k)) → (a : Node) → weighted later (successors n g a) ≡ a.weight * here a.key
weighted-successors n g here later step a =
    sum_by-map (λ b. b.weight * later b.key) (successor n g a) (n.choices g a.key)
    ∙ sum_by-same (λ c. (a.weight * n.weight g a.key c) * later (n.next g a.key c)) (λ c. a.weight * (n.weight g a.key c * later (n.next g a.key c))) (λ c. mul_assoc a.weight (n.weight g a.key c) (later (n.next g a.key c))) (n.choices g a.key)
    ∙ sum_by-scaled a.weight (λ c. n.weight g a.key c * later (n.next g a.key c)) (n.choices g a.key)
    ∙ ap (λ m. a.weight * m) (sym (step a.key))

-- what is open, at this stage
abbrev pub open_part : Network → ℕ → (List ℤ → ℕ) → Node → ℕ
open_part n g here a = cond (is_open_for_some n g a.key) (a.weight * here a.key) 0

-- a verdict's word on the sums
pub inside-sum : (n : Network) → IsLawful n → (t : Tail) (g : ℕ) (k : List ℤ) → IsReached n g k → g ≤ n.count → n.verdict t g k ≡ Inside → extreme_weight n t g k ≡ total_weight n g k
unfolding total_weight extreme_weight
inside-sum n l t g k r h v = ap (sum_by (path_weight n g k)) (filter_all (ends_inside n t g k) (completions n g k) (l.inside t g k r h v))

pub outside-sum : (n : Network) → IsLawful n → (t : Tail) (g : ℕ) (k : List ℤ) → IsReached n g k → g ≤ n.count → n.verdict t g k ≡ Outside → extreme_weight n t g k ≡ 0
unfolding extreme_weight
outside-sum n l t g k r h v = ap (sum_by (path_weight n g k)) (filter_none (ends_inside n t g k) (completions n g k) (l.outside t g k r h v))

-- by the verdict at a node, and whether it is open for some tail
by_verdict : (some : Bool) (v : Verdict) (w e total : ℕ) → (is_undecided v ≡ true → some ≡ true) → (v ≡ Inside → e ≡ total) → (v ≡ Outside → e ≡ 0) → w * e ≡ cond (cond some false (is_inside v)) (w * total) 0 + cond some (w * e) 0
by_verdict true v w e total u i o = omega arith
by_verdict false Inside w e total u i o = rw (i refl) (omega arith)
by_verdict false Outside w e total u i o = rw (o refl) (omega arith)
by_verdict false Undecided w e total u i o = (let no : false ≡ true = u refl in cc)

pub split-extreme : (n : Network) → IsLawful n → (t : Tail) (g : ℕ) → g ≤ n.count → (nodes : List Node) → AllReached n g nodes → weighted (extreme_weight n t g) nodes ≡ closed_weight n t g nodes + sum_by (open_part n g (extreme_weight n t g)) nodes
split-extreme n l t g h [] r = omega arith
split-extreme n l t g h (a ∷ nodes) r =
    let here : a.weight * extreme_weight n t g a.key ≡ closed_part n t g a + open_part n g (extreme_weight n t g) a =
    by_verdict (is_open_for_some n g a.key) (n.verdict t g a.key) a.weight (extreme_weight n t g a.key) (total_weight n g a.key) (open-for n t g a.key) (inside-sum n l t g a.key r.0 h) (outside-sum n l t g a.key r.0 h) in
    rw (sum_by-cons (λ a. a.weight * extreme_weight n t g a.key) a nodes, sum_by-cons (closed_part n t g) a nodes, sum_by-cons (open_part n g (extreme_weight n t g)) a nodes)
    (omega (arith, here, split-extreme n l t g h nodes r.1))

pub successors-reached : (n : Network) (g : ℕ) → g < n.count → (a : Node) → IsReached n g a.key → AllReached n (g + 1) (successors n g a)
successors-reached n g h a r =
    all_map (λ b. IsReached n (g + 1) b.key) (successor n g a) (n.choices g a.key)
    (all_weaker (Contains (n.choices g a.key)) (λ c. IsReached n (g + 1) (n.next g a.key c)) (λ c allowed. reached-next n g a.key c r h allowed) (n.choices g a.key)
    (recursion_from_All _ _ (All-contains_itself (n.choices g a.key))))

pub not_undecided : (v : Verdict) → v ≢ Undecided → is_undecided v ≡ false
not_undecided Inside h = refl
not_undecided Outside h = refl
not_undecided Undecided h = absurd (h refl)
