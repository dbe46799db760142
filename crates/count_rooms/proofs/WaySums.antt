-- Sums over the ways through a network, one stage after another.
use Rattle.std.proofs.Common.{◌≡◌, ℕ, suc, ◌+◌, ◌*◌, List, [], ◌∷◌, map, ◌∙◌, arith, mul_assoc}
use Rattle.std.specs.Prelude.{ℤ}
use Rattle.std.specs.List.{sum_by}
use Rattle.weights.proofs.Sums.{sum_by-flat_map, sum_by-map, sum_by-same, sum_by-scaled}
use Rattle.networks.specs.Completions.{path_weight, paths}
use Rattle.networks.specs.Network.{Network}

abbrev pub gather : Network → ℕ → ℕ → List ℤ → (List (List ℕ) → ℕ) → ℕ
gather n m g k f = sum_by (λ w. path_weight n g k w * f w) (paths n m g k)

gather-choice : (n : Network) (m g : ℕ) (k : List ℤ) (f : List (List ℕ) → ℕ) (c : List ℕ) → sum_by (λ w. path_weight n g k w * f w) (map (λ cs. c ∷ cs) (paths n m (g + 1) (n.next g k c))) ≡ n.weight g k c * gather n m (g + 1) (n.next g k c) (λ w. f (c ∷ w))
gather-choice n m g k f c =
    sum_by-map (λ w. path_weight n g k w * f w) (λ cs. c ∷ cs) (paths n m (g + 1) (n.next g k c))
    ∙ sum_by-same _ (λ w. n.weight g k c * (path_weight n (g + 1) (n.next g k c) w * f (c ∷ w))) (λ w. mul_assoc (n.weight g k c) (path_weight n (g + 1) (n.next g k c) w) (f (c ∷ w))) (paths n m (g + 1) (n.next g k c))
    ∙ sum_by-scaled (n.weight g k c) (λ w. path_weight n (g + 1) (n.next g k c) w * f (c ∷ w)) (paths n m (g + 1) (n.next g k c))

pub gather-step : (n : Network) (m g : ℕ) (k : List ℤ) (f : List (List ℕ) → ℕ) → gather n (suc m) g k f ≡ sum_by (λ c. n.weight g k c * gather n m (g + 1) (n.next g k c) (λ w. f (c ∷ w))) (n.choices g k)
gather-step n m g k f =
    sum_by-flat_map (λ w. path_weight n g k w * f w) (λ c. map (λ cs. c ∷ cs) (paths n m (g + 1) (n.next g k c))) (n.choices g k)
    ∙ sum_by-same _ _ (gather-choice n m g k f) (n.choices g k)

pub gather-none : (n : Network) (g : ℕ) (k : List ℤ) (f : List (List ℕ) → ℕ) → gather n 0 g k f ≡ f []
gather-none n g k f = omega arith
