-- Why no weight passes MAX: a reached key has a completion, so an arc weighs at most what its key's completions do.
use Rattle.std.proofs.Common.{◌≡◌, ◌≢◌, ℕ, zero, suc, ◌+◌, ◌-◌, ◌*◌, ◌<◌, ◌≤◌, List, [], ◌∷◌, refl, arith}
use Rattle.std.specs.Prelude.{ℤ}
use Rattle.std.specs.List.{sum_by, Contains}
use Rattle.networks.specs.Completions.{total_weight}
use Rattle.networks.specs.Laws.{IsLawful}
use Rattle.networks.specs.Network.{Network, IsReached}
use Rattle.networks.proofs.Elements.{term-le-sum_by}
use Rattle.networks.proofs.Steps.{all_paths, all-step, reached-next}
use Rattle.weights.proofs.Products.{product-some}

some_element : {X : Type 0} (xs : List X) → xs ≢ [] → (x : X) × Contains xs x
some_element [] h = absurd (h refl)
some_element (x ∷ xs) h = (x, (0, omega arith, refl))

all_paths-least : (n : Network) → IsLawful n → (m g : ℕ) (k : List ℤ) → IsReached n g k → g + m ≡ n.count → 1 ≤ all_paths n m g k
all_paths-least n l zero g k r e = omega arith
all_paths-least n l (suc m) g k r e =
    let before : g < n.count = omega arith in
    let some : (c : List ℕ) × Contains (n.choices g k) c = some_element (n.choices g k) (l.some_choice g k r before) in
    let here : 1 ≤ n.weight g k some.0 * all_paths n m (g + 1) (n.next g k some.0) =
    product-some _ _ (l.weighty g k some.0 r some.1)
    (all_paths-least n l m (g + 1) (n.next g k some.0) (reached-next n g k some.0 r before some.1) (omega arith)) in
    let most : n.weight g k some.0 * all_paths n m (g + 1) (n.next g k some.0) ≤ sum_by (λ c. n.weight g k c * all_paths n m (g + 1) (n.next g k c)) (n.choices g k) =
    term-le-sum_by (λ c. n.weight g k c * all_paths n m (g + 1) (n.next g k c)) (n.choices g k) some.0 some.1 in
    omega (arith, all-step n m g k)

pub total_weight-least : (n : Network) → IsLawful n → (g : ℕ) (k : List ℤ) → IsReached n g k → g ≤ n.count → 1 ≤ total_weight n g k
unfolding total_weight
total_weight-least n l g k r h = all_paths-least n l (n.count - g) g k r (omega arith)
