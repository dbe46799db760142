-- A network that goes on for another one from the keys of a stage.
use Rattle.std.specs.Prelude.{◌≡◌, ℕ, ◌≤◌, ℤ, List}
use Rattle.weights.specs.declared.tails.Tail.{Tail}
use Rattle.networks.specs.Completions.{extreme_weight, total_weight}
use Rattle.networks.specs.Network.{Network, IsReached}

-- A key that n reaches at stage g has an image that q reaches at stage h: the completions of both
-- weigh as much, and so do those that are extreme.
pub record GoesOn (n q : Network) (g h : ℕ) (image : List ℤ → List ℤ) : Type 0 where
  pub within : h ≤ q.count
  pub reached : (k : List ℤ) → IsReached n g k → IsReached q h (image k)
  pub total : (k : List ℤ) → IsReached n g k → total_weight q h (image k) ≡ total_weight n g k
  pub extreme : (t : Tail) (k : List ℤ) → IsReached n g k
      → extreme_weight q t h (image k) ≡ extreme_weight n t g k

-- from each stage on, where it takes at least the keys that n reaches
pub record GoesOnFor (n q : Network) (takes : ℕ → List ℤ → Type 0)
    (image : ℕ → List ℤ → List ℤ) : Type 0 where
  pub goes_on : (g : ℕ) → g ≤ n.count → GoesOn n q g g (image g)
  pub taken : (g : ℕ) (k : List ℤ) → IsReached n g k → takes g k

-- from each stage on, by the keys as they are
pub record GoesOnAlike (n q : Network) : Type 0 where
  pub wide : q.width ≡ n.width
  pub goes_on : (g : ℕ) → g ≤ n.count → GoesOn n q g g (λ k. k)
