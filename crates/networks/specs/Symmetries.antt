-- Symmetries of a network: moves of keys, and what they keep.
use Rattle.std.specs.Prelude.{◌≡◌, ℕ, zero, suc, ◌+◌, ◌<◌, ℤ, List, [], ◌∷◌}
use Rattle.networks.specs.Completions.{over_arcs}
use Rattle.networks.specs.Network.{Network, IsReached}

-- A reached key and what it is moved to are alike: this is reached too, ends at the same value,
-- and the sums over their arcs are the same of all that does not tell apart what a move leads to.
pub record IsSymmetry (n : Network) (moved : List ℤ → List ℤ → Type 0) : Type 0 where
  pub stays : (g : ℕ) (k j : List ℤ) → IsReached n g k → moved k j → IsReached n g j
  pub arcs : (f : List ℤ → ℕ) (g : ℕ) (k j : List ℤ)
      → ((l i : List ℤ) → IsReached n (g + 1) l → moved l i → f i ≡ f l)
      → IsReached n g k → moved k j → g < n.count → over_arcs n f g j ≡ over_arcs n f g k
  pub ends : (k j : List ℤ) → IsReached n n.count k → moved k j → n.value j ≡ n.value k

-- two neighbours change places
abbrev pub swap_at : {X : Type 0} → ℕ → List X → List X
swap_at i [] = []
swap_at zero (x ∷ []) = x ∷ []
swap_at zero (x ∷ y ∷ ys) = y ∷ x ∷ ys
swap_at (suc i) (x ∷ xs) = x ∷ swap_at i xs
