-- Networks whose keys go on alike: strong lumpability (Kemeny and Snell, Finite Markov Chains,
-- 1960, section 6.3).
use Rattle.std.specs.Prelude.{◌≡◌, ℕ, ◌+◌, ◌<◌, ℤ, List}
use Rattle.networks.specs.Completions.{over_arcs}
use Rattle.networks.specs.Network.{Network, IsReached}

-- The first keys of n and q are alike, and from alike keys as much weight leads to alike keys: the
-- sums over their arcs are the same of all that does not tell alike keys apart.
pub record Lumped (n q : Network) (alike : ℕ → List ℤ → List ℤ → Type 0) : Type 0 where
  pub count : n.count ≡ q.count
  pub first : alike 0 n.first q.first
  pub arcs : (f h : List ℤ → ℕ) (g : ℕ) (k j : List ℤ) → g < n.count → alike g k j
      → ((l i : List ℤ) → alike (g + 1) l i → f l ≡ h i)
      → over_arcs n f g k ≡ over_arcs q h g j

-- j is what a map makes of k, a key that n reaches
abbrev pub IsImage : (List ℤ → List ℤ) → Network → ℕ → List ℤ → List ℤ → Type 0
IsImage image n g k j = IsReached n g k × (j ≡ image k)
