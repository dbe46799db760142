-- A network that runs, whose keys stand for those of the network that is written down.
use Rattle.std.specs.Prelude.{◌≡◌, ℕ, ◌<◌, ◌≤◌, ℤ, List, true, ◌⊎◌}
use Rattle.std.specs.List.{Contains}
use Rattle.weights.specs.declared.tails.Tail.{Tail}
use Rattle.weights.specs.Conditional.{ConditionalTest}
use Rattle.node_pool.specs.Nodes.{key_cmp}
use Rattle.networks.specs.Lumped.{IsImage, Lumped}
use Rattle.networks.specs.Network.{Network, IsReached}

-- Each key of n stands for one of q. The same is known of both for the tail, and the arcs of both
-- lead to the same written keys, with as much weight to each: so the one is open where the other
-- is, is met with the same weight, and is completed to what is extreme with the same weight.
pub record StandsFor (n q : Network) (t : Tail) : Type 0 where
  -- the written key that a running one stands for
  pub written : List ℤ → List ℤ
  pub lumped : Lumped n q (IsImage written n)
  -- running keys come in the order of the written ones: no two of them stand for one
  pub order : (g : ℕ) (j k : List ℤ) → IsReached n g j → IsReached n g k
      → key_cmp (written j) (written k) ≡ key_cmp j k
  pub verdict : (g : ℕ) (k : List ℤ) → IsReached n g k
      → q.verdict t g (written k) ≡ n.verdict t g k
  -- no arc weighs nothing
  pub weighty : (g : ℕ) (k : List ℤ) (c : List ℕ) → IsReached n g k → g < n.count
      → Contains (n.choices g k) c → 1 ≤ n.weight g k c
  pub weighty_written : (g : ℕ) (k : List ℤ) (c : List ℕ) → IsReached n g k → g < n.count
      → Contains (q.choices g (written k)) c → 1 ≤ q.weight g (written k) c

-- n runs for q: it is q, or its keys stand for those of q
abbrev pub RunsFor : Network → Network → Tail → Type 0
RunsFor n q t = (n ≡ q) ⊎ StandsFor n q t

-- of each tail that a test has, one network runs for the other
abbrev pub AreWritten : ConditionalTest → (Tail → Network) → (Tail → Network) → Type 0
AreWritten test running network =
    (t : Tail) → test.has_tail t ≡ true → RunsFor (running t) (network t) t
