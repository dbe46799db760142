-- What a pool is seen as, and what adding a weight does.
use Rattle.std.specs.Prelude.{◌≡◌, ◌≢◌, ℕ, ℤ, ◌+◌, ◌*◌, ◌<◌, ◌≤◌, List, length, ◌||◌, slice_index_or, if◌then◌else◌, ◌==◌}
use Rattle.std.specs.List.{IsDistinct}
use Rattle.node_pool.specs.Nodes.{Node, key_eq, keys, is_held, weighted, weight_in}

-- the width of the keys, the nodes in an order that is left open, and how many keys can be added
-- before memory is needed
pub record Pool : Type 0 where
  pub width : ℕ
  pub nodes : List Node
  pub spare : ℕ

-- the weight is added to the key's, and no other key changes
pub record IsMerge (old : List Node) (key : List ℤ) (weight : ℕ) (new : List Node) : Type 0 where
  pub here : weight_in new key ≡ weight_in old key + weight
  pub others : (k : List ℤ) → k ≢ key → weight_in new k ≡ weight_in old k
  -- each key is held once
  pub distinct : IsDistinct key_eq (keys new)
  -- the held keys are the old ones and this one
  pub members : (k : List ℤ) → is_held new k ≡ (key_eq k key || is_held old k)
  -- each sum over the nodes gains this weight alone
  pub sums : (f : List ℤ → ℕ) → weighted f new ≡ weighted f old + weight * f key

-- the held keys keep their places, and the key stands at this one, which is the next where it is
-- new
pub record IsPlaced (old : List Node) (key : List ℤ) (new : List Node) (place : ℕ) : Type 0 where
  pub within : place < length new
  pub stands : (d : Node) → (slice_index_or new place d).key ≡ key
  pub near : place ≤ length old
  pub count : length new ≡ (if place == length old then length old + 1 else length old)
  pub kept : (i : ℕ) (d : Node) → i < length old
      → (slice_index_or new i d).key ≡ (slice_index_or old i d).key
