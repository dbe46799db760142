-- Keys of one width in a row, and buckets that say where each stands: 0 in an empty slot, else the
-- place of a key, and 1.
use Rattle.std.specs.Prelude.{◌≡◌, ◌≢◌, ℕ, ℤ, ◌+◌, ◌-◌, ◌*◌, ◌<◌, ◌≤◌, List, length, take, drop, get_or, Bool, cond, nat_lt}
use Rattle.std.specs.List.{count_by}
use Rattle.node_pool.specs.HashSteps.{home_of}
use Rattle.node_pool.specs.declared.table.Found.{Found}
use Rattle.node_pool.specs.declared.table.Found.TheVariants.{At, Free}

-- the key at a place
abbrev pub key_at : ℕ → List ℤ → ℕ → List ℤ
key_at width keys i = take width (drop (i * width) keys)

-- the slot at a distance behind a home, where the first slot follows the last
unfoldable pub spot : ℕ → ℕ → ℕ → ℕ
spot size home d = cond (nat_lt (home + d) size) (home + d) ((home + d) - size)

abbrev pub is_full : ℕ → Bool
is_full entry = nat_lt 0 entry

-- from a home to a slot, past full slots alone
pub record IsWalk (buckets : List ℕ) (home slot : ℕ) : Type 0 where
  pub far : ℕ
  pub near : far < length buckets
  pub ends : slot ≡ spot (length buckets) home far
  pub full : (e : ℕ) → e < far → 0 < get_or buckets (spot (length buckets) home e) 0

-- the first n keys can be found
pub record IsTable (width n : ℕ) (keys : List ℤ) (slots buckets : List ℕ) : Type 0 where
  pub entry : (s : ℕ) → s < length buckets → get_or buckets s 0 ≤ n
  pub back : (s : ℕ) → s < length buckets → 0 < get_or buckets s 0
      → get_or slots (get_or buckets s 0 - 1) 0 ≡ s
  pub held : (i : ℕ) → i < n → get_or buckets (get_or slots i 0) 0 ≡ i + 1
  pub within : (i : ℕ) → i < n → get_or slots i 0 < length buckets
  pub walk : (i : ℕ) → i < n
      → IsWalk buckets (home_of (length buckets) (key_at width keys i)) (get_or slots i 0)
  pub counted : count_by is_full buckets ≤ n

abbrev pub AllEmpty : List ℕ → Type 0
AllEmpty buckets = (s : ℕ) → get_or buckets s 0 ≡ 0

-- a key stands at a place among the first n
pub record IsHeldAt (width n : ℕ) (keys key : List ℤ) (place : ℕ) : Type 0 where
  pub low : place < n
  pub here : key_at width keys place ≡ key

-- a key stands at none of the first n places, and the search for it ends at an empty slot
pub record IsFreeAt (width n : ℕ) (keys : List ℤ) (buckets : List ℕ) (key : List ℤ)
    (slot : ℕ) : Type 0 where
  pub absent : (i : ℕ) → i < n → key_at width keys i ≢ key
  pub within : slot < length buckets
  pub empty : get_or buckets slot 0 ≡ 0
  pub walk : IsWalk buckets (home_of (length buckets) key) slot

abbrev pub IsFound : ℕ → ℕ → List ℤ → List ℕ → List ℤ → Found → Type 0
IsFound width n keys buckets key (At place) = IsHeldAt width n keys key place
IsFound width n keys buckets key (Free slot) = IsFreeAt width n keys buckets key slot
