-- Rooms: a key is a room, its first numbers, and a partial, the others. The room alone decides the
-- choices, their weights and the rooms that they lead to.
use Rattle.std.specs.Prelude.{◌≡◌, ℕ, ℤ, ◌≤◌, List, ◌++◌, length, take}
use Rattle.std.specs.List.{Contains}
use Rattle.networks.specs.Network.{Network, IsReached}

-- j and k are reached at stage g, in one room of this width
pub record AreRoommates (n : Network) (width g : ℕ) (j k : List ℤ) : Type 0 where
  pub first : IsReached n g j
  pub second : IsReached n g k
  pub same : take width j ≡ take width k

-- rooms of this width decide all but the partials
pub record IsRoomed (n : Network) (width : ℕ) : Type 0 where
  pub within : width ≤ n.width
  pub choices : (g : ℕ) (j k : List ℤ) → AreRoommates n width g j k → n.choices g j ≡ n.choices g k
  pub weight : (g : ℕ) (j k : List ℤ) (c : List ℕ) → AreRoommates n width g j k
      → Contains (n.choices g k) c → n.weight g j c ≡ n.weight g k c
  pub next : (g : ℕ) (j k : List ℤ) (c : List ℕ) → AreRoommates n width g j k
      → Contains (n.choices g k) c → take width (n.next g j c) ≡ take width (n.next g k c)

-- a room of a reached key of stage g
pub record IsPlace (n : Network) (width g : ℕ) (room : List ℤ) : Type 0 where
  pub partial : List ℤ
  pub wide : length room ≡ width
  pub reached : IsReached n g (room ++ partial)

-- a room of a reached key of stage g, and a choice that is allowed there
pub record IsArc (n : Network) (width g : ℕ) (room : List ℤ) (c : List ℕ) : Type 0 where
  pub partial : List ℤ
  pub wide : length room ≡ width
  pub reached : IsReached n g (room ++ partial)
  pub allowed : Contains (n.choices g (room ++ partial)) c
