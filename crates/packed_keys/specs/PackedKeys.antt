-- Networks in whose keys the numbers of a partial are digits of one number.
use Rattle.std.specs.Prelude.{◌≡◌, ℕ, zero, suc, ◌+◌, ◌-◌, ◌*◌, ◌/◌, ◌%◌, ◌^◌, ◌<◌, ◌≤◌, ℤ, pos, nat_abs, List, [], ◌∷◌, ◌++◌, take, drop, map, get_or}
use Rattle.std.specs.List.{AllByRecursion}
use Rattle.weights.specs.declared.TheConstants.{MAX}
use Rattle.networks.specs.Judged.{IsJudged}
use Rattle.networks.specs.Mapped.{mapped}
use Rattle.networks.specs.Network.{Network, IsReached}

-- the number that has these digits, the least first
abbrev pub numeral : ℕ → List ℕ → ℕ
numeral base [] = 0
numeral base (d ∷ ds) = d + base * numeral base ds

-- so many digits of a number, the least first
abbrev pub digits : ℕ → ℕ → ℕ → List ℕ
digits base zero n = []
digits base (suc k) n = (n % base) ∷ digits base k (n / base)

-- a partial as one number, and the k numbers of one that is
abbrev pub packed : ℕ → List ℤ → List ℤ
packed base partial = pos (numeral base (map nat_abs partial)) ∷ []

abbrev pub unpacked : ℕ → ℕ → List ℤ → List ℤ
unpacked base k partial = map pos (digits base k (nat_abs (get_or partial 0 (pos 0))))

-- the same behind the first w numbers of a key, its room
abbrev pub packed_key : ℕ → ℕ → List ℤ → List ℤ
packed_key w base key = take w key ++ packed base (drop w key)

abbrev pub unpacked_key : ℕ → ℕ → ℕ → List ℤ → List ℤ
unpacked_key w base k key = take w key ++ unpacked base k (drop w key)

-- the network with each partial as one number, with rooms of w numbers, and digits of so many bits
abbrev pub packed_network : ℕ → ℕ → Network → Network
packed_network w bits n =
    mapped (w + 1) (packed_key w (2 ^ bits)) (unpacked_key w (2 ^ bits) (n.width - w)) n

pub record IsDigit (base : ℕ) (z : ℤ) : Type 0 where
  pub held : z ≡ pos (nat_abs z)
  pub small : nat_abs z < base

-- the partials of all reached keys are digits, few enough for one number
pub record MayBePacked (w bits : ℕ) (n : Network) : Type 0 where
  pub room : w ≤ 15
  pub within : w ≤ n.width
  pub few : n.width ≤ w + 8
  pub narrow : bits ≤ 63
  pub fits : (2 ^ bits) ^ (n.width - w) ≤ MAX + 1
  pub judged : IsJudged n
  pub each : (g : ℕ) (key : List ℤ)
      → IsReached n g key → AllByRecursion (IsDigit (2 ^ bits)) (drop w key)
