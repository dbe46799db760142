-- Pairs of draws by the places at which they stand, and draws that are kept by their places alone.
use Rattle.std.specs.Prelude.{ℕ, ◌+◌, ◌-◌, ◌*◌, ◌≤◌, List, [], ◌∷◌, ◌++◌, drop, replicate, ⊤}
use Rattle.std.specs.Prelude.{◌≡◌, cond, length, nat_le}
use Rattle.std.specs.List.{sum, AllByRecursion}
use Rattle.score_convolution.specs.declared.lists.Spot.{Spot}
use Rattle.score_convolution.specs.declared.lists.Upper.{Upper}

-- how many pairs of a draw of each row stand in cells whose places sum to at least so much
abbrev pub placed_pairs : ℕ → List ℕ → List ℕ → ℕ
placed_pairs place [] others = 0
placed_pairs place (c ∷ ones) others =
    c * sum (drop place others) + placed_pairs (place - 1) ones others

-- the spot for which two counts stand
abbrev pub spot_of : {C : Type 0} → (C → ℕ) → C × C → Spot
spot_of number pair = record { place = number pair.0; draws = number pair.1 }

-- spots stand at rising places, from one on
abbrev pub Rise : ℕ → List Spot → Type 0
Rise place [] = ⊤
Rise place (s ∷ spots) = (place ≤ s.place) × Rise (s.place + 1) spots

-- the cells from a place on that tell the same
abbrev pub cells_from : ℕ → List Spot → List ℕ
cells_from place [] = []
cells_from place (s ∷ spots) =
    replicate (s.place - place) 0 ++ s.draws ∷ cells_from (s.place + 1) spots

-- the place behind the last spot
abbrev pub behind : ℕ → List Spot → ℕ
behind place [] = place
behind place (s ∷ spots) = behind (s.place + 1) spots

-- what f says of the places of draws
abbrev pub spots_sum : (ℕ → ℕ) → List Spot → ℕ
spots_sum f [] = 0
spots_sum f (s ∷ spots) = s.draws * f s.place + spots_sum f spots

-- how many draws there are
abbrev pub draws_of : List Spot → ℕ
draws_of spots = spots_sum (λ p. 1) spots

-- 1 for a place that is at least so much
abbrev pub enough : ℕ → ℕ → ℕ
enough least place = cond (nat_le least place) 1 0

-- spots whose places are
abbrev pub AllEnough : ℕ → List Spot → Type 0
AllEnough least spots = AllByRecursion (λ (s : Spot). least ≤ s.place) spots

-- so many places further on they are within a limit
abbrev pub AllNear : ℕ → ℕ → List Spot → Type 0
AllNear limit by spots = AllByRecursion (λ (s : Spot). by + s.place ≤ limit) spots

-- the spots from an index on, and how many draws they have
pub record IsUpper (spots : List Spot) (upper : Upper) : Type 0 where
  pub within : upper.index ≤ length spots
  pub draws : upper.draws ≡ draws_of (drop upper.index spots)
