-- The weights of a cut, as counts and as signed numbers.
use Rattle.std.proofs.Common.{◌≡◌, ℕ, ◌<◌, ◌≤◌, List, [], ◌∷◌, get_or, length, map, refl, ap, arith}
use Rattle.std.specs.Prelude.{ℤ, nat_abs, pos}
use Rattle.weights.specs.declared.tails.Tail.{Tail}
use Rattle.weights.specs.declared.TheConstants.{MAX}
use Rattle.networks.specs.Laws.{IsLawful}
use Rattle.networks.specs.Network.{Network}
use Rattle.stage_network.specs.FromKeys.{AreStarts}
use Rattle.stage_network.proofs.Starting.{light-at}
use Rattle.pieces.specs.declared.cuts.Cut.{Cut}
use Rattle.pieces.specs.Cuts.{IsCut, IsCutAt}

pub sizes-listed : (counts : List ℕ) → map nat_abs (map pos counts) ≡ counts
sizes-listed [] = refl
sizes-listed (w ∷ ws) = ap (λ ns. w ∷ ns) (sizes-listed ws)

-- no weight passes the limit
pub each-fits : (n : Network) (g : ℕ) (row : List ℤ) (weights : List ℕ) → IsLawful n → AreStarts n g row weights → (i : ℕ) → i < length weights → get_or weights i 0 ≤ MAX
each-fits n g row weights lawful starts i low = omega (arith, light-at n g row weights starts i low lawful (get_or weights i 0) refl, starts.fits)

-- a cut with its counts listed
pub listed-cut : (n : Network) (t : Tail) (counts : List ℕ) (cut : Cut) → cut.weights ≡ map pos counts → IsCutAt n t cut.at cut.closed cut.keys counts → IsCut n t cut
listed-cut n t counts cut is of = record {
  unsigned = rw (is, sizes-listed counts) refl;
  listed = rw (is, sizes-listed counts) of;
}
