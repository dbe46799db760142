-- Weights whose product passes no limit.
use Rattle.std.proofs.Common.{◌≡◌, ℕ, ◌*◌, ◌≤◌, refl}
use Rattle.std.specs.Prelude.{ℤ, pos}
use Rattle.weights.specs.declared.TheConstants.{MAX}
use Rattle.room_network.specs.Numbers.{AreWeights}

pub weights-of : (z : ℤ) (n m : ℕ) → z ≡ pos n → n * m ≤ MAX → AreWeights z (pos m)
weights-of z n m e h = rw e (record { first = refl; second = refl; fits = h })
