-- What stands in front of a buffer after one byte was written there.
use Rattle.std.proofs.Common.{◌≡◌, ℕ, ◌≤◌, List, [], ◌∷◌, length, set, take, arith, refl}

pub first-byte : (buf : List ℕ) (b : ℕ) → 1 ≤ length buf → take 1 (set buf 0 b) ≡ b ∷ []
first-byte [] b some = absurd (omega (arith, some))
first-byte (x ∷ buf) b some = refl
