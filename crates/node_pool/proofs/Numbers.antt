-- Keys of one number.
use Rattle.std.proofs.Common.{◌≡◌, List, [], ◌∷◌, length, get_or, refl, arith}
use Rattle.std.specs.Prelude.{ℤ, pos}

pub its_number : (key : List ℤ) → length key ≡ 1 → key ≡ get_or key 0 (pos 0) ∷ []
its_number [] h = absurd (omega (arith, h))
its_number (a ∷ []) h = refl
its_number (a ∷ b ∷ key) h = absurd (omega (arith, h))
