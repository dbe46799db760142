-- Digits that are added place by place: so are the numbers that have them.
use Rattle.std.proofs.Common.{◌≡◌, ℕ, ◌+◌, ◌*◌, List, [], ◌∷◌, length, map, refl, ◌∙◌, ap, arith}
use Rattle.std.specs.Prelude.{ℤ, pos, ◌+ℤ◌, nat_abs}
use Rattle.std.specs.List.{AllByRecursion}
use Rattle.symmetry_reduction.specs.GroupSums.{AreHeld}
use Rattle.networks.specs.PartialSums.{plus}
use Rattle.packed_keys.specs.PackedKeys.{IsDigit, numeral}

size-plus : (p a : ℤ) → p ≡ pos (nat_abs p) → a ≡ pos (nat_abs a) → nat_abs (p +ℤ a) ≡ nat_abs p + nat_abs a
size-plus p a h k = ap (λ z. nat_abs (z +ℤ a)) h ∙ ap (λ z. nat_abs (pos (nat_abs p) +ℤ z)) k

-- what is added is less than what comes of it
pub added-digits : (base : ℕ) (p a : List ℤ) → length a ≡ length p → AllByRecursion (IsDigit base) p → AreHeld a → AllByRecursion (IsDigit base) (plus p a) → AllByRecursion (IsDigit base) a
added-digits base [] [] l d h s = tt
added-digits base [] (a ∷ rest) l d h s = absurd (omega (arith, l))
added-digits base (p ∷ ps) [] l d h s = tt
added-digits base (p ∷ ps) (a ∷ rest) l d h s =
    (record { held = h.0; small = omega (arith, s.0.small, size-plus p a d.0.held h.0) }, added-digits base ps rest (omega (arith, l)) d.1 h.1 s.1)

pub numeral-plus : (base : ℕ) (p a : List ℤ) → length a ≡ length p → AllByRecursion (IsDigit base) p → AreHeld a
    → numeral base (map nat_abs (plus p a)) ≡ numeral base (map nat_abs p) + numeral base (map nat_abs a)
numeral-plus base [] [] l d h = refl
numeral-plus base [] (a ∷ rest) l d h = absurd (omega (arith, l))
numeral-plus base (p ∷ ps) [] l d h = absurd (omega (arith, l))
numeral-plus base (p ∷ ps) (a ∷ rest) l d h =
    ap (λ n. n + base * numeral base (map nat_abs (plus ps rest))) (size-plus p a d.0.held h.0)
    ∙ ap (λ n. nat_abs p + nat_abs a + base * n) (numeral-plus base ps rest (omega (arith, l)) d.1 h.1)
    ∙ apart (nat_abs p) (nat_abs a) base (numeral base (map nat_abs ps)) (numeral base (map nat_abs rest))
  where
    apart : (p a b m n : ℕ) → p + a + b * (m + n) ≡ (p + b * m) + (a + b * n)
    apart p a b m n = grind arith
