-- Sums to which numbers are added place by place.
use Rattle.std.proofs.Common.{◌≡◌, ℕ, zero, suc, ◌+◌, ◌<◌, List, [], ◌∷◌, length, take, set, get_or, refl, sym, ◌∙◌, arith}
use Rattle.std.specs.Prelude.{ℤ, pos, ◌+ℤ◌}
use Rattle.label_network.proofs.Rows.{grown, written}
use Rattle.networks.specs.PartialSums.{plus}
use Rattle.networks.proofs.Swaps.{length-plus}

pub plus-at : (p a : List ℤ) (i : ℕ) → length a ≡ length p → i < length p → get_or (plus p a) i (pos 0) ≡ get_or p i (pos 0) +ℤ get_or a i (pos 0)
plus-at [] a i l h = absurd (omega (arith, h))
plus-at (p ∷ ps) [] i l h = absurd (omega (arith, l))
plus-at (p ∷ ps) (a ∷ rest) zero l h = refl
plus-at (p ∷ ps) (a ∷ rest) (suc i) l h = plus-at ps rest i (omega (arith, l)) (omega (arith, h))

-- a loop that writes them: one more, and all
pub more-sums : (done p a : List ℤ) (i : ℕ) (z : ℤ) → length a ≡ length p → length done ≡ length p → i < length p → take i done ≡ take i (plus p a) → z ≡ get_or p i (pos 0) +ℤ get_or a i (pos 0) → take (i + 1) (set done i z) ≡ take (i + 1) (plus p a)
more-sums done p a i z e l h f s = grown done (plus p a) i z (pos 0) (omega (arith, l, h)) (omega (arith, length-plus p a, h)) f (s ∙ sym (plus-at p a i e h))

pub all-sums : (done p a : List ℤ) (i : ℕ) → length a ≡ length p → length done ≡ length p → i ≡ length p → take i done ≡ take i (plus p a) → done ≡ plus p a
all-sums done p a i e l h f = written done (plus p a) i (l ∙ sym h) (length-plus p a ∙ sym h) f
