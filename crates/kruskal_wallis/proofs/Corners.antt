-- The sums of squares at the corners of a box, whose ends no single group passes.
use Rattle.std.proofs.Common.{◌≡◌, ℕ, suc, ◌*◌, ◌≤◌, ◌⊎◌, List, [], ◌∷◌, length, max, get_or, inl, inr, ap, arith}
use Rattle.std.specs.Prelude.{ℤ, pos, unsigned_abs}
use Rattle.completion_bounds.specs.Boxes.{factored_squares, greatest_size, greatest_squares}
use Rattle.weights.specs.Numbers.{absolute_sum}

-- the greatest absolute value is that of an end
of_end : (l h : ℤ) → (greatest_size l h ≡ unsigned_abs l) ⊎ (greatest_size l h ≡ unsigned_abs h)
of_end l h = by (unsigned_abs l) (unsigned_abs h)
  where
    by : (a b : ℕ) → (max a b ≡ a) ⊎ (max a b ≡ b)
    by a b = grind arith

module _ (most bound : ℕ) where
  abbrev pub Bounded : List ℕ → Type 0
  Bounded factors = (p : List ℤ) → absolute_sum p ≤ most → factored_squares p factors ≤ bound

  one : (f : ℕ) (fs : List ℕ) (x : ℤ) → Bounded (f ∷ fs) → unsigned_abs x ≤ most → f * (unsigned_abs x * unsigned_abs x) ≤ bound
  one f fs x b h = omega (arith, b (x ∷ []) (omega (arith, h)))

  others : (f : ℕ) (fs : List ℕ) → Bounded (f ∷ fs) → Bounded fs
  others f fs b p h = omega (arith, b (pos 0 ∷ p) (omega (arith, h)))

  pub corners : (factors : List ℕ) (ls hs : List ℤ) → Bounded factors
      → ((i : ℕ) → unsigned_abs (get_or ls i (pos 0)) ≤ most) → ((i : ℕ) → unsigned_abs (get_or hs i (pos 0)) ≤ most)
      → greatest_squares ls hs factors ≤ length factors * bound
  corners factors [] hs b l h = omega arith
  corners factors (x ∷ ls) [] b l h = omega arith
  corners [] (x ∷ ls) (y ∷ hs) b l h = omega arith
  corners (f ∷ fs) (x ∷ ls) (y ∷ hs) b l h =
      let rest = corners fs ls hs (others f fs b) (λ i. l (suc i)) (λ i. h (suc i)) in
      elim (of_end x y) [
        | inl e ↦ omega (arith, ap (λ n. f * (n * n)) e, one f fs x b (l 0), rest)
        | inr e ↦ omega (arith, ap (λ n. f * (n * n)) e, one f fs y b (h 0), rest)
      ]
