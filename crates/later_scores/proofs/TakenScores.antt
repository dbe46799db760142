-- One place of a row after another.
use Rattle.std.proofs.Common.{◌≡◌, ℕ, zero, suc, ◌+◌, ◌-◌, ◌<◌, ◌≤◌, ◌^◌, List, ◌∷◌, length, get_or, set, cond, refl, sym, ◌∙◌, ap, arith, inl, inr}
use Rattle.std.specs.Prelude.{ℤ, pos, ◌+ℤ◌, unsigned_abs, nat_le}
use Rattle.std.proofs.lemmas.Bool.Decides.{eqb_tells}
use Rattle.std.proofs.lemmas.List.{length-set, get_or-set_same, get_or-set_other}
use Rattle.std.proofs.lemmas.Int.{ints, fits_signed_from_abs}
use Rattle.std.specs.Int.RustNames.{FitsSigned}
use mir.Syntax.{w128}
use Rattle.later_scores.specs.LaterSums.{part_sum}
use Rattle.weights.specs.Numbers.{absolute_sum}
use Rattle.later_scores.proofs.Absolute.{part-size, size-plus}
use Rattle.later_scores.specs.LaterSteps.{IsHalf, better_of}
use Rattle.later_scores.specs.declared.ends.End.{End}

part-value : (better : ℤ → ℤ → ℤ) (k : ℕ) (x : ℤ) (xs : List ℤ) → 1 ≤ k → cond (nat_le k (length xs)) (better (part_sum better (k - 1) xs +ℤ x) (part_sum better k xs)) (part_sum better (k - 1) xs +ℤ x) ≡ part_sum better k (x ∷ xs)
part-value better zero x xs h = absurd (omega (arith, h))
part-value better (suc k) x xs h =
    let less : suc k - 1 ≡ k = omega arith in
    rw (less, turned (part_sum better k xs) x) refl
  where
    turned : (a b : ℤ) → a +ℤ b ≡ b +ℤ a
    turned a b = omega (arith, ints)

pub half-more : (better : ℤ → ℤ → ℤ) (x : ℤ) (xs row : List ℤ) (j k : ℕ) (v : ℤ) → j ≡ suc k → 1 ≤ k → IsHalf better x xs row j → v ≡ cond (nat_le k (length xs)) (better (get_or row (k - 1) (pos 0) +ℤ x) (get_or row k (pos 0))) (get_or row (k - 1) (pos 0) +ℤ x) → IsHalf better x xs (set row k v) k
half-more better x xs row j k v e h r w =
    let inside : k < length row = omega (arith, e, r.long) in
    let one = r.before (k - 1) (omega (arith, e, h)) in
    let two = r.before k (omega (arith, e)) in
    let here : v ≡ part_sum better k (x ∷ xs) = w ∙ rw (one, two) (part-value better k x xs h) in
    record {
      long = omega (arith, inside, length-set row k v);
      before = λ i l. get_or-set_other row k i v (pos 0) (λ s. omega (arith, s, l)) ∙ r.before i (omega (arith, l, e));
      after = λ i l m. after i l m here;
    }
  where
    after : (i : ℕ) → k ≤ i → i < length (set row k v) → v ≡ part_sum better k (x ∷ xs) → get_or (set row k v) i (pos 0) ≡ part_sum better i (x ∷ xs)
    after i l m here = elim (eqb_tells i k) [
      | inl t ↦ ap (λ n. get_or (set row k v) n (pos 0)) t.1 ∙ get_or-set_same row k v (pos 0) (omega (arith, e, r.long)) ∙ here ∙ ap (λ n. part_sum better n (x ∷ xs)) (sym t.1)
      | inr t ↦ get_or-set_other row k i v (pos 0) t.1 ∙ r.after i (omega (arith, e, l, t.1)) (omega (arith, m, length-set row k v))
    ]

pub fits-size : (a : ℤ) (n : ℕ) → unsigned_abs a ≤ n → n < 2 ^ 127 → FitsSigned w128 a
fits-size a n h i = fits_signed_from_abs w128 a (omega (arith, h, i))

pub fits-plus : (a s : ℤ) (n : ℕ) → unsigned_abs a ≤ n → unsigned_abs s + n < 2 ^ 127 → FitsSigned w128 (a +ℤ s)
fits-plus a s n h i = fits_signed_from_abs w128 (a +ℤ s) (omega (arith, h, i, size-plus a s))

pub half-held : (e : End) (x : ℤ) (xs row : List ℤ) (j i : ℕ) → IsHalf (better_of e) x xs row j → i < j → unsigned_abs (get_or row i (pos 0)) ≤ absolute_sum xs
half-held e x xs row j i h l = rw (h.before i l) (part-size e i xs)

pub row-loop : (better : ℤ → ℤ → ℤ) (x x' a b v v' : ℤ) (xs row : List ℤ) (j n : ℕ) → x' ≡ x → 1 < j → n ≡ length xs → IsHalf better x' xs row j → v ≡ cond (nat_le (j - 1) n) (better a b) a → a ≡ get_or row (j - 1 - 1) (pos 0) +ℤ x → b ≡ get_or row (j - 1) (pos 0) → v' ≡ v → IsHalf better x' xs (set row (j - 1) v') (j - 1)
row-loop better x x' a b v v' xs row j n e h k r w p q o = half-more better x' xs row j (j - 1) v' (omega (arith, h)) (omega (arith, h)) r (o ∙ w ∙ rw (p, q, k, e) refl)
