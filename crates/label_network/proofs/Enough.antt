-- How many sums a table has to hold: the lesser of each part of the groups and the rest of them.
use Rattle.std.proofs.Common.{◌≡◌, ℕ, zero, suc, ◌+◌, ◌≤◌, List, [], ◌∷◌, length, get_or, take, drop, true, arith, ◌⊎◌, inl, inr, nat_le}
use Rattle.std.specs.Prelude.{ℤ}
use Rattle.std.specs.List.{sum}
use Rattle.std.proofs.lemmas.Bool.{leb-true}
use Rattle.std.proofs.lemmas.List.Sums.{sum_by-cons, sum_by-take-drop}
use Rattle.weights.specs.Grouped.{fits}
use Rattle.weights.proofs.Sized.{first_and}
use Rattle.later_scores.specs.LaterTables.{IsTabled}
use Rattle.label_network.specs.LinearSteps.{HasTails}
use Rattle.label_network.proofs.Rows.{get-within}

fits-sum : (r s : List ℕ) → fits r s ≡ true → sum r ≤ sum s
fits-sum [] [] f = omega arith
fits-sum [] (b ∷ s) f = absurd (cc f)
fits-sum (a ∷ r) [] f = absurd (cc f)
fits-sum (a ∷ r) (b ∷ s) f =
    let both = first_and (nat_le a b) (fits r s) f in
    omega (arith, leb-true a b both.0, fits-sum r s both.1, sum_by-cons (λ v. v) a r, sum_by-cons (λ v. v) b s)

fits-take : (k : ℕ) (r s : List ℕ) → fits r s ≡ true → sum (take k r) ≤ sum (take k s)
fits-take zero r s f = omega arith
fits-take (suc k) [] [] f = omega arith
fits-take (suc k) [] (b ∷ s) f = absurd (cc f)
fits-take (suc k) (a ∷ r) [] f = absurd (cc f)
fits-take (suc k) (a ∷ r) (b ∷ s) f =
    let both = first_and (nat_le a b) (fits r s) f in
    omega (arith, leb-true a b both.0, fits-take k r s both.1, sum_by-cons (λ v. v) a (take k r), sum_by-cons (λ v. v) b (take k s))

fits-drop : (k : ℕ) (r s : List ℕ) → fits r s ≡ true → sum (drop k r) ≤ sum (drop k s)
fits-drop zero r s f = fits-sum r s f
fits-drop (suc k) [] [] f = omega arith
fits-drop (suc k) [] (b ∷ s) f = absurd (cc f)
fits-drop (suc k) (a ∷ r) [] f = absurd (cc f)
fits-drop (suc k) (a ∷ r) (b ∷ s) f = fits-drop k r s (first_and (nat_le a b) (fits r s) f).1

-- rows in order of their scores: each end of them, or what stands before it
pub tails-enough : (most : ℕ) (rows r : List ℕ) (later : List ℤ) → ((k : ℕ) → (sum (drop k rows) ≤ most) ⊎ (sum (take k rows) ≤ most)) → fits r rows ≡ true → sum r ≡ length later → HasTails (most + 1) r later
tails-enough most rows r later enough f e = record {
  held = λ k. elim (enough k) [
    | inl h ↦ inr (omega (arith, h, fits-drop k r rows f))
    | inr h ↦ inl (omega (arith, h, fits-take k r rows f, sum_by-take-drop (λ v. v) r k, e))
  ];
}

others-within : (i : ℕ) (r s : List ℕ) → fits r s ≡ true → sum r + get_or s i 0 ≤ sum s + get_or r i 0
others-within i [] [] f = omega arith
others-within i [] (b ∷ s) f = absurd (cc f)
others-within i (a ∷ r) [] f = absurd (cc f)
others-within zero (a ∷ r) (b ∷ s) f = omega (arith, fits-sum r s (first_and (nat_le a b) (fits r s) f).1, sum_by-cons (λ v. v) a r, sum_by-cons (λ v. v) b s)
others-within (suc i) (a ∷ r) (b ∷ s) f =
    let both = first_and (nat_le a b) (fits r s) f in
    omega (arith, leb-true a b both.0, others-within i r s both.1, sum_by-cons (λ v. v) a r, sum_by-cons (λ v. v) b s)

-- one group by itself, or the others
pub group-enough : (most : ℕ) (rows r : List ℕ) (later : List ℤ) (i : ℕ) → (get_or rows i 0 ≤ most) ⊎ (sum rows ≤ most + get_or rows i 0) → fits r rows ≡ true → sum r ≡ length later → IsTabled (most + 1) (get_or r i 0) later
group-enough most rows r later i enough f e = elim enough [
  | inl h ↦ inr (omega (arith, h, get-within rows r i f))
  | inr h ↦ inl (omega (arith, h, others-within i r rows f, e))
]
