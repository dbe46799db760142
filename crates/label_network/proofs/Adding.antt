-- One row after another adds its step times a part of the later scores: their least, or greatest.
use Rattle.std.proofs.Common.{◌≡◌, ℕ, zero, suc, ◌+◌, ◌-◌, ◌*◌, ◌<◌, ◌≤◌, ◌^◌, List, [], ◌∷◌, length, get_or, drop, ◌∙◌, ap, subst, arith, add-one, drop-cons, drop_of_length-le, ◌⊎◌}
use Rattle.std.proofs.Math.IntN.{+ℤ_idl}
use Rattle.std.specs.Prelude.{ℤ, pos, ◌+ℤ◌, ◌-ℤ◌, ◌*ℤ◌, unsigned_abs}
use Rattle.std.specs.List.{sum}
use Rattle.std.proofs.Math.Nat.{mul-le-mul_left, add-mul}
use Rattle.std.proofs.lemmas.Int.{ints, unsigned_abs-mul}
use Rattle.std.proofs.lemmas.List.Sums.{sum_by-drop_more, sum_by-take-drop}
use Rattle.later_scores.specs.LaterSums.{total_score, least_sum, greatest_sum}
use Rattle.weights.specs.Numbers.{absolute_sum}
use Rattle.later_scores.proofs.Absolute.{least-size, greatest-size, total-size, size-plus}
use Rattle.label_network.specs.LinearSteps.{steps_by, added_by, reach, whole_reach, HasTails}

-- what is added of the rows before row i, and what remains of them from row i - 1 on
pub record IsAdding (part : ℕ → List ℤ → ℤ) (us : List ℤ) (ms : List ℕ) (later : List ℤ)
    (i left : ℕ) (added : ℤ) : Type 0 where
  pub counted : left ≡ sum (drop (i - 1) ms)
  pub adding : added +ℤ steps_by part (get_or us (i - 1) (pos 0)) (drop i us) (drop i ms) later
      ≡ added_by part us ms later
  pub small : unsigned_abs added + reach (get_or us (i - 1) (pos 0)) (drop i us) * absolute_sum later
      ≤ whole_reach us * absolute_sum later

-- both ends of what is added
pub record AreAdding (us : List ℤ) (ms : List ℕ) (later : List ℤ) (i left : ℕ) (low high : ℤ)
    : Type 0 where
  pub least : IsAdding least_sum us ms later i left low
  pub most : IsAdding greatest_sum us ms later i left high

less-none : (u : ℤ) → u -ℤ pos 0 ≡ u
less-none u = omega (arith, ints)

pub first-small : (us : List ℤ) (later : List ℤ) (t : ℤ) → t ≡ total_score later → whole_reach us * absolute_sum later < 2 ^ 127 → unsigned_abs (get_or us 0 (pos 0) -ℤ pos 0) * unsigned_abs t < 2 ^ 127
first-small [] later t e h = omega arith
first-small (u ∷ us) later t e h =
    let one : unsigned_abs t ≤ absolute_sum later = rw e (total-size later) in
    rw (less-none u) (omega (arith, (mul-le-mul_left (unsigned_abs u) one), h, add-mul (unsigned_abs u) (reach u us) (absolute_sum later)))

first-adding : (part : ℕ → List ℤ → ℤ) (us : List ℤ) (ms : List ℕ) (later : List ℤ) (left : ℕ) (t s : ℤ) → length us ≡ length ms → 0 < length us → left ≡ sum ms → t ≡ total_score later → s ≡ pos 0 +ℤ ((get_or us 0 (pos 0) -ℤ pos 0) *ℤ t) → IsAdding part us ms later 1 left s
first-adding part [] ms later left t s l h e f g = absurd (omega (arith, h))
first-adding part (u ∷ us) [] later left t s l h e f g = absurd (omega (arith, l))
first-adding part (u ∷ us) (m ∷ ms) later left t s l h e f g =
    let value : s ≡ u *ℤ total_score later = g ∙ rw (less-none u, f) (+ℤ_idl (u *ℤ total_score later)) in
    let most : unsigned_abs u * unsigned_abs (total_score later) ≤ unsigned_abs u * absolute_sum later = mul-le-mul_left (unsigned_abs u) (total-size later) in
    record {
      counted = e;
      adding = ap (λ a. a +ℤ steps_by part u us ms later) value;
      small = omega (arith, (ap unsigned_abs value ∙ unsigned_abs-mul u (total_score later)), most, add-mul (unsigned_abs u) (reach u us) (absolute_sum later));
    }

pub first-both : (us : List ℤ) (ms : List ℕ) (later : List ℤ) (left : ℕ) (t s : ℤ) → length us ≡ length ms → 0 < length us → left ≡ sum ms → t ≡ total_score later → s ≡ pos 0 +ℤ ((get_or us 0 (pos 0) -ℤ pos 0) *ℤ t) → AreAdding us ms later 1 left s s
first-both us ms later left t s l h e f g = record {
  least = first-adding least_sum us ms later left t s l h e f g;
  most = first-adding greatest_sum us ms later left t s l h e f g;
}

-- the steps from a row on are among all
reach-at : (k : ℕ) (u : ℤ) (us : List ℤ) → reach (get_or (u ∷ us) k (pos 0)) (drop (suc k) (u ∷ us)) ≤ reach u us
reach-at zero u us = omega arith
reach-at (suc k) u [] = omega arith
reach-at (suc k) u (w ∷ us) = omega (arith, reach-at k w us)

reach-part : (k : ℕ) (us : List ℤ) → reach (get_or us k (pos 0)) (drop (suc k) us) ≤ whole_reach us
reach-part k [] = omega arith
reach-part k (u ∷ us) = omega (arith, reach-at k u us)

module _ (us : List ℤ) (ms : List ℕ) (later : List ℤ) (i : ℕ) (some : 1 ≤ i) (before : i < length us) (level : length us ≡ length ms) where
  rows-split : drop i us ≡ get_or us i (pos 0) ∷ drop (i + 1) us
  rows-split = rw add-one (drop-cons us i (pos 0) before)

  sizes-split : drop i ms ≡ get_or ms i 0 ∷ drop (i + 1) ms
  sizes-split = rw add-one (drop-cons ms i 0 (omega (arith, before, level)))

  reach-split : reach (get_or us (i - 1) (pos 0)) (drop i us) ≡ unsigned_abs (get_or us i (pos 0) -ℤ get_or us (i - 1) (pos 0)) + reach (get_or us i (pos 0)) (drop (i + 1) us)
  reach-split = ap (reach (get_or us (i - 1) (pos 0))) rows-split

  pub next-step : whole_reach us < 2 ^ 127 → unsigned_abs (get_or us i (pos 0) -ℤ get_or us (i - 1) (pos 0)) < 2 ^ 127
  next-step h =
      let here : suc (i - 1) ≡ i = omega (arith, some) in
      omega (arith, (subst (λ n. reach (get_or us (i - 1) (pos 0)) (drop n us) ≤ whole_reach us) here (reach-part (i - 1) us)), reach-split, h)

  module _ (left : ℕ) (counted : left ≡ sum (drop (i - 1) ms)) where
    pub next-left : left - get_or ms (i - 1) 0 ≡ sum (drop i ms)
    next-left =
        let more : sum (drop (i - 1) ms) ≡ get_or ms (i - 1) 0 + sum (drop ((i - 1) + 1) ms) = sum_by-drop_more (λ v. v) ms (i - 1) 0 (omega (arith, some, before, level)) in
        let here : (i - 1) + 1 ≡ i = omega (arith, some) in
        omega (arith, counted, more, (ap (λ n. sum (drop n ms)) here))

    pub next-less : get_or ms (i - 1) 0 ≤ left
    next-less =
        let more : sum (drop (i - 1) ms) ≡ get_or ms (i - 1) 0 + sum (drop ((i - 1) + 1) ms) = sum_by-drop_more (λ v. v) ms (i - 1) 0 (omega (arith, some, before, level)) in
        omega (arith, counted, more)

    pub next-few : sum ms ≡ length later → left - get_or ms (i - 1) 0 ≤ length later
    next-few e = omega (arith, next-left, e, sum_by-take-drop (λ v. v) ms i)

    pub next-held : (width : ℕ) → HasTails width ms later → (length later ≤ (left - get_or ms (i - 1) 0) + (width - 1)) ⊎ (left - get_or ms (i - 1) 0 < width)
    next-held width h = rw (next-left) (h.held i)

    module _ (part : ℕ → List ℤ → ℤ) (size : (j : ℕ) → unsigned_abs (part j later) ≤ absolute_sum later) (s : ℤ) (a : IsAdding part us ms later i left s) where
      sizes : unsigned_abs s + (unsigned_abs (get_or us i (pos 0) -ℤ get_or us (i - 1) (pos 0)) * absolute_sum later + reach (get_or us i (pos 0)) (drop (i + 1) us) * absolute_sum later) ≤ whole_reach us * absolute_sum later
      sizes = omega (arith, a.small, ap (λ n. n * absolute_sum later) reach-split, add-mul (unsigned_abs (get_or us i (pos 0) -ℤ get_or us (i - 1) (pos 0))) (reach (get_or us i (pos 0)) (drop (i + 1) us)) (absolute_sum later))

      product : (j : ℕ) (v : ℤ) → v ≡ part j later → unsigned_abs (get_or us i (pos 0) -ℤ get_or us (i - 1) (pos 0)) * unsigned_abs v ≤ unsigned_abs (get_or us i (pos 0) -ℤ get_or us (i - 1) (pos 0)) * absolute_sum later
      product j v e = mul-le-mul_left (unsigned_abs (get_or us i (pos 0) -ℤ get_or us (i - 1) (pos 0))) (rw e (size j))

      next-small : (j : ℕ) (v : ℤ) → v ≡ part j later → whole_reach us * absolute_sum later < 2 ^ 127 → unsigned_abs s + unsigned_abs (get_or us i (pos 0) -ℤ get_or us (i - 1) (pos 0)) * unsigned_abs v < 2 ^ 127
      next-small j v e h = omega (arith, sizes, product j v e, h)

      next-adding : (v s' : ℤ) → v ≡ part (left - get_or ms (i - 1) 0) later → s' ≡ s +ℤ ((get_or us i (pos 0) -ℤ get_or us (i - 1) (pos 0)) *ℤ v) → IsAdding part us ms later (i + 1) (left - get_or ms (i - 1) 0) s'
      next-adding v s' e f =
          let back : (i + 1) - 1 ≡ i = omega arith in
          let here : v ≡ part (sum (get_or ms i 0 ∷ drop (i + 1) ms)) later = e ∙ ap (λ n. part n later) (next-left ∙ ap sum sizes-split) in
          let times : (get_or us i (pos 0) -ℤ get_or us (i - 1) (pos 0)) *ℤ v ≡ (get_or us i (pos 0) -ℤ get_or us (i - 1) (pos 0)) *ℤ part (sum (get_or ms i 0 ∷ drop (i + 1) ms)) later = ap (λ n. (get_or us i (pos 0) -ℤ get_or us (i - 1) (pos 0)) *ℤ n) here in
          let size : unsigned_abs s' ≤ unsigned_abs s + unsigned_abs ((get_or us i (pos 0) -ℤ get_or us (i - 1) (pos 0)) *ℤ v) = rw f (size-plus s ((get_or us i (pos 0) -ℤ get_or us (i - 1) (pos 0)) *ℤ v)) in
          record {
            counted = rw back next-left;
            adding = rw back (last _ _ _ _ _ _ a.adding (ap (λ ws. steps_by part (get_or us (i - 1) (pos 0)) ws (drop i ms) later) rows-split ∙ ap (λ ns. steps_by part (get_or us (i - 1) (pos 0)) (get_or us i (pos 0) ∷ drop (i + 1) us) ns later) sizes-split) times f);
            small = rw back (omega (arith, sizes, size, (unsigned_abs-mul (get_or us i (pos 0) -ℤ get_or us (i - 1) (pos 0)) v), product (left - get_or ms (i - 1) 0) v e));
          }
        where
          last : (s s' q p r all : ℤ) {t : ℤ} → s +ℤ t ≡ all → t ≡ q +ℤ r → p ≡ q → s' ≡ s +ℤ p → s' +ℤ r ≡ all
          last s s' q p r all {t} a b c d = omega (arith, ints, a, b, c, d)

    module _ (low high : ℤ) (a : AreAdding us ms later i left low high) where
      pub low-small : (j : ℕ) (v : ℤ) → v ≡ least_sum j later → whole_reach us * absolute_sum later < 2 ^ 127 → unsigned_abs low + unsigned_abs (get_or us i (pos 0) -ℤ get_or us (i - 1) (pos 0)) * unsigned_abs v < 2 ^ 127
      low-small = next-small least_sum (λ j. least-size j later) low a.least

      pub high-small : (j : ℕ) (v : ℤ) → v ≡ greatest_sum j later → whole_reach us * absolute_sum later < 2 ^ 127 → unsigned_abs high + unsigned_abs (get_or us i (pos 0) -ℤ get_or us (i - 1) (pos 0)) * unsigned_abs v < 2 ^ 127
      high-small = next-small greatest_sum (λ j. greatest-size j later) high a.most

      pub next-both : (v w low' high' : ℤ) → v ≡ least_sum (left - get_or ms (i - 1) 0) later → w ≡ greatest_sum (left - get_or ms (i - 1) 0) later → low' ≡ low +ℤ ((get_or us i (pos 0) -ℤ get_or us (i - 1) (pos 0)) *ℤ v) → high' ≡ high +ℤ ((get_or us i (pos 0) -ℤ get_or us (i - 1) (pos 0)) *ℤ w) → AreAdding us ms later (i + 1) (left - get_or ms (i - 1) 0) low' high'
      next-both v w low' high' e f g h = record {
        least = next-adding least_sum (λ j. least-size j later) low a.least v low' e g;
        most = next-adding greatest_sum (λ j. greatest-size j later) high a.most w high' f h;
      }

pub last-adding : (part : ℕ → List ℤ → ℤ) (us : List ℤ) (ms : List ℕ) (later : List ℤ) (i left : ℕ) (s : ℤ) → length us ≤ i → IsAdding part us ms later i left s → s ≡ added_by part us ms later
last-adding part us ms later i left s h a =
    plain s _ _ a.adding (ap (λ ws. steps_by part (get_or us (i - 1) (pos 0)) ws (drop i ms) later) (drop_of_length-le us {i = i} h))
  where
    plain : (s t all : ℤ) → s +ℤ t ≡ all → t ≡ pos 0 → s ≡ all
    plain s t all e f = omega (arith, ints, e, f)
