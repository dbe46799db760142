-- Sizes in keys, and counts that fit them.
use Rattle.std.proofs.Common.{◌≡◌, ℕ, zero, suc, ◌+◌, ◌-◌, ◌*◌, ◌<◌, ◌≤◌, ◌^◌, List, [], ◌∷◌, map, length, get_or, true, refl, ◌∙◌, arith, nat_le}
use Rattle.std.specs.Prelude.{ℤ, pos}
use Rattle.std.specs.List.{sum}
use Rattle.std.proofs.lemmas.Bool.{leb-true, le-leb}
use Rattle.std.proofs.lemmas.List.Sums.{sum_by-cons}
use Rattle.std.proofs.Math.Nat.{mul-le-mul}
use Rattle.weights.specs.Numbers.{binomial}
use Rattle.weights.specs.Labellings.{number_of_labellings}
use Rattle.weights.specs.Grouped.{fits}
use Rattle.weights.proofs.Binomials.{number_of_labellings-cons, binomial-zero, binomial-all, binomial-ascends, binomial-left_out}
use Rattle.weights.proofs.Sized.{first_and, sum-minus}
use Rattle.label_network.specs.LabelSteps.{IsSize, AreSizes, IsHeld}
use Rattle.label_network.proofs.ChoiceMoves.{fits-drop}
use Rattle.label_network.proofs.Rows.{fits-long, get-within}

-- sizes that stand in a key
pub sizes-of_pos : (xs : List ℕ) → sum xs < 2 ^ 64 → (zs : List ℤ) → zs ≡ map pos xs → AreSizes zs
sizes-of_pos xs h zs e = rw e (record { each = λ i l. each xs h i l })
  where
    each : (xs : List ℕ) → sum xs < 2 ^ 64 → (i : ℕ) → i < length (map pos xs) → IsSize (get_or (map pos xs) i (pos 0))
    each [] h i l = absurd (omega (arith, l))
    each (x ∷ xs) h zero l = record { whole = refl; small = omega (arith, h, sum_by-cons (λ v. v) x xs) }
    each (x ∷ xs) h (suc i) l = each xs (omega (arith, h, sum_by-cons (λ v. v) x xs)) i (omega (arith, l))

pub held-within : (width : ℕ) (rows r : List ℕ) → fits r rows ≡ true → IsHeld width rows → IsHeld width r
held-within width rows r f h = record {
  each = λ i l w. omega (arith, fits-drop (i + 1) rows r f, h.each i (omega (arith, l, fits-long r rows f)) (omega (arith, w, get-within rows r i f)));
}

pub fits-chain : (x r s : List ℕ) → fits x r ≡ true → fits r s ≡ true → fits x s ≡ true
fits-chain [] [] s f g = g
fits-chain [] (b ∷ r) s f g = absurd (cc f)
fits-chain (a ∷ x) [] s f g = absurd (cc f)
fits-chain (a ∷ x) (b ∷ r) [] f g = absurd (cc g)
fits-chain (a ∷ x) (b ∷ r) (c ∷ s) f g =
    let one = first_and (nat_le a b) (fits x r) f in
    let two = first_and (nat_le b c) (fits r s) g in
    rw (le-leb a c (omega (arith, leb-true a b one.0, leb-true b c two.0)), fits-chain x r s one.1 two.1) refl

-- fewer to choose and fewer to leave out are no more ways
fewer-ways : (a b s t : ℕ) → a ≤ b → s ≤ t → binomial (a + s) a ≤ binomial (b + t) b
fewer-ways a b s t h i =
    let same : s + a ≡ a + s = omega arith in
    let more : s + a + (b - a) ≡ b + s = omega (arith, h) in
    let chosen : a + (b - a) ≡ b = omega (arith, h) in
    let one : binomial (a + s) a ≤ binomial (b + s) b = rw (more, chosen, same) at (binomial-ascends s a (b - a)) in
    let wider : b + s + (t - s) ≡ b + t = omega (arith, i) in
    let left : s + (t - s) ≡ t = omega (arith, i) in
    let two : binomial (b + s) s ≤ binomial (b + t) t = rw (wider, left) at (binomial-ascends b s (t - s)) in
    let turn : b + s - b ≡ s = omega arith in
    let back : b + t - b ≡ t = omega arith in
    let three : binomial (b + s) s ≡ binomial (b + s) b = rw turn at (binomial-left_out (b + s) b (omega arith)) in
    let four : binomial (b + t) t ≡ binomial (b + t) b = rw back at (binomial-left_out (b + t) b (omega arith)) in
    omega (arith, one, two, three, four)

-- smaller rows have no more labellings
pub fewer-labellings : (x r : List ℕ) → fits x r ≡ true → number_of_labellings x ≤ number_of_labellings r
fewer-labellings [] [] f = omega arith
fewer-labellings [] (b ∷ r) f = absurd (cc f)
fewer-labellings (a ∷ x) [] f = absurd (cc f)
fewer-labellings (a ∷ x) (b ∷ r) f =
    let both = first_and (nat_le a b) (fits x r) f in
    let less : sum x ≤ sum r = omega (arith, sum-minus r x both.1) in
    rw (number_of_labellings-cons a x, number_of_labellings-cons b r) (mul-le-mul (fewer-ways a b (sum x) (sum r) (leb-true a b both.0) less) (fewer-labellings x r both.1))

binomial-one : binomial (1 + 0) 1 * 1 ≡ 1
binomial-one = rw (binomial-all 1) refl

-- one subject is labelled in one way by counts of it
pub one-labelling : (x : List ℕ) → sum x ≡ 1 → number_of_labellings x ≡ 1
one-labelling x e = by x e
  where
    none : (x : List ℕ) → sum x ≡ 0 → number_of_labellings x ≡ 1
    none [] e = refl
    none (zero ∷ x) e =
        let less : sum x ≡ 0 = omega (arith, e, sum_by-cons (λ v. v) 0 x) in
        number_of_labellings-cons 0 x ∙ rw (binomial-zero (0 + sum x), none x less) refl
    none (suc a ∷ x) e = absurd (omega (arith, e, sum_by-cons (λ v. v) (suc a) x))

    by : (x : List ℕ) → sum x ≡ 1 → number_of_labellings x ≡ 1
    by [] e = absurd (omega (arith, e))
    by (zero ∷ x) e =
        let less : sum x ≡ 1 = omega (arith, e, sum_by-cons (λ v. v) 0 x) in
        number_of_labellings-cons 0 x ∙ rw (binomial-zero (0 + sum x), by x less) refl
    by (suc a ∷ x) e =
        let one : suc a ≡ 1 = omega (arith, e, sum_by-cons (λ v. v) (suc a) x) in
        let less : sum x ≡ 0 = omega (arith, e, sum_by-cons (λ v. v) (suc a) x) in
        number_of_labellings-cons (suc a) x ∙ rw (none x less, one, less) binomial-one
