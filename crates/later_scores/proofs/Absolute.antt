-- Sums of scores are no greater than their summed sizes, and one step of a row.
use Rattle.std.proofs.Common.{◌≡◌, ℕ, zero, suc, ◌+◌, ◌*◌, ◌≤◌, List, ◌++◌, [], ◌∷◌, length, Bool, true, false, cond, arith}
use Rattle.std.specs.Prelude.{ℤ, ◌+ℤ◌, unsigned_abs, nat_lt, replicate}
use Rattle.std.proofs.lemmas.Int.{ints, clamps}
use Rattle.later_scores.specs.LaterSums.{total_score, part_sum, least_sum, greatest_sum}
use Rattle.weights.specs.Numbers.{absolute_sum}
use Rattle.later_scores.specs.LaterSteps.{better_of}
use Rattle.later_scores.specs.declared.ends.End.{End}
use Rattle.later_scores.specs.declared.ends.End.TheVariants.{Least, Greatest}

pub size-plus : (a b : ℤ) → unsigned_abs (a +ℤ b) ≤ unsigned_abs a + unsigned_abs b
size-plus a b = grind (arith, ints)

-- both ends are among the two
better-size : (e : End) (a b : ℤ) (n : ℕ) → unsigned_abs a ≤ n → unsigned_abs b ≤ n → unsigned_abs (better_of e a b) ≤ n
better-size Least a b n h i = omega (arith, ints, clamps, h, i)
better-size Greatest a b n h i = omega (arith, ints, clamps, h, i)

pub part-size : (e : End) (j : ℕ) (xs : List ℤ) → unsigned_abs (part_sum (better_of e) j xs) ≤ absolute_sum xs
part-size e zero xs = omega arith
part-size e (suc j) [] = omega arith
part-size e (suc j) (x ∷ xs) = by (nat_lt j (length xs)) (omega (arith, size-plus x (part_sum (better_of e) j xs), part-size e j xs)) (omega (arith, part-size e (suc j) xs))
  where
    by : (b : Bool) → unsigned_abs (x +ℤ part_sum (better_of e) j xs) ≤ absolute_sum (x ∷ xs) → unsigned_abs (part_sum (better_of e) (suc j) xs) ≤ absolute_sum (x ∷ xs) → unsigned_abs (cond b (better_of e (x +ℤ part_sum (better_of e) j xs) (part_sum (better_of e) (suc j) xs)) (x +ℤ part_sum (better_of e) j xs)) ≤ absolute_sum (x ∷ xs)
    by true h i = better-size e (x +ℤ part_sum (better_of e) j xs) (part_sum (better_of e) (suc j) xs) (absolute_sum (x ∷ xs)) h i
    by false h i = h

pub least-size : (j : ℕ) (xs : List ℤ) → unsigned_abs (least_sum j xs) ≤ absolute_sum xs
least-size j xs = part-size Least j xs

pub greatest-size : (j : ℕ) (xs : List ℤ) → unsigned_abs (greatest_sum j xs) ≤ absolute_sum xs
greatest-size j xs = part-size Greatest j xs

pub total-size : (xs : List ℤ) → unsigned_abs (total_score xs) ≤ absolute_sum xs
total-size [] = omega arith
total-size (x ∷ xs) = omega (arith, size-plus x (total_score xs), total-size xs)

pub sizes-block : (c : ℕ) (v : ℤ) (later : List ℤ) → absolute_sum (replicate c v ++ later) ≡ c * unsigned_abs v + absolute_sum later
sizes-block zero v later = omega arith
sizes-block (suc c) v later = omega (arith, sizes-block c v later)
