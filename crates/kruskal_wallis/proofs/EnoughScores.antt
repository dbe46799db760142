-- How many scores a table has to hold: one group after another.
use Rattle.std.proofs.Common.{◌≡◌, ℕ, zero, suc, ◌+◌, ◌-◌, ◌<◌, ◌≤◌, ◌⊎◌, List, [], ◌∷◌, length, get_or, max, min, arith, inl, inr, refl}
use Rattle.std.specs.List.{sum}
use Rattle.std.proofs.lemmas.Bool.{cases_lt}
use Rattle.pooled_columns.proofs.GroupFacts.{at-within}
use Rattle.kruskal_wallis.specs.RankSumSteps.{AreEnough}

-- of the groups before place i
pub record IsEnoughTo (sizes : List ℕ) (i most : ℕ) : Type 0 where
  pub within : most ≤ sum sizes
  pub each : (j : ℕ) → j < i → most < get_or sizes j 0 → sum sizes ≤ most + get_or sizes j 0

pub enough-first : (sizes : List ℕ) → IsEnoughTo sizes 0 0
enough-first sizes = record { within = omega arith; each = λ j h. absurd (omega (arith, h)) }

pub enough-next : (sizes : List ℕ) (i most wide all : ℕ) → all ≡ sum sizes → IsEnoughTo sizes i most → wide ≡ max most (min (get_or sizes i 0) (all - get_or sizes i 0)) → IsEnoughTo sizes (i + 1) wide
enough-next sizes i most wide all e k f = record {
  within = omega (arith, k.within, f, at-within sizes i);
  each = λ j h m. by j (cases_lt j i) h m;
}
  where
    by : (j : ℕ) → (j < i) ⊎ (i ≤ j) → j < i + 1 → wide < get_or sizes j 0 → sum sizes ≤ wide + get_or sizes j 0
    by j (inl before) h m = omega (arith, f, m, k.each j before (omega (arith, f, m)))
    by j (inr after) h m =
        let same : j ≡ i = omega (arith, after, h) in
        let size : get_or sizes j 0 ≡ get_or sizes i 0 = rw same refl in
        omega (arith, e, f, m, size)

pub enough-end : (sizes : List ℕ) (i most : ℕ) → length sizes ≤ i → IsEnoughTo sizes i most → AreEnough most sizes
enough-end sizes i most h k = record { each = λ j m. k.each j (omega (arith, h, inside sizes j m)) m }
  where
    inside : (xs : List ℕ) (j : ℕ) → most < get_or xs j 0 → j < length xs
    inside [] j m = absurd (omega (arith, m))
    inside (x ∷ xs) zero m = omega arith
    inside (x ∷ xs) (suc j) m = omega (arith, inside xs j m)
