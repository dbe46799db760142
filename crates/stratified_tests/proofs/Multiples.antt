-- Common multiples of the sizes of strata: they do not fall with one stratum more.
use Rattle.std.proofs.Common.{◌≡◌, ◌<◌, ◌≤◌, ◌+◌, ◌*◌, ◌/◌, ℕ, zero, suc, Bool, true, false, cond, List, [], ◌∷◌, drop, nat_eq, inl, inr, refl, arith}
use Rattle.std.specs.Int.{IsGcd}
use Rattle.std.specs.List.{sum_by}
use Rattle.std.proofs.Math.Nat.{mul-le-mul_left, mul-le-mul_right}
use Rattle.std.proofs.lemmas.Bool.{cases_lt}
use Rattle.std.proofs.lemmas.Bool.Decides.{nat_tests}
use Rattle.std.proofs.lemmas.List.Sums.{sum_by-cons}
use Rattle.weights.specs.Numbers.{lcm}
use Rattle.weights.specs.declared.TheConstants.{MAX}
use Rattle.weights.proofs.Divisors.{lcm-by_gcd, quotient-positive, gcd-exists}
use Rattle.strata_cells.specs.declared.stratum.Stratum.{Stratum}
use Rattle.strata_cells.specs.Strata.{size}
use Rattle.stratified_tests.specs.StrataTests.{multiple_of}

lcm-grows : (a b : ℕ) → 0 < a → 0 < b → b ≤ lcm a b
lcm-grows a b some positive = let found = gcd-exists b a b (omega arith) in by found.0 found.1
  where
    by : (g : ℕ) → IsGcd a b g → b ≤ lcm a b
    by g is =
        let least : 1 ≤ a / g = (quotient-positive g a some is.0).1 in
        let more : 1 * b ≤ a / g * b = mul-le-mul_right b least in
        omega (arith, more, lcm-by_gcd a b g some positive is)

with-more : (n m : ℕ) → 0 < m → m ≤ cond (nat_eq n 0) m (lcm n m)
with-more n m h = by (nat_eq n 0) refl
  where
    by : (b : Bool) → nat_eq n 0 ≡ b → m ≤ cond b m (lcm n m)
    by true e = omega arith
    by false e = lcm-grows n m (let some : 0 < n = grind (arith, nat_tests) in some) h

pub multiple-some : (strata : List Stratum) → 0 < multiple_of strata
multiple-some [] = omega arith
multiple-some (s ∷ strata) = omega (arith, with-more (size s) (multiple_of strata) (multiple-some strata), multiple-some strata)

pub multiple-grows : (s : Stratum) (strata : List Stratum) → multiple_of strata ≤ multiple_of (s ∷ strata)
multiple-grows s strata = with-more (size s) (multiple_of strata) (multiple-some strata)

-- and so do those of the last strata
pub last-within : (i : ℕ) (strata : List Stratum) → multiple_of (drop i strata) ≤ multiple_of strata
last-within zero strata = omega arith
last-within (suc i) [] = omega arith
last-within (suc i) (s ∷ strata) = omega (arith, last-within i strata, multiple-grows s strata)

-- where it is above 1 there are subjects
pub multiple-many : (strata : List Stratum) → 1 < multiple_of strata → 1 ≤ sum_by size strata
multiple-many [] h = absurd (omega (arith, h))
multiple-many (s ∷ strata) h = by (nat_eq (size s) 0) refl (sum_by-cons size s strata) h (λ more. multiple-many strata more)
  where
    by : (b : Bool) → nat_eq (size s) 0 ≡ b → sum_by size (s ∷ strata) ≡ size s + sum_by size strata → 1 < cond b (multiple_of strata) (lcm (size s) (multiple_of strata)) → (1 < multiple_of strata → 1 ≤ sum_by size strata) → 1 ≤ sum_by size (s ∷ strata)
    by true z e h more = omega (arith, e, more h)
    by false z e h more = (let some : 0 < size s = other (size s) z in omega (arith, e, some))
      where
        other : (n : ℕ) → nat_eq n 0 ≡ false → 0 < n
        other n z = grind (arith, nat_tests)

pub multiple-fits : (strata : List Stratum) → multiple_of strata * sum_by size strata ≤ MAX → multiple_of strata ≤ MAX
multiple-fits strata bound = elim (cases_lt 1 (multiple_of strata)) [
  | inl l ↦ (let many = multiple-many strata l in let more : multiple_of strata * 1 ≤ multiple_of strata * sum_by size strata = mul-le-mul_left (multiple_of strata) many in omega (arith, more, bound))
  | inr m ↦ omega (arith, m)
]
