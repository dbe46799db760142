-- Sums over strata, step by step, and within their limits.
use Rattle.std.proofs.Common.{◌≡◌, ℕ, zero, suc, ◌+◌, ◌*◌, ◌<◌, ◌≤◌, List, [], ◌∷◌, length, drop, refl, arith, add-one, suc-add, drop-cons}
use Rattle.std.specs.List.{AllByRecursion, sum_by}
use Rattle.std.proofs.Math.Nat.{mul-le-mul_right}
use Rattle.std.proofs.lemmas.List.Sums.{sum_by-cons}
use Rattle.strata_cells.specs.declared.stratum.Stratum.{Stratum}
use Rattle.strata_cells.specs.Strata.{size, stratum_at}
use Rattle.strata_cells.specs.StrataLimits.{IsSmall}

abbrev none : Stratum
none = record { a = 0; b = 0; c = 0; d = 0 }

pub next-drop : (strata : List Stratum) (i : ℕ) → i < length strata → drop i strata ≡ stratum_at strata i ∷ drop (i + 1) strata
next-drop strata i h = rw (add-one, drop-cons strata i none h) refl

pub past-drop : {X : Type 0} (xs : List X) (i : ℕ) → length xs ≤ i → drop i xs ≡ []
past-drop [] zero h = refl
past-drop [] (suc i) h = refl
past-drop (x ∷ xs) zero h = absurd (omega (arith, h))
past-drop (x ∷ xs) (suc i) h = past-drop xs i (omega (arith, h))

pub drop-head : (g : ℕ) (strata : List Stratum) (t : Stratum) (ts : List Stratum) → drop g strata ≡ t ∷ ts → (stratum_at strata g ≡ t) × (drop (g + 1) strata ≡ ts)
drop-head zero [] t ts d = absurd (cc d)
drop-head (suc g) [] t ts d = absurd (cc d)
drop-head zero (u ∷ us) t ts d = (cc, cc)
drop-head (suc g) (u ∷ us) t ts d = let rest = drop-head g us t ts d in (rest.0, rw (suc-add g 1) rest.1)

pub past-end : (g : ℕ) (strata : List Stratum) → drop g strata ≡ [] → length strata ≤ g
past-end g [] d = omega arith
past-end zero (u ∷ us) d = absurd (cc d)
past-end (suc g) (u ∷ us) d = omega (arith, past-end g us d)

pub sum-step : (f : Stratum → ℕ) (strata : List Stratum) (i : ℕ) → i < length strata → sum_by f (drop i strata) ≡ f (stratum_at strata i) + sum_by f (drop (i + 1) strata)
sum-step f strata i h = rw (add-one, drop-cons strata i (record { a = 0; b = 0; c = 0; d = 0 }) h) (sum_by-cons f (stratum_at strata i) (drop (suc i) strata))

pub sum-end : (f : Stratum → ℕ) (strata : List Stratum) (i : ℕ) → length strata ≤ i → sum_by f (drop i strata) ≡ 0
sum-end f [] zero h = refl
sum-end f [] (suc i) h = refl
sum-end f (s ∷ strata) zero h = absurd (omega (arith, h))
sum-end f (s ∷ strata) (suc i) h = sum-end f strata i (omega (arith, h))

pub sum-within : (f : Stratum → ℕ) (m : ℕ) → ((s : Stratum) → IsSmall s → f s ≤ m) → (strata : List Stratum) → AllByRecursion IsSmall strata → sum_by f strata ≤ length strata * m
sum-within f m each [] all = omega arith
sum-within f m each (s ∷ strata) all = omega (arith, each s all.0, sum-within f m each strata all.1, sum_by-cons f s strata)

times-few : (n m s : ℕ) → n ≤ 10000 → s ≤ n * m → s ≤ 10000 * m
times-few n m s h k = omega (arith, mul-le-mul_right m h, k)

pub subjects-few : (strata : List Stratum) → AllByRecursion IsSmall strata → length strata ≤ 10000 → sum_by size strata ≤ 40000000000
subjects-few strata all few = times-few (length strata) 4000000 (sum_by size strata) few (sum-within size 4000000 (λ s h. omega (arith, h.0, h.1, h.2, h.3)) strata all)

pub sums-within : (f g : Stratum → ℕ) → ((s : Stratum) → f s ≤ g s) → (strata : List Stratum) → sum_by f strata ≤ sum_by g strata
sums-within f g each [] = omega arith
sums-within f g each (s ∷ strata) = omega (arith, each s, sums-within f g each strata, sum_by-cons f s strata, sum_by-cons g s strata)

-- a stratum has at most what all have
pub at-most : (f : Stratum → ℕ) → f (record { a = 0; b = 0; c = 0; d = 0 }) ≡ 0 → (ts : List Stratum) (g : ℕ) → f (stratum_at ts g) ≤ sum_by f ts
at-most f e [] zero = omega (arith, e)
at-most f e [] (suc g) = omega (arith, e)
at-most f e (t ∷ ts) zero = omega (arith, sum_by-cons f t ts)
at-most f e (t ∷ ts) (suc g) = omega (arith, sum_by-cons f t ts, at-most f e ts g)

pub small-at : (ts : List Stratum) (g : ℕ) → AllByRecursion IsSmall ts → IsSmall (stratum_at ts g)
small-at [] zero h = (omega arith, omega arith, omega arith, omega arith)
small-at [] (suc g) h = (omega arith, omega arith, omega arith, omega arith)
small-at (t ∷ ts) zero h = h.0
small-at (t ∷ ts) (suc g) h = small-at ts g h.1

-- a sum so far, and what is left of it
pub record IsSummed (f : Stratum → ℕ) (strata : List Stratum) (i all : ℕ) : Type 0 where
  pub summing : all + sum_by f (drop i strata) ≡ sum_by f strata

module _ (f : Stratum → ℕ) (strata : List Stratum) where
  pub sum-first : IsSummed f strata 0 0
  sum-first = record { summing = omega arith }

  pub sum-room : (i all : ℕ) → i < length strata → IsSummed f strata i all → all + f (stratum_at strata i) ≤ sum_by f strata
  sum-room i all h s = omega (arith, s.summing, sum-step f strata i h)

  pub sum-next : (i all : ℕ) → i < length strata → IsSummed f strata i all → IsSummed f strata (i + 1) (all + f (stratum_at strata i))
  sum-next i all h s = record { summing = omega (arith, s.summing, sum-step f strata i h) }

  pub sum-whole : (i all : ℕ) → length strata ≤ i → IsSummed f strata i all → all ≡ sum_by f strata
  sum-whole i all h s = omega (arith, s.summing, sum-end f strata i h)
