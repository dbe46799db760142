-- Subjects of whom no two are equal.
use Rattle.std.proofs.Common.{◌≡◌, ℕ, List, [], ◌∷◌, Bool, true, false, ◌&&◌, refl, nat_eq}
use Rattle.std.specs.List.{AllByRecursion}
use Rattle.std.proofs.lemmas.Bool.{eqb-true}
use Rattle.concordant_pairs.specs.ConcordantPairs.{are_distinct}

pub first-one : (c : ℕ) (cs : List ℕ) → are_distinct (c ∷ cs) ≡ true → (c ≡ 1) × (are_distinct cs ≡ true)
first-one c cs = by (nat_eq c 1) refl (are_distinct cs)
  where
    by : (p : Bool) → nat_eq c 1 ≡ p → (b : Bool) → (p && b) ≡ true → (c ≡ 1) × (b ≡ true)
    by true e true h = (eqb-true c 1 e, refl)
    by true e false h = absurd (cc h)
    by false e b h = absurd (cc h)

pub all-one : (cs : List ℕ) → are_distinct cs ≡ true → AllByRecursion (λ c. c ≡ 1) cs
all-one [] e = tt
all-one (c ∷ cs) e = let first = first-one c cs e in (first.0, all-one cs first.1)
