-- Values made whole are no greater than they were.
use Rattle.std.proofs.Common.{◌≡◌, ◌<◌, ◌≤◌, ◌-◌, ◌/◌, ◌^◌, ℕ, zero, suc, ℤ, pos, negsuc, neg_ℤ, nat_abs, List, [], ◌∷◌, map, refl, sym, subst, arith}
use Rattle.std.specs.Prelude.{int_div}
use Rattle.std.specs.List.{AllByRecursion}
use Rattle.std.proofs.Math.Nat.{div-le_self}
use Rattle.scores.specs.RawScores.{raw_score}
use Rattle.scores.proofs.RawLemmas.{raw_score-is}

size-divided : (v : ℤ) (u : ℕ) → nat_abs (int_div v (pos u)) ≤ nat_abs v
size-divided (pos a) u = div-le_self a u
size-divided (negsuc a) u = subst (λ n. n ≤ suc a) (sym (size-negated (suc a / u))) (div-le_self (suc a) u)
  where
    size-negated : (n : ℕ) → nat_abs (neg_ℤ (pos n)) ≡ n
    size-negated zero = refl
    size-negated (suc n) = refl

size-raw : (d : ℕ) (v : ℤ) → d ≤ 18 → nat_abs (raw_score d v) ≤ nat_abs v
size-raw d v h = subst (λ z. nat_abs z ≤ nat_abs v) (sym (raw_score-is d v h)) (size-divided v (10 ^ (18 - d)))

pub raw-in_range : (d : ℕ) (values : List ℤ) (b : ℕ) → d ≤ 18 → AllByRecursion (λ v. nat_abs v < b) values → AllByRecursion (λ v. nat_abs v < b) (map (raw_score d) values)
raw-in_range d [] b h all = tt
raw-in_range d (v ∷ values) b h all = (omega (arith, size-raw d v h, all.0), raw-in_range d values b h all.1)
