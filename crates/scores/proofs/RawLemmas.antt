-- Values as scores: they are whole after d decimals exactly where 10^(18 - d) divides them.
use Rattle.std.proofs.Common.{◌≡◌, ◌<◌, ◌≤◌, ◌+◌, ◌-◌, ◌*◌, ◌/◌, ◌%◌, ◌^◌, ℕ, zero, suc, ℤ, pos, negsuc, neg_ℤ, nat_abs, Bool, true, false, cond, Some, unwrap_or, find, List, [], ◌∷◌, inl, inr, nat_eq, eq-eqb, ne_eqb, refl, sym, ◌∙◌, ap, arith}
use Rattle.std.specs.Prelude.{FitsSigned, int_div}
use Rattle.std.specs.Int.{w128, cast_signed, cast_unsigned}
use Rattle.std.proofs.lemmas.Int.{ints, quot_fits, to_z-of_z, to_z_pos}
use Rattle.std.specs.List.{list_all, range_with_len}
use Rattle.std.proofs.Math.Nat.{mul-div-mul_right, mul-div_cancel_left, one-le-pow, pow-le-pow_right, pow-suc}
use Rattle.std.proofs.lemmas.Bool.{cases_eq}
use Rattle.std.proofs.lemmas.Nat.{pow-add}
use Rattle.weights.proofs.Divisors.{mod-scaled}
use Rattle.scores.specs.RawScores.{decimals, is_whole, raw_score}
use Rattle.scores.specs.ScoreSteps.{is_multiple_of}

pub power-some : (k : ℕ) → 0 < 10 ^ k
power-some k = let least = one-le-pow k 10 (omega arith) in omega (arith, least)

-- the unit after d decimals, and what it makes of one
pub powers : (d : ℕ) → d ≤ 18 → 10 ^ 18 ≡ 10 ^ (18 - d) * 10 ^ d
powers d h = let whole : 18 - d + d ≡ 18 = omega arith in rw (← pow-add 10 (18 - d) d, whole) refl

zero-scaled : (r z : ℕ) → 0 < z → nat_eq (r * z) 0 ≡ nat_eq r 0
zero-scaled zero z h = let e : zero * z ≡ 0 = omega arith in rw e refl
zero-scaled (suc r) z h = ne_eqb (suc r * z) 0 (λ e. absurd (omega arith)) ∙ sym (ne_eqb (suc r) 0 (λ e. absurd (omega arith)))

pub whole-is : (d : ℕ) (v : ℤ) → d ≤ 18 → is_whole d v ≡ is_multiple_of (10 ^ (18 - d)) v
unfolding is_whole
whole-is d v h = rw (powers d h, mod-scaled (nat_abs v) (10 ^ (18 - d)) (10 ^ d) (power-some d)) (zero-scaled (nat_abs v % 10 ^ (18 - d)) (10 ^ d) (power-some d))

all-same : (p q : ℤ → Bool) → ((v : ℤ) → p v ≡ q v) → (vs : List ℤ) → list_all p vs ≡ list_all q vs
all-same p q e [] = refl
all-same p q e (v ∷ vs) = rw (e v, all-same p q e vs) refl

pub all-whole : (d : ℕ) (values : List ℤ) → d ≤ 18 → list_all (is_whole d) values ≡ list_all (is_multiple_of (10 ^ (18 - d))) values
all-whole d values h = all-same (is_whole d) (is_multiple_of (10 ^ (18 - d))) (λ v. whole-is d v h) values

-- ---- the least number of decimals

find-first : (p : ℕ → Bool) (n s k : ℕ) → ((i : ℕ) → s ≤ i → i < k → p i ≡ false) → p k ≡ true → s ≤ k → k < s + n → find p (range_with_len s n) ≡ Some k
find-first p zero s k before here l h = absurd (omega arith)
find-first p (suc n) s k before here l h = elim (cases_eq s k) [
  | inl e ↦ rw (e, here) refl
  | inr e ↦ (let skipped = before s (omega arith) (omega (arith, e)) in rw skipped (find-first p n (s + 1) k (λ i l. before i (omega arith)) here (omega (arith, e)) (omega arith)))
]

pub decimals-are : (values : List ℤ) (d : ℕ) → d ≤ 18 → ((i : ℕ) → i < d → list_all (is_whole i) values ≡ false) → list_all (is_whole d) values ≡ true → decimals values ≡ d
unfolding decimals
decimals-are values d h before here =
    ap (λ found. unwrap_or found 18) (find-first (λ d. list_all (is_whole d) values) 19 0 d (λ i l. before i) here (omega arith) (omega arith))

-- with 18 decimals every value is whole
pub all-at-18 : (values : List ℤ) → list_all (is_whole 18) values ≡ true
all-at-18 [] = refl
all-at-18 (v ∷ vs) = rw (whole-is 18 v (omega arith), one (nat_abs v), all-at-18 vs) refl
  where
    one : (a : ℕ) → nat_eq (a % 1) 0 ≡ true
    one a = eq-eqb (a % 1) 0 (omega arith)

find-below : (p : ℕ → Bool) (n s b : ℕ) → s + n ≤ b + 1 → unwrap_or (find p (range_with_len s n)) b ≤ b
find-below p zero s b h = omega arith
find-below p (suc n) s b h = by (p s) (find-below p n (s + 1) b (omega arith))
  where
    by : (r : Bool) → unwrap_or (find p (range_with_len (s + 1) n)) b ≤ b → unwrap_or (cond r (Some s) (find p (range_with_len (s + 1) n))) b ≤ b
    by true rest = omega arith
    by false rest = rest

pub decimals-most : (values : List ℤ) → decimals values ≤ 18
unfolding decimals
decimals-most values = find-below (λ d. list_all (is_whole d) values) 19 0 18 (omega arith)

-- ---- the scores

quotient : (a d : ℕ) → d ≤ 18 → a * 10 ^ d / 10 ^ 18 ≡ a / 10 ^ (18 - d)
quotient a d h = rw (powers d h) (mul-div-mul_right a (10 ^ (18 - d)) (power-some d))

negated : (m : ℕ) → int_div (neg_ℤ (pos m)) (pos (10 ^ 18)) ≡ neg_ℤ (pos (m / 10 ^ 18))
negated zero = refl
negated (suc m) = refl

pub raw_score-is : (d : ℕ) (v : ℤ) → d ≤ 18 → raw_score d v ≡ int_div v (pos (10 ^ (18 - d)))
unfolding raw_score
raw_score-is d (pos a) h = ap pos (quotient a d h)
raw_score-is d (negsuc a) h = negated (suc a * 10 ^ d) ∙ ap (λ n. neg_ℤ (pos n)) (quotient (suc a) d h)

pub next-power : (d : ℕ) → d < 18 → 10 ^ (18 - d) / 10 ≡ 10 ^ (18 - (d + 1))
next-power d h =
    let step : 18 - d ≡ suc (18 - (d + 1)) = omega arith in
    rw (step, pow-suc 10 (18 - (d + 1))) (omega arith)

-- what the unit makes of one
pub one-over : (d : ℕ) → d ≤ 18 → 10 ^ 18 / 10 ^ (18 - d) ≡ 10 ^ d
one-over d h = rw (powers d h) (cancelled (10 ^ (18 - d)) (10 ^ d) (power-some (18 - d)))
  where
    cancelled : (u z : ℕ) → 0 < u → u * z / u ≡ z
    cancelled u z h = mul-div_cancel_left z h

pub unit-most : (d : ℕ) → 10 ^ (18 - d) ≤ 10 ^ 18
unit-most d = pow-le-pow_right {n = 10} (omega arith) {i = 18 - d} {j = 18} (omega arith)

-- what the division of a value by its unit gives
module _ (v : ℤ) (u d : ℕ) (fits : FitsSigned w128 v) (is : u ≡ 10 ^ (18 - d)) where
  unit-is : cast_signed w128 u ≡ pos u
  unit-is = let most : u ≤ 10 ^ 18 = rw is (unit-most d) in to_z_pos w128 u (omega (arith, most))

  unit-some : 0 < u
  unit-some = rw is (power-some (18 - d))

  quotient-fits : FitsSigned w128 (int_div v (pos u))
  quotient-fits = let some = unit-some in quot_fits w128 v (pos u) fits (omega (arith, ints))

  pub division-may : (0 < u) × FitsSigned w128 (int_div (cast_signed w128 (cast_unsigned w128 v)) (cast_signed w128 u))
  division-may = (unit-some, rw (to_z-of_z w128 v fits, unit-is) quotient-fits)

  pub division-gives : d ≤ 18 → cast_signed w128 (cast_unsigned w128 (int_div (cast_signed w128 (cast_unsigned w128 v)) (cast_signed w128 u))) ≡ raw_score d v
  division-gives h = rw (to_z-of_z w128 v fits, unit-is) (to_z-of_z w128 (int_div v (pos u)) quotient-fits ∙ ap (λ n. int_div v (pos n)) is ∙ sym (raw_score-is d v h))
