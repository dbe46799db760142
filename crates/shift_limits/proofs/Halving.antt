-- The greatest number that passes a test that no number passes above one that fails it, and the test
-- of limits.
use Rattle.std.proofs.Common.{◌≡◌, ℕ, zero, suc, ◌+◌, ◌*◌, ◌/◌, ◌%◌, ◌<◌, ◌≤◌, Bool, true, false, cond, List, [], ◌∷◌, length, inl, inr, refl, sym, ap, arith}
use Rattle.std.specs.Prelude.{◌↔◌, nat_le, nat_lt}
use Rattle.std.specs.List.{filter}
use Rattle.std.proofs.Math.Nat.{div-add-mod', mul-add-div, le-div_iff_mul-le, mul-le-mul_right, le_of_mul-le-mul_right}
use Rattle.std.proofs.lemmas.Bool.{cases_eq, false≢true}
use Rattle.std.proofs.lemmas.Bool.Decides.{nat_tests}
use Rattle.weights.specs.Labellings.{labellings, number_of_labellings}
use Rattle.weights.specs.declared.odds.Odds.{Odds}
use Rattle.shift_limits.specs.LaterPairs.{greatest_to, labellings_below, later_pairs, misses_at_most}
use Rattle.shift_limits.specs.LimitSteps.{is_within}

-- none above k passes
pub greatest-above : (p : ℕ → Bool) (k n : ℕ) → ((j : ℕ) → k < j → p j ≡ false) → k ≤ n → greatest_to p n ≡ greatest_to p k
greatest-above p k zero none h = let e : k ≡ 0 = omega (arith, h) in rw e refl
greatest-above p k (suc n) none h = elim (cases_eq k (suc n)) [
  | inl e ↦ ap (greatest_to p) (sym e)
  | inr e ↦ (let skipped = none (suc n) (omega (arith, h, e)) in rw skipped (greatest-above p k n none (omega (arith, h, e))))
]

pub greatest-same : (p q : ℕ → Bool) → ((k : ℕ) → p k ≡ q k) → (n : ℕ) → greatest_to p n ≡ greatest_to q n
greatest-same p q e zero = refl
greatest-same p q e (suc n) = rw (e (suc n), greatest-same p q e n) refl

pub greatest-most : (p : ℕ → Bool) (n : ℕ) → greatest_to p n ≤ n
greatest-most p zero = omega arith
greatest-most p (suc n) = by (p (suc n)) (greatest-most p n)
  where
    by : (b : Bool) → greatest_to p n ≤ n → cond b (suc n) (greatest_to p n) ≤ suc n
    by true h = omega arith
    by false h = omega (arith, h)

-- what is greatest passes, where 0 does
pub greatest-passes : (p : ℕ → Bool) (n : ℕ) → p 0 ≡ true → p (greatest_to p n) ≡ true
greatest-passes p zero e = e
greatest-passes p (suc n) e = by (p (suc n)) refl (greatest-passes p n e)
  where
    by : (b : Bool) → p (suc n) ≡ b → p (greatest_to p n) ≡ true → p (cond b (suc n) (greatest_to p n)) ≡ true
    by true f h = f
    by false f h = h

-- ---- more pairs, more labellings

length-fewer : {X : Type 0} (p q : X → Bool) → ((x : X) → p x ≡ true → q x ≡ true) → (xs : List X) → length (filter p xs) ≤ length (filter q xs)
length-fewer p q h [] = omega arith
length-fewer p q h (x ∷ xs) = by (p x) (q x) (h x) (length-fewer p q h xs)
  where
    by : (a b : Bool) → (a ≡ true → b ≡ true) → length (filter p xs) ≤ length (filter q xs) → length (cond a (x ∷ filter p xs) (filter p xs)) ≤ length (cond b (x ∷ filter q xs) (filter q xs))
    by true true i rest = omega (arith, rest)
    by true false i rest = absurd (false≢true (i refl))
    by false true i rest = omega (arith, rest)
    by false false i rest = rest

below-more : (a k j : ℕ) → k ≤ j → nat_lt a k ≡ true → nat_lt a j ≡ true
below-more a k j h e = grind (arith, nat_tests)

pub labellings-rise : (sizes : List ℕ) (k j : ℕ) → k ≤ j → labellings_below sizes k ≤ labellings_below sizes j
labellings-rise sizes k j h = length-fewer (λ xs. nat_lt (later_pairs xs) k) (λ xs. nat_lt (later_pairs xs) j) (λ xs. below-more (later_pairs xs) k j h) (labellings sizes)

beyond : (a b most : ℕ) → a ≤ b → nat_le a most ≡ false → nat_le b most ≡ false
beyond a b most h e = grind (arith, nat_tests)

pub not-within : (n most : ℕ) → most < n → nat_le n most ≡ false
not-within n most h = grind (arith, nat_tests)

pub within-none : (sizes : List ℕ) (most k j : ℕ) → k ≤ j → is_within sizes most k ≡ false → is_within sizes most j ≡ false
within-none sizes most k j h e = beyond (labellings_below sizes k) (labellings_below sizes j) most (labellings-rise sizes k j h) e

none-below : {X : Type 0} (f : X → ℕ) (xs : List X) → length (filter (λ x. nat_lt (f x) 0) xs) ≡ 0
none-below f [] = refl
none-below f (x ∷ xs) = rw (never (f x)) (none-below f xs)
  where
    never : (a : ℕ) → nat_lt a 0 ≡ false
    never a = grind (arith, nat_tests)

pub labellings-none : (sizes : List ℕ) → labellings_below sizes 0 ≡ 0
labellings-none sizes = none-below later_pairs (labellings sizes)

-- ---- the part that limits miss

pub divided-first : (a t d : ℕ) → 0 < d → a * (t / d) + a * (t % d) / d ≡ a * t / d
divided-first a t d some =
    let whole : a * t ≡ d * (a * (t / d)) + a * (t % d) = parts a d (t / d) (t % d) t (sym (div-add-mod' t d)) in
    rw whole (sym (mul-add-div some (a * (t / d)) (a * (t % d))))
  where
    parts : (a d q r t : ℕ) → t ≡ q * d + r → a * t ≡ d * (a * q) + a * r
    parts a d q r t e = rw e (omega arith)

part-test : (a q p t : ℕ) → 0 < q → nat_le (2 * a * q) (p * t) ≡ nat_le a (p * t / (2 * q))
part-test a q p t some = by (p * t) (le-div_iff_mul-le (omega (arith, some)))
  where
    by : (s : ℕ) → (a ≤ s / (2 * q)) ↔ (a * (2 * q) ≤ s) → nat_le (2 * a * q) s ≡ nat_le a (s / (2 * q))
    by s iff = grind (arith, nat_tests, into, back)
      where
        into : a ≤ s / (2 * q) → 2 * a * q ≤ s
        into h = omega (arith, iff.0 h)

        back : 2 * a * q ≤ s → a ≤ s / (2 * q)
        back h = iff.1 (omega (arith, h))

pub missed-within : (sizes : List ℕ) (miss : Odds) (k : ℕ) → 0 < miss.below → misses_at_most sizes miss k ≡ is_within sizes (miss.above * number_of_labellings sizes / (2 * miss.below)) k
missed-within sizes miss k some = part-test (labellings_below sizes k) miss.below miss.above (number_of_labellings sizes) some

-- limits miss a part of the labellings
pub missed-part : (sizes : List ℕ) (miss : Odds) (n : ℕ) → miss.above < miss.below → 2 * labellings_below sizes (greatest_to (misses_at_most sizes miss) n) ≤ number_of_labellings sizes
missed-part sizes miss n part = cancelled (2 * labellings_below sizes (greatest_to (misses_at_most sizes miss) n)) (number_of_labellings sizes) miss.above miss.below part passes
  where
    none-missed : misses_at_most sizes miss 0 ≡ true
    none-missed = rw (labellings-none sizes) (at-none (miss.above * number_of_labellings sizes) miss.below)
      where
        at-none : (s q : ℕ) → nat_le (2 * 0 * q) s ≡ true
        at-none s q = grind (arith, nat_tests)

    passes : nat_le (2 * labellings_below sizes (greatest_to (misses_at_most sizes miss) n) * miss.below) (miss.above * number_of_labellings sizes) ≡ true
    passes = greatest-passes (misses_at_most sizes miss) n none-missed

    cancelled : (a t p q : ℕ) → p < q → nat_le (a * q) (p * t) ≡ true → a ≤ t
    cancelled a t p q h e =
        let within : a * q ≤ p * t = grind (arith, nat_tests, e) in
        let more : p * t ≤ q * t = mul-le-mul_right t (omega (arith, h)) in
        le_of_mul-le-mul_right {m = a} {n = t} {k = q} (omega (arith, within, more)) (omega (arith, h))
