-- Least common multiples of many numbers: each number divides it, and it grows with every number more.
use Rattle.std.proofs.Common.{◌≡◌, ◌<◌, ◌≤◌, ◌+◌, ◌*◌, ◌/◌, ℕ, zero, suc, List, [], ◌∷◌, length, get_or, take, drop, sym, ◌∙◌, ap, arith}
use Prim.Native.Nat.{◌∣◌}
use Rattle.std.specs.List.{AllByRecursion, fold, range_with_len}
use Rattle.std.specs.Int.{IsGcd}
use Rattle.std.proofs.Math.Nat.{dvd-mul_left, dvd-mul_right, mul-div_cancel'}
use Rattle.std.proofs.lemmas.Nat.Gcd.{dvd_refl, dvd_trans, le_of_dvd}
use Rattle.std.proofs.lemmas.List.{take-append-drop, take_all}
use Rattle.std.proofs.lemmas.List.FromFn.{get_or-range_with_len, length-range_with_len}
use Rattle.std.proofs.lemmas.List.Sums.{fold-append, fold_more}
use Rattle.weights.specs.Numbers.{lcm}
use Rattle.weights.proofs.Divisors.{lcm-by_gcd, quotient-positive, gcd-exists}
use Rattle.scores.specs.PlaceScores.{common_multiple}

-- a common multiple above zero
pub record IsMultipleOfBoth (a b m : ℕ) : Type 0 where
  pub first : a ∣ m
  pub second : b ∣ m
  pub some : 0 < m

pub lcm-multiple : (a b : ℕ) → 0 < a → 0 < b → IsMultipleOfBoth a b (lcm a b)
lcm-multiple a b some positive =
    let found = gcd-exists b a b (omega arith) in
    by found.0 found.1
  where
    by : (g : ℕ) → IsGcd a b g → IsMultipleOfBoth a b (lcm a b)
    by g is = from (a / g) (b / g) g (mul-div_cancel' g is.0) (mul-div_cancel' g is.1) (quotient-positive g a some is.0).1 (lcm-by_gcd a b g some positive is)
      where
        from : (x y g : ℕ) → g * x ≡ a → g * y ≡ b → 0 < x → lcm a b ≡ x * b → IsMultipleOfBoth a b (lcm a b)
        from x y g e f h is =
            let other : x * b ≡ a * y = rw (← e, ← f) (omega arith) in
            rw is (record { first = rw other (dvd-mul_right a y); second = dvd-mul_left b x; some = product x b h positive })
          where
            product : (x b : ℕ) → 0 < x → 0 < b → 0 < x * b
            product x b h k = grind arith

-- what a multiple of many is, begun at one
pub record IsMultipleOfAll (a : ℕ) (xs : List ℕ) (m : ℕ) : Type 0 where
  pub first : a ∣ m
  pub all : AllByRecursion (λ x. x ∣ m) xs
  pub some : 0 < m

pub fold-multiple : (a : ℕ) (xs : List ℕ) → 0 < a → AllByRecursion (λ x. 0 < x) xs → IsMultipleOfAll a xs (fold lcm a xs)
fold-multiple a [] some positive = record { first = dvd_refl a; all = tt; some = some }
fold-multiple a (x ∷ xs) some positive =
    let here = lcm-multiple a x some positive.0 in
    let rest = fold-multiple (lcm a x) xs here.some positive.1 in
    record { first = dvd_trans a here.first rest.first; all = (dvd_trans x here.second rest.first, rest.all); some = rest.some }

pub common_multiple-all : (xs : List ℕ) → AllByRecursion (λ x. 0 < x) xs → IsMultipleOfAll 1 xs (common_multiple xs)
unfolding common_multiple
common_multiple-all xs positive = fold-multiple 1 xs (omega arith) positive

all-drop : (i : ℕ) (xs : List ℕ) → AllByRecursion (λ x. 0 < x) xs → AllByRecursion (λ x. 0 < x) (drop i xs)
all-drop zero xs all = all
all-drop (suc i) [] all = tt
all-drop (suc i) (x ∷ xs) all = all-drop i xs all.1

all-take : (i : ℕ) (xs : List ℕ) → AllByRecursion (λ x. 0 < x) xs → AllByRecursion (λ x. 0 < x) (take i xs)
all-take zero xs all = tt
all-take (suc i) [] all = tt
all-take (suc i) (x ∷ xs) all = (all.0, all-take i xs all.1)

-- a multiple of some of the numbers is no greater than that of all
pub common_multiple-grows : (i : ℕ) (xs : List ℕ) → AllByRecursion (λ x. 0 < x) xs → common_multiple (take i xs) ≤ common_multiple xs
unfolding common_multiple
common_multiple-grows i xs positive =
    let front = fold-multiple 1 (take i xs) (omega arith) (all-take i xs positive) in
    let whole = fold-multiple (fold lcm 1 (take i xs)) (drop i xs) front.some (all-drop i xs positive) in
    rw (← split) (le_of_dvd whole.some whole.first)
  where
    split : fold lcm (fold lcm 1 (take i xs)) (drop i xs) ≡ fold lcm 1 xs
    split = sym (fold-append lcm 1 (take i xs) (drop i xs)) ∙ ap (fold lcm 1) (take-append-drop i xs)

-- one number more
pub common_multiple-more : (xs : List ℕ) (i : ℕ) → i < length xs → common_multiple (take (i + 1) xs) ≡ lcm (common_multiple (take i xs)) (get_or xs i 0)
unfolding common_multiple
common_multiple-more xs i h = fold_more lcm 1 xs i 0 h

-- where the multiple of all numbers is within a bound, that of one number more is
pub common_multiple-fits : (xs : List ℕ) (i b : ℕ) → AllByRecursion (λ x. 0 < x) xs → i < length xs → common_multiple xs ≤ b → lcm (common_multiple (take i xs)) (get_or xs i 0) ≤ b
common_multiple-fits xs i b positive h fits = omega (arith, common_multiple-grows (i + 1) xs positive, common_multiple-more xs i h, fits)

pub range-positive : (a n : ℕ) → 0 < a → AllByRecursion (λ x. 0 < x) (range_with_len a n)
range-positive a zero h = tt
range-positive a (suc n) h = (h, range-positive (a + 1) n (omega arith))

-- that of 1 to n, one number more
pub multiple_to-more : (n i : ℕ) → i < n → common_multiple (take (i + 1) (range_with_len 1 n)) ≡ lcm (common_multiple (take i (range_with_len 1 n))) (i + 1)
multiple_to-more n i h =
    let at : get_or (range_with_len 1 n) i 0 ≡ i + 1 = get_or-range_with_len 1 n i 0 h ∙ omega arith in
    common_multiple-more (range_with_len 1 n) i (rw (length-range_with_len 1 n) h) ∙ ap (lcm (common_multiple (take i (range_with_len 1 n)))) at

pub multiple_to-fits : (n i b : ℕ) → i < n → common_multiple (range_with_len 1 n) ≤ b → lcm (common_multiple (take i (range_with_len 1 n))) (i + 1) ≤ b
multiple_to-fits n i b h fits = omega (arith, common_multiple-grows (i + 1) (range_with_len 1 n) (range-positive 1 n (omega arith)), multiple_to-more n i h, fits)

pub multiple_to-whole : (n i : ℕ) → n ≤ i → common_multiple (take i (range_with_len 1 n)) ≡ common_multiple (range_with_len 1 n)
multiple_to-whole n i h = ap common_multiple (take_all i (range_with_len 1 n) (rw (length-range_with_len 1 n) h))

pub multiple_to-some : (n : ℕ) → 0 < common_multiple (range_with_len 1 n)
multiple_to-some n = (common_multiple-all (range_with_len 1 n) (range-positive 1 n (omega arith))).some
