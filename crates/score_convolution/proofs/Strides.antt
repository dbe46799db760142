-- How far apart scores lie, and in which order they stand.
use Rattle.std.proofs.Common.{◌≡◌, ℕ, zero, suc, ◌+◌, ◌-◌, ◌<◌, max, List, [], ◌∷◌, ◌++◌, length, get_or, take, true, ◌⊎◌, inl, inr, sym, subst, arith}
use Rattle.std.specs.Prelude.{ℤ, pos, negsuc, ◌-ℤ◌, ◌≤ℤ◌, unsigned_abs, int_le, All, Contains, IsPermutation}
use Rattle.std.specs.Int.{◌∣◌, IsGcd}
use Rattle.std.proofs.Math.Nat.{dvd-add, dvd-sub, one-dvd}
use Rattle.std.proofs.lemmas.Bool.{cases_lt}
use Rattle.std.proofs.lemmas.Int.{ints}
use Rattle.std.proofs.lemmas.List.{take_more, get_or-append-add, get_or_append_left, length-append}
use Rattle.std.proofs.lemmas.List.Elements.{Contains-append_left, Contains-append_right, Contains-get_or, Contains-push_cases, All-from_recursion}
use Rattle.std.proofs.lemmas.List.Sorted.{All-permutation, Contains-permutation, IsPermutation-sym}
use Rattle.std.proofs.lemmas.Nat.Gcd.{dvd_trans}
use Rattle.networks.specs.PartialSums.{ascending}
use Rattle.weights.proofs.OneOrder.{IsInOrder, in_order-permutes, int-order, ordered-in_order}
use Rattle.score_convolution.specs.Subjects.{AreApart, Ascend}

-- ---- divisors of distances

divides-apart : (d : ℕ) (x y : ℤ) → d ∣ unsigned_abs x → d ∣ unsigned_abs y → d ∣ unsigned_abs (x -ℤ y)
divides-apart d (pos a) (pos b) p q = elim (cases_lt a b) [
  | inl h ↦ (let is : b - a ≡ unsigned_abs (pos a -ℤ pos b) = omega (arith, ints, h) in subst (λ n. d ∣ n) is (dvd-sub d q p))
  | inr h ↦ (let is : a - b ≡ unsigned_abs (pos a -ℤ pos b) = omega (arith, ints, h) in subst (λ n. d ∣ n) is (dvd-sub d p q))
]
divides-apart d (pos a) (negsuc b) p q =
    let is : a + suc b ≡ unsigned_abs (pos a -ℤ negsuc b) = omega (arith, ints) in
    subst (λ n. d ∣ n) is (dvd-add d p q)
divides-apart d (negsuc a) (pos b) p q =
    let is : suc a + b ≡ unsigned_abs (negsuc a -ℤ pos b) = omega (arith, ints) in
    subst (λ n. d ∣ n) is (dvd-add d p q)
divides-apart d (negsuc a) (negsuc b) p q = elim (cases_lt a b) [
  | inl h ↦ (let is : suc b - suc a ≡ unsigned_abs (negsuc a -ℤ negsuc b) = omega (arith, ints, h) in subst (λ n. d ∣ n) is (dvd-sub d q p))
  | inr h ↦ (let is : suc a - suc b ≡ unsigned_abs (negsuc a -ℤ negsuc b) = omega (arith, ints, h) in subst (λ n. d ∣ n) is (dvd-sub d p q))
]

-- what divides two distances from one number divides that of the two
pub divides-between : (d : ℕ) (a b o : ℤ) → d ∣ unsigned_abs (a -ℤ o) → d ∣ unsigned_abs (b -ℤ o) → d ∣ unsigned_abs (a -ℤ b)
divides-between d a b o p q =
    let is : (a -ℤ o) -ℤ (b -ℤ o) ≡ a -ℤ b = omega (arith, ints) in
    subst (λ z. d ∣ unsigned_abs z) is (divides-apart d (a -ℤ o) (b -ℤ o) p q)

-- ---- scores apart

-- with one score more
apart-more : (first : ℤ) (xs : List ℤ) (y : ℤ) (s g : ℕ) → AreApart s (first ∷ xs) → IsGcd s (unsigned_abs (y -ℤ first)) g → AreApart g ((first ∷ xs) ++ y ∷ [])
apart-more first xs y s g apart common a b p q = divides-between g a b first (from-first a (Contains-push_cases (first ∷ xs) y a p)) (from-first b (Contains-push_cases (first ∷ xs) y b q))
  where
    from-first : (a : ℤ) → Contains (first ∷ xs) a ⊎ (y ≡ a) → g ∣ unsigned_abs (a -ℤ first)
    from-first a (inl p) = dvd_trans g common.0 (apart a first p (Contains-get_or (first ∷ xs) 0 first (omega arith)))
    from-first a (inr e) = subst (λ z. g ∣ unsigned_abs (z -ℤ first)) e common.1

pub apart-step : (xs : List ℤ) (i s g : ℕ) → 0 < i → i < length xs → AreApart s (take i xs) → IsGcd s (unsigned_abs (get_or xs i (pos 0) -ℤ get_or xs 0 (pos 0))) g → AreApart g (take (i + 1) xs)
apart-step [] i s g some h is common = absurd (omega (arith, h))
apart-step (x ∷ xs) zero s g some h is common = absurd (omega (arith, some))
apart-step (x ∷ xs) (suc i) s g some h is common = subst (AreApart g) (sym (take_more (x ∷ xs) (suc i) (pos 0) h)) (apart-more x (take i xs) (get_or xs i (pos 0)) s g is common)

-- the same from 0 on
pub divisor-step : (xs : List ℤ) (i s g : ℕ) → i < length xs → AreApart s (pos 0 ∷ take i xs) → IsGcd s (unsigned_abs (get_or xs i (pos 0))) g → AreApart g (pos 0 ∷ take (i + 1) xs)
divisor-step xs i s g h is common =
    let x : ℤ = get_or xs i (pos 0) in
    let from_none : x ≡ x -ℤ pos 0 = omega (arith, ints) in
    subst (λ l. AreApart g (pos 0 ∷ l)) (sym (take_more xs i (pos 0) h)) (apart-more (pos 0) (take i xs) x s g is (subst (λ z. IsGcd s (unsigned_abs z) g) from_none common))

-- ---- the same of lists made of others

pub apart-within : (d : ℕ) (xs ys : List ℤ) → ((a : ℤ) → Contains ys a → Contains xs a) → AreApart d xs → AreApart d ys
apart-within d xs ys within apart = λ a b p q. apart a b (within a p) (within b q)

pub apart-permuted : (d : ℕ) (xs ys : List ℤ) → IsPermutation xs ys → AreApart d xs → AreApart d ys
apart-permuted d xs ys moved apart = apart-within d xs ys (λ a p. Contains-permutation ys xs a (IsPermutation-sym xs ys moved) p) apart

pub apart-first : (d : ℕ) (xs ys : List ℤ) → AreApart d (xs ++ ys) → AreApart d xs
apart-first d xs ys apart = apart-within d (xs ++ ys) xs (λ a p. Contains-append_left xs ys a p) apart

pub apart-second : (d : ℕ) (xs ys : List ℤ) → AreApart d (xs ++ ys) → AreApart d ys
apart-second d xs ys apart = apart-within d (xs ++ ys) ys (λ a p. Contains-append_right xs ys a p) apart

pub apart-ascending : (d : ℕ) (xs : List ℤ) → AreApart d xs → AreApart d (ascending xs)
apart-ascending d xs apart = apart-permuted d xs (ascending xs) (in_order-permutes int_le xs) apart

-- where the stride is 0 the scores are all equal, and any other serves
pub divides-some : (d n : ℕ) → d ∣ n → max d 1 ∣ n
divides-some zero n h = one-dvd n
divides-some (suc d) n h =
    let is : suc d ≡ max (suc d) 1 = omega arith in
    subst (λ m. m ∣ n) is h

pub apart-some : (d : ℕ) (xs : List ℤ) → AreApart d xs → AreApart (max d 1) xs
apart-some d xs apart = λ a b p q. divides-some d (unsigned_abs (a -ℤ b)) (apart a b p q)

-- ---- divisors of scores

divides-each : (d : ℕ) (scores : List ℤ) → AreApart d (pos 0 ∷ scores) → All (λ s. d ∣ unsigned_abs s) scores
divides-each d scores is k e h =
    let s : ℤ = get_or scores k e in
    let from_none : s -ℤ pos 0 ≡ s = omega (arith, ints) in
    let later : Contains (pos 0 ∷ scores) s = Contains-append_right (pos 0 ∷ []) scores s (Contains-get_or scores k e h) in
    subst (λ z. d ∣ unsigned_abs z) from_none (is s (pos 0) later (Contains-get_or (pos 0 ∷ scores) 0 (pos 0) (omega arith)))

-- the stride being 0 or not
pub divides-all : (d : ℕ) (scores : List ℤ) → AreApart d (pos 0 ∷ scores) → All (λ s. max d 1 ∣ unsigned_abs s) scores
divides-all d scores is = λ k e h. divides-some d (unsigned_abs (get_or scores k e)) (divides-each d scores is k e h)

-- those of the scores in order
pub divides-ascending : (d : ℕ) (scores : List ℤ) → AreApart d (pos 0 ∷ scores) → All (λ s. max d 1 ∣ unsigned_abs s) (ascending scores)
divides-ascending d scores is = All-permutation (λ s. max d 1 ∣ unsigned_abs s) scores (ascending scores) (in_order-permutes int_le scores) (divides-all d scores is)

-- ---- ascending order

below : (x y : ℤ) → int_le x y ≡ true → x ≤ℤ y
below x y e = grind (arith, ints, e)

pub ascend-in_order : (xs : List ℤ) → IsInOrder int_le xs → Ascend xs
ascend-in_order [] in_order i j d h l = absurd (omega (arith, l))
ascend-in_order (x ∷ xs) in_order zero zero d h l = omega (arith, ints)
ascend-in_order (x ∷ xs) in_order zero (suc j) d h l = below x (get_or xs j d) (All-from_recursion (λ y. int_le x y ≡ true) xs in_order.0 j d (omega (arith, l)))
ascend-in_order (x ∷ xs) in_order (suc i) zero d h l = absurd (omega (arith, h))
ascend-in_order (x ∷ xs) in_order (suc i) (suc j) d h l = ascend-in_order xs in_order.1 i j d (omega (arith, h)) (omega (arith, l))

pub ascend-ascending : (xs : List ℤ) → Ascend (ascending xs)
ascend-ascending xs = ascend-in_order (ascending xs) (ordered-in_order int_le int-order xs)

pub ascend-first : (xs ys : List ℤ) → Ascend (xs ++ ys) → Ascend xs
ascend-first xs ys ascend i j d h l =
    let first = get_or_append_left xs ys d i (omega (arith, h, l)) in
    let second = get_or_append_left xs ys d j l in
    subst (λ z. z ≤ℤ get_or xs j d) first (subst (λ z. get_or (xs ++ ys) i d ≤ℤ z) second (ascend i j d h (omega (arith, l, length-append xs ys))))

pub ascend-second : (xs ys : List ℤ) → Ascend (xs ++ ys) → Ascend ys
ascend-second xs ys ascend i j d h l =
    let first = get_or-append-add xs ys i d in
    let second = get_or-append-add xs ys j d in
    subst (λ z. z ≤ℤ get_or ys j d) first (subst (λ z. get_or (xs ++ ys) (length xs + i) d ≤ℤ z) second (ascend (length xs + i) (length xs + j) d (omega (arith, h)) (omega (arith, l, length-append xs ys))))
