-- In an ascending list, a place's number is below another one exactly where that many are, and above
-- it exactly where as many as stand from the place on are.
use Rattle.std.proofs.Common.{◌≡◌, ℕ, zero, suc, ◌+◌, ◌<◌, ◌≤◌, Bool, true, false, cond, List, [], ◌∷◌, length, get_or, inl, inr, ◌⊎◌, refl, arith}
use Rattle.std.specs.Prelude.{◌↔◌, ℤ, pos, ◌<ℤ◌, int_le, int_lt}
use Rattle.std.specs.List.{AllByRecursion, count_by}
use Rattle.std.proofs.lemmas.Int.{ints}
use Rattle.std.proofs.lemmas.List.Sums.{sum_by-cons}
use Rattle.weights.proofs.OneOrder.{IsInOrder}

-- one where a number is below another one
below : ℤ → ℤ → ℕ
below d z = cond (int_lt d z) 1 0

below-yes : (d z : ℤ) → d <ℤ z → below d z ≡ 1
unfolding below
below-yes d z h = let e : int_lt d z ≡ true = grind (arith, ints, h) in rw e refl

below-no : (d z : ℤ) → int_le z d ≡ true → below d z ≡ 0
unfolding below
below-no d z h = let e : int_lt d z ≡ false = grind (arith, ints, h) in rw e refl

below-cases : (d z : ℤ) → (d <ℤ z) ⊎ (int_le z d ≡ true)
below-cases d z = by (int_le z d) refl
  where
    by : (b : Bool) → int_le z d ≡ b → (d <ℤ z) ⊎ (int_le z d ≡ true)
    by true e = inr e
    by false e = inl (grind (arith, ints, e))

-- how many are below z, and how many above
abbrev downs : List ℤ → ℤ → ℕ
downs list z = count_by (λ d. int_lt d z) list

abbrev ups : List ℤ → ℤ → ℕ
ups list z = count_by (λ d. int_lt z d) list

downs-cons : (d : ℤ) (list : List ℤ) (z : ℤ) → downs (d ∷ list) z ≡ below d z + downs list z
unfolding below
downs-cons d list z = sum_by-cons (λ d. cond (int_lt d z) 1 0) d list

ups-cons : (d : ℤ) (list : List ℤ) (z : ℤ) → ups (d ∷ list) z ≡ below z d + ups list z
unfolding below
ups-cons d list z = sum_by-cons (λ d. cond (int_lt z d) 1 0) d list

le-chain : (a b c : ℤ) → int_le a b ≡ true → int_le b c ≡ true → int_le a c ≡ true
le-chain a b c h k = grind (arith, ints, h, k)

lt-chain : (a b c : ℤ) → a <ℤ b → int_le b c ≡ true → a <ℤ c
lt-chain a b c h k = grind (arith, ints, h, k)

-- no less than z, none of those after
none-down : (d z : ℤ) (list : List ℤ) → int_le z d ≡ true → AllByRecursion (λ e. int_le d e ≡ true) list → downs list z ≡ 0
none-down d z [] h all = refl
none-down d z (e ∷ list) h all = omega (arith, downs-cons e list z, below-no e z (le-chain z d e h all.0), none-down d z list h all.1)

-- above z, all of those after
all-up : (d z : ℤ) (list : List ℤ) → z <ℤ d → AllByRecursion (λ e. int_le d e ≡ true) list → ups list z ≡ length list
all-up d z [] h all = refl
all-up d z (e ∷ list) h all = omega (arith, ups-cons e list z, below-yes z e (lt-chain z d e h all.0), all-up d z list h all.1)

ups-most : (list : List ℤ) (z : ℤ) → ups list z ≤ length list
ups-most [] z = omega arith
ups-most (d ∷ list) z = elim (below-cases z d) [
  | inl h ↦ omega (arith, ups-cons d list z, below-yes z d h, ups-most list z)
  | inr h ↦ omega (arith, ups-cons d list z, below-no z d h, ups-most list z)
]

not-both : (d z : ℤ) → d <ℤ z → int_le z d ≡ true → ⊥
not-both d z h k = grind (arith, ints, h, k)

pub downs-at : (list : List ℤ) (z : ℤ) (k : ℕ) → IsInOrder int_le list → k < length list → (get_or list k (pos 0) <ℤ z) ↔ (k + 1 ≤ downs list z)
downs-at [] z k order here = absurd (omega arith)
downs-at (d ∷ list) z zero order here = elim (below-cases d z) [
  | inl h ↦ (λ _. omega (arith, downs-cons d list z, below-yes d z h), λ _. h)
  | inr h ↦ (λ l. absurd (not-both d z l h), λ m. absurd (omega (arith, m, downs-cons d list z, below-no d z h, none-down d z list h order.0)))
]
downs-at (d ∷ list) z (suc k) order here = elim (below-cases d z) [
  | inl h ↦ (let rest = downs-at list z k order.1 (omega arith) in (λ l. omega (arith, downs-cons d list z, below-yes d z h, rest.0 l), λ m. rest.1 (omega (arith, m, downs-cons d list z, below-yes d z h))))
  | inr h ↦ (let rest = downs-at list z k order.1 (omega arith) in (λ l. absurd (omega (arith, rest.0 l, none-down d z list h order.0)), λ m. absurd (omega (arith, m, downs-cons d list z, below-no d z h, none-down d z list h order.0))))
]

pub ups-at : (list : List ℤ) (z : ℤ) (k : ℕ) → IsInOrder int_le list → k < length list → (z <ℤ get_or list k (pos 0)) ↔ (length list ≤ k + ups list z)
ups-at [] z k order here = absurd (omega arith)
ups-at (d ∷ list) z zero order here = elim (below-cases z d) [
  | inl h ↦ (λ _. omega (arith, ups-cons d list z, below-yes z d h, all-up d z list h order.0), λ _. h)
  | inr h ↦ (λ l. absurd (not-both z d l h), λ m. absurd (omega (arith, m, ups-cons d list z, below-no z d h, ups-most list z)))
]
ups-at (d ∷ list) z (suc k) order here = elim (below-cases z d) [
  | inl h ↦ (let rest = ups-at list z k order.1 (omega arith) in (λ l. omega (arith, ups-cons d list z, below-yes z d h, rest.0 l), λ m. rest.1 (omega (arith, all-up d z list h order.0))))
  | inr h ↦ (let rest = ups-at list z k order.1 (omega arith) in (λ l. omega (arith, ups-cons d list z, below-no z d h, rest.0 l), λ m. rest.1 (omega (arith, m, ups-cons d list z, below-no z d h))))
]
