-- The concordant pairs of two groups, by the first and by the last subject.
use Rattle.std.proofs.Common.{◌≡◌, ℕ, zero, suc, ◌+◌, ◌*◌, ◌≤◌, [], ◌∷◌, refl, sym, ◌∙◌, ap, arith}
use Rattle.std.specs.List.{sum, sum_by}
use Rattle.weights.proofs.FirstLabel.{two-none}
use Rattle.concordant_pairs.specs.ConcordantPairs.{concordant_pairs}
use Rattle.concordant_pairs.proofs.FirstConcordant.{by_first, from_first, concordant_sum, concordant_sum-same}

-- of groups of a and of b subjects
abbrev pub two : ℕ → ℕ → (ℕ → ℕ) → ℕ
two a b f = concordant_sum (a ∷ b ∷ []) f

pub two-same : (a b : ℕ) (f g : ℕ → ℕ) → ((u : ℕ) → f u ≡ g u) → two a b f ≡ two a b g
two-same a b f g e = concordant_sum-same (a ∷ b ∷ []) f g e

one-sum : {X : Type 0} (g : X → ℕ) (x : X) → sum_by g (x ∷ []) ≡ g x
one-sum g x = omega arith

pair-sum : {X : Type 0} (g : X → ℕ) (x y : X) → sum_by g (x ∷ y ∷ []) ≡ g x + g y
pair-sum g x y = omega arith

-- no subject of the first
pub none-first : (b : ℕ) (f : ℕ → ℕ) → two 0 b f ≡ f 0
none-first zero f = two-none (λ xs. f (concordant_pairs xs))
none-first (suc b) f =
    by_first f b (0 ∷ suc b ∷ []) (omega arith)
    ∙ one-sum (from_first f) (1, 0 ∷ b ∷ [])
    ∙ none-first b (λ u. f (sum [] + u))

-- no subject of the second
pub none-second : (a : ℕ) (f : ℕ → ℕ) → two a 0 f ≡ f 0
none-second zero f = two-none (λ xs. f (concordant_pairs xs))
none-second (suc a) f =
    by_first f a (suc a ∷ 0 ∷ []) (omega arith)
    ∙ one-sum (from_first f) (0, a ∷ 0 ∷ [])
    ∙ none-second a (λ u. f (sum (0 ∷ []) + u))

-- a first subject of the first group is less than all of the second
pub by_first_of_two : (a b : ℕ) (f : ℕ → ℕ) → two (suc a) (suc b) f ≡ two a (suc b) (λ u. f (suc b + u)) + two (suc a) b f
by_first_of_two a b f =
    by_first f (a + suc b) (suc a ∷ suc b ∷ []) (omega arith)
    ∙ pair-sum (from_first f) (0, a ∷ suc b ∷ []) (1, suc a ∷ b ∷ [])
    ∙ both (two-same a (suc b) (λ u. f (sum (suc b ∷ []) + u)) (λ u. f (suc b + u)) (λ u. ap (λ n. f (n + u)) one)) (two-same (suc a) b (λ u. f (sum [] + u)) f (λ u. ap f (none u)))
  where
    one : sum (suc b ∷ []) ≡ suc b
    one = omega arith

    none : (u : ℕ) → 0 + u ≡ u
    none u = omega arith

    both : {x y v w : ℕ} → x ≡ v → y ≡ w → x + y ≡ v + w
    both e h = rw (e, h) refl

-- a last subject of the second group is greater than all of the first
pub by_last_of_two : (a b : ℕ) (f : ℕ → ℕ) → two (suc a) (suc b) f ≡ two a (suc b) f + two (suc a) b (λ u. f (suc a + u))
by_last_of_two zero zero f =
    let one = by_first_of_two 0 0 f in
    omega (arith, one, none-first 1 (λ u. f (1 + u)), none-second 1 f, none-first 1 f, none-second 1 (λ u. f (1 + u)))
by_last_of_two zero (suc b) f =
    let g : ℕ → ℕ = λ u. f (1 + u) in
    let far : f (suc (suc b) + 0) ≡ g (suc b + 0) = ap f (omega arith) in
    omega (
      arith,
      far,
      by_first_of_two 0 (suc b) f,
      none-first (suc (suc b)) (λ u. f (suc (suc b) + u)),
      by_last_of_two zero b f,
      none-first (suc b) f,
      none-first (suc (suc b)) f,
      by_first_of_two 0 b g,
      none-first (suc b) (λ u. g (suc b + u)),
    )
by_last_of_two (suc a) zero f =
    let g : ℕ → ℕ = λ u. f (1 + u) in
    let far : f (suc (suc a) + 0) ≡ g (suc a + 0) = ap f (omega arith) in
    omega (
      arith,
      far,
      by_first_of_two (suc a) 0 f,
      none-second (suc (suc a)) f,
      by_last_of_two a 0 g,
      none-second (suc a) (λ u. g (suc a + u)),
      none-second (suc (suc a)) (λ u. f (suc (suc a) + u)),
      by_first_of_two a 0 f,
      none-second (suc a) f,
    )
by_last_of_two (suc a) (suc b) f =
    let ahead : ℕ → ℕ = λ u. f (suc (suc b) + u) in
    let behind : ℕ → ℕ = λ u. f (suc (suc a) + u) in
    let same : two (suc a) (suc b) (λ u. ahead (suc a + u)) ≡ two (suc a) (suc b) (λ u. behind (suc b + u)) = two-same (suc a) (suc b) (λ u. ahead (suc a + u)) (λ u. behind (suc b + u)) (λ u. ap f (crossed u)) in
    omega (
      arith,
      same,
      by_first_of_two (suc a) (suc b) f,
      by_last_of_two a (suc b) ahead,
      by_last_of_two (suc a) b f,
      by_first_of_two a (suc b) f,
      by_first_of_two (suc a) b behind,
    )
  where
    crossed : (u : ℕ) → suc (suc b) + (suc a + u) ≡ suc (suc a) + (suc b + u)
    crossed u = omega arith

-- which of the two is the greater group does not matter
pub turned : (a b : ℕ) (f : ℕ → ℕ) → two a b f ≡ two b a f
turned zero b f = none-first b f ∙ sym (none-second b f)
turned (suc a) zero f = none-second (suc a) f ∙ sym (none-first (suc a) f)
turned (suc a) (suc b) f = omega (
  arith,
  by_first_of_two a b f,
  turned a (suc b) (λ u. f (suc b + u)),
  turned (suc a) b f,
  by_last_of_two b a f,
)

-- as the numbers of Gauss: the sums with one subject more and without it, each moved
pub factors : (a b : ℕ) (f : ℕ → ℕ) → two (suc a) b f + two a b (λ u. f ((suc a + b) + u)) ≡ two (suc a) b (λ u. f (suc a + u)) + two a b f
factors a zero f =
    let far : f ((suc a + 0) + 0) ≡ f (suc a + 0) = ap f (omega arith) in
    omega (arith, far, none-second (suc a) f, none-second a (λ u. f ((suc a + 0) + u)), none-second (suc a) (λ u. f (suc a + u)), none-second a f)
factors a (suc b) f =
    let behind : ℕ → ℕ = λ u. f (suc a + u) in
    let same : two a (suc b) (λ u. behind (suc b + u)) ≡ two a (suc b) (λ u. f ((suc a + suc b) + u)) = two-same a (suc b) (λ u. behind (suc b + u)) (λ u. f ((suc a + suc b) + u)) (λ u. ap f (joined u)) in
    omega (arith, same, by_last_of_two a b f, by_first_of_two a b behind)
  where
    joined : (u : ℕ) → suc a + (suc b + u) ≡ (suc a + suc b) + u
    joined u = omega arith

-- no pairs rise but those of two subjects
pub beyond-two : (a b : ℕ) (f : ℕ → ℕ) → ((u : ℕ) → u ≤ a * b → f u ≡ 0) → two a b f ≡ 0
beyond-two zero b f h = none-first b f ∙ h 0 (omega arith)
beyond-two (suc a) zero f h = none-second (suc a) f ∙ h 0 (omega arith)
beyond-two (suc a) (suc b) f h = omega (
  arith,
  by_first_of_two a b f,
  beyond-two a (suc b) (λ u. f (suc b + u)) (λ u l. h (suc b + u) (more u l)),
  beyond-two (suc a) b f (λ u l. h u (less u l)),
)
  where
    more : (u : ℕ) → u ≤ a * suc b → suc b + u ≤ suc a * suc b
    more u l = grind (arith, l)

    less : (u : ℕ) → u ≤ suc a * b → u ≤ suc a * suc b
    less u l = grind (arith, l)
