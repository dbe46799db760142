-- What sums keep where they are reflected.
use Rattle.std.proofs.Common.{◌≡◌, ℕ, zero, suc, ◌+◌, ◌-◌, ◌*◌, ◌<◌, ◌≤◌, List, [], ◌∷◌, length, replicate, Bool, true, false, cond, ◌&&◌, refl, ◌∙◌, ap, arith, nat_eq}
use Rattle.std.specs.Prelude.{nat_lt}
use Rattle.std.specs.List.{sum_by, sum, AllByRecursion}
use Rattle.std.proofs.lemmas.Bool.{eqb-true, ltb-true}
use Rattle.std.proofs.lemmas.List.Sums.{sum_by-cons}
use Rattle.weights.proofs.Sized.{first_and}
use Rattle.networks.specs.Distances.{near_square, nearest, squared}
use Rattle.networks.proofs.SquaredDistances.{distances}
use Rattle.networks.proofs.Swaps.{map-swap, swap_at}
use Rattle.rank_assignments.specs.Assignments.{over_ends}
use Rattle.rank_assignments.specs.Upright.{cubed, lean, reflected, upright}
use Rattle.rank_assignments.specs.declared.assignment.Ahead.{Ahead}

-- sums that are reflected: there is a number for it, and none passes it
pub record IsLeaning (c : ℕ) (s : List ℕ) : Type 0 where
  pub some : 0 < c
  pub within : AllByRecursion (λ n. n ≤ c) s

none-over : (c : ℕ) (s : List ℕ) → sum_by (λ n. n - c) s ≡ 0 → AllByRecursion (λ n. n ≤ c) s
none-over c [] e = tt
none-over c (n ∷ s) e = (omega (arith, e, sum_by-cons (λ v. v - c) n s), none-over c s (omega (arith, e, sum_by-cons (λ v. v - c) n s)))

leaning : (c : ℕ) (s : List ℕ) → (nat_lt 0 c && lean c s) ≡ true → IsLeaning c s
leaning c s t =
    let both = first_and (nat_lt 0 c) (lean c s) t in
    let parts = first_and (nat_eq (sum_by (λ n. n - c) s) 0) (nat_lt (sum_by (λ n. cubed (c - n)) s) (sum_by cubed s)) both.1 in
    record { some = ltb-true 0 c both.0; within = none-over c s (eqb-true (sum_by (λ n. n - c) s) 0 parts.0) }

-- what is true of sums and, where they are reflected, of their reflection
pub either : (P : List ℕ → Type 0) (c : ℕ) (s : List ℕ) → (IsLeaning c s → P (reflected c s)) → P s → P (upright c s)
either P c s over as_is = by (nat_lt 0 c && lean c s) refl
  where
    by : (b : Bool) → (nat_lt 0 c && lean c s) ≡ b → P (cond b (reflected c s) s)
    by true t = over (leaning c s t)
    by false t = as_is

pub length-reflected : (c : ℕ) (s : List ℕ) → length (reflected c s) ≡ length s
length-reflected c [] = refl
length-reflected c (n ∷ s) = ap suc (length-reflected c s)

pub reflected-small : (c t : ℕ) (s : List ℕ) → c ≤ t → AllByRecursion (λ z. z ≤ t) (reflected c s)
reflected-small c t [] h = tt
reflected-small c t (n ∷ s) h = (omega (arith, h), reflected-small c t s h)

pub sum-reflected : (c : ℕ) (s : List ℕ) → AllByRecursion (λ n. n ≤ c) s → sum (reflected c s) + sum s ≡ length s * c
sum-reflected c [] a = omega arith
sum-reflected c (n ∷ s) a =
    let more : suc (length s) * c ≡ c + length s * c = omega arith in
    omega (arith, sum_by-cons (λ v. v) (c - n) (reflected c s), sum_by-cons (λ v. v) n s, sum-reflected c s a.1, a.0, more)

-- ---- squares

-- what a number lacks to a greater one is its distance from this
lacking-squares : (c : ℕ) (s : List ℕ) → AllByRecursion (λ n. n ≤ c) s → sum_by squared (reflected c s) ≡ sum_by (λ n. near_square c n n) s
lacking-squares c [] a = refl
lacking-squares c (n ∷ s) a =
    let away : nearest c n n ≡ c - n = omega (arith, a.0) in
    omega (arith, sum_by-cons squared (c - n) (reflected c s), sum_by-cons (λ m. near_square c m m) n s, ap squared away, lacking-squares c s a.1)

-- where the number is twice the mean the squares stay
pub squares-reflected : (c : ℕ) (s : List ℕ) → AllByRecursion (λ n. n ≤ c) s → length s * c ≡ 2 * sum s → sum_by squared (reflected c s) ≡ sum_by squared s
squares-reflected c s a e =
    let all : length s * squared c ≡ 2 * (c * sum s) = grouped (length s) c ∙ ap (λ n. n * c) e ∙ ordered (sum s) c in
    omega (arith, lacking-squares c s a, distances c s, all)
  where
    grouped : (n c : ℕ) → n * (c * c) ≡ n * c * c
    grouped n c = grind arith

    ordered : (t c : ℕ) → 2 * t * c ≡ 2 * (c * t)
    ordered t c = grind arith

-- ---- ends

-- what is said of two numbers is said of those that lie as far on the other sides of a centre
abbrev pub IsMidway : (ℕ → ℕ → ℕ) → ℕ → Type 0
IsMidway f q = (low high low' high' : ℕ) → low' + high ≡ 2 * q → high' + low ≡ 2 * q → f low' high' ≡ f low high

pub reflected-ends : (f : ℕ → ℕ → ℕ) (q : ℕ) → IsMidway f q → (z : Ahead) (c : ℕ) → 2 * q ≡ c + ((z.least + z.later_least) + (z.most + z.later_most)) → (k : ℕ) (s : List ℕ) → AllByRecursion (λ n. n ≤ c) s
    → over_ends f z (replicate k 1) (reflected c s) ≡ over_ends f z (replicate k 1) s
reflected-ends f q m z c e zero s a = refl
reflected-ends f q m z c e (suc k) [] a = refl
reflected-ends f q m z c e (suc k) (n ∷ s) a =
    let here : f ((c - n) + 1 * z.least + z.later_least) ((c - n) + 1 * z.most + z.later_most) ≡ f (n + 1 * z.least + z.later_least) (n + 1 * z.most + z.later_most) =
    m (n + 1 * z.least + z.later_least) (n + 1 * z.most + z.later_most) ((c - n) + 1 * z.least + z.later_least) ((c - n) + 1 * z.most + z.later_most) (omega (arith, e, a.0)) (omega (arith, e, a.0)) in
    ap (λ v. v + over_ends f z (replicate k 1) (reflected c s)) here
    ∙ ap (λ v. f (n + 1 * z.least + z.later_least) (n + 1 * z.most + z.later_most) + v) (reflected-ends f q m z c e k s a.1)

-- ---- treatments that change places

pub sums-swap : (f : ℕ → ℕ) (i : ℕ) (s : List ℕ) → sum_by f (swap_at i s) ≡ sum_by f s
sums-swap f i [] = refl
sums-swap f zero (s ∷ []) = refl
sums-swap f zero (s ∷ t ∷ ss) = omega (arith, sum_by-cons f s (t ∷ ss), sum_by-cons f t ss, sum_by-cons f t (s ∷ ss), sum_by-cons f s ss)
sums-swap f (suc i) (s ∷ ss) = omega (arith, sum_by-cons f s (swap_at i ss), sum_by-cons f s ss, sums-swap f i ss)

lean-swap : (c i : ℕ) (s : List ℕ) → lean c (swap_at i s) ≡ lean c s
lean-swap c i s =
    ap (λ n. nat_eq n 0 && nat_lt (sum_by (λ v. cubed (c - v)) (swap_at i s)) (sum_by cubed (swap_at i s))) (sums-swap (λ v. v - c) i s)
    ∙ ap (λ n. nat_eq (sum_by (λ v. v - c) s) 0 && nat_lt n (sum_by cubed (swap_at i s))) (sums-swap (λ v. cubed (c - v)) i s)
    ∙ ap (λ n. nat_eq (sum_by (λ v. v - c) s) 0 && nat_lt (sum_by (λ v. cubed (c - v)) s) n) (sums-swap cubed i s)

pub upright-swap : (c i : ℕ) (s : List ℕ) → upright c (swap_at i s) ≡ swap_at i (upright c s)
upright-swap c i s =
    ap (λ b. cond (nat_lt 0 c && b) (reflected c (swap_at i s)) (swap_at i s)) (lean-swap c i s)
    ∙ ap (λ x. cond (nat_lt 0 c && lean c s) x (swap_at i s)) (map-swap (λ n. c - n) i s)
    ∙ by (nat_lt 0 c && lean c s)
  where
    by : (b : Bool) → cond b (swap_at i (reflected c s)) (swap_at i s) ≡ swap_at i (cond b (reflected c s) s)
    by true = refl
    by false = refl
