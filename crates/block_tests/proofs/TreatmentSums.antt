-- Sums of treatments over blocks that stand one after another.
use Rattle.std.proofs.Common.{◌≡◌, ℕ, zero, suc, ◌+◌, ◌-◌, ◌*◌, ◌≤◌, List, [], ◌∷◌, ◌++◌, length, take, drop, replicate, sum, refl, sym, ◌∙◌, ap, arith, zero-add, length-take}
use Rattle.std.specs.List.{AllByRecursion}
use Rattle.std.proofs.Math.Nat.{mul-le-mul}
use Rattle.std.proofs.Math.Seq.{drop-append_seam, drop-nil, take-append_seam, take-nil}
use Rattle.std.proofs.lemmas.List.{length-replicate}
use Rattle.std.proofs.lemmas.List.Sums.{sum_by-cons}
use Rattle.rank_assignments.specs.Upright.{reflected}
use Rattle.networks.specs.Distances.{squared}
use Rattle.block_tests.specs.BlockTests.{added, cut, page_sum, square_sum, treatment_sums}

-- ---- lists that are added place by place

pub added-none : (xs : List ℕ) → added xs [] ≡ xs
added-none [] = refl
added-none (x ∷ xs) = refl

pub added-assoc : (xs ys zs : List ℕ) → added (added xs ys) zs ≡ added xs (added ys zs)
added-assoc [] ys zs = refl
added-assoc (x ∷ xs) [] zs = refl
added-assoc (x ∷ xs) (y ∷ ys) [] = refl
added-assoc (x ∷ xs) (y ∷ ys) (z ∷ zs) = (let first : (x + y) + z ≡ x + (y + z) = omega arith in rw (first, added-assoc xs ys zs) refl)

pub length-added : (k : ℕ) (xs ys : List ℕ) → length xs ≤ k → length ys ≡ k → length (added xs ys) ≡ k
length-added k [] ys h e = e
length-added k (x ∷ xs) [] h e = omega arith
length-added zero (x ∷ xs) (y ∷ ys) h e = absurd (omega arith)
length-added (suc k) (x ∷ xs) (y ∷ ys) h e = ap suc (length-added k xs ys (omega arith) (omega arith))

pub zeros-added : (k : ℕ) (xs : List ℕ) → length xs ≡ k → added (replicate k 0) xs ≡ xs
zeros-added zero xs e = refl
zeros-added (suc k) [] e = absurd (omega arith)
zeros-added (suc k) (x ∷ xs) e = rw (zero-add x, zeros-added k xs (omega arith)) refl

pub added-zeros : (k : ℕ) (xs : List ℕ) → length xs ≡ k → added xs (replicate k 0) ≡ xs
added-zeros zero xs e = added-none xs
added-zeros (suc k) [] e = absurd (omega arith)
added-zeros (suc k) (x ∷ xs) e = (let same : x + 0 ≡ x = omega arith in rw (same, added-zeros k xs (omega arith)) refl)

pub reflected-added : (c a : ℕ) (s x : List ℕ) → length s ≡ length x → AllByRecursion (λ n. n ≤ c) s → AllByRecursion (λ n. n ≤ a) x → added (reflected c s) (reflected a x) ≡ reflected (c + a) (added s x)
reflected-added c a [] [] e v w = refl
reflected-added c a [] (m ∷ x) e v w = absurd (omega (arith, e))
reflected-added c a (n ∷ s) [] e v w = absurd (omega (arith, e))
reflected-added c a (n ∷ s) (m ∷ x) e v w =
    let same : (c - n) + (a - m) ≡ (c + a) - (n + m) = omega (arith, v.0, w.0) in
    ap (λ z. z ∷ added (reflected c s) (reflected a x)) same
    ∙ ap (λ zs. ((c + a) - (n + m)) ∷ zs) (reflected-added c a s x (omega (arith, e)) v.1 w.1)

pub sum-added : (s x : List ℕ) → length s ≡ length x → sum (added s x) ≡ sum s + sum x
sum-added [] [] e = omega arith
sum-added [] (m ∷ x) e = absurd (omega (arith, e))
sum-added (n ∷ s) [] e = absurd (omega (arith, e))
sum-added (n ∷ s) (m ∷ x) e =
    omega (arith, sum_by-cons (λ v. v) (n + m) (added s x), sum_by-cons (λ v. v) n s, sum_by-cons (λ v. v) m x, sum-added s x (omega (arith, e)))

raised : (m n : ℕ) (xs : List ℕ) → m ≤ n → AllByRecursion (λ x. x ≤ m) xs → AllByRecursion (λ x. x ≤ n) xs
raised m n [] h a = tt
raised m n (x ∷ xs) h a = (omega (arith, a.0), raised m n xs h a.1)

-- what is at most m and at most n adds to at most both
pub added-within : (m n : ℕ) (xs ys : List ℕ) → AllByRecursion (λ x. x ≤ m) xs → AllByRecursion (λ y. y ≤ n) ys → AllByRecursion (λ z. z ≤ m + n) (added xs ys)
added-within m n [] ys a b = raised n (m + n) ys (omega arith) b
added-within m n (x ∷ xs) [] a b = raised m (m + n) (x ∷ xs) (omega arith) a
added-within m n (x ∷ xs) (y ∷ ys) a b = (omega (arith, a.0, b.0), added-within m n xs ys a.1 b.1)

-- no part is more than the whole
pub left-within : (m : ℕ) (xs ys : List ℕ) → AllByRecursion (λ z. z ≤ m) (added xs ys) → AllByRecursion (λ x. x ≤ m) xs
left-within m [] ys a = tt
left-within m (x ∷ xs) [] a = a
left-within m (x ∷ xs) (y ∷ ys) a = (omega (arith, a.0), left-within m xs ys a.1)

-- ---- blocks

pub length-sums : (k n : ℕ) (cells : List ℕ) → length (treatment_sums k (cut k n cells)) ≡ k
length-sums k zero cells = length-replicate k 0
length-sums k (suc n) cells = length-added k (take k cells) (treatment_sums k (cut k n (drop k cells))) (omega (arith, length-take k cells)) (length-sums k n (drop k cells))

taken : (P : ℕ → Type 0) (k : ℕ) (xs : List ℕ) → AllByRecursion P xs → AllByRecursion P (take k xs) × AllByRecursion P (drop k xs)
taken P zero xs a = (tt, a)
taken P (suc k) [] a = (tt, tt)
taken P (suc k) (x ∷ xs) a = (let rest = taken P k xs a.1 in ((a.0, rest.0), rest.1))

zeros-within : (m k : ℕ) → AllByRecursion (λ x. x ≤ m) (replicate k 0)
zeros-within m zero = tt
zeros-within m (suc k) = (omega arith, zeros-within m k)

-- with cells of at most m each sum is at most m for each block
pub sums-within : (m k n : ℕ) (cells : List ℕ) → AllByRecursion (λ x. x ≤ m) cells → AllByRecursion (λ s. s ≤ n * m) (treatment_sums k (cut k n cells))
sums-within m k zero cells a = zeros-within (0 * m) k
sums-within m k (suc n) cells a =
    let parts = taken (λ x. x ≤ m) k cells a in
    raised (m + n * m) (suc n * m) (treatment_sums k (cut k (suc n) cells)) (omega arith) (added-within m (n * m) (take k cells) (treatment_sums k (cut k n (drop k cells))) parts.0 (sums-within m k n (drop k cells) parts.1))

-- no cell
pub sums-none : (k n : ℕ) → treatment_sums k (cut k n []) ≡ replicate k 0
sums-none k zero = refl
sums-none k (suc n) = rw (take-nil {A = ℕ} k, drop-nil {A = ℕ} k) (sums-none k n)

-- a block in front
pub sums-front : (k n : ℕ) (block rest : List ℕ) → length block ≡ k → treatment_sums k (cut k (suc n) (block ++ rest)) ≡ added block (treatment_sums k (cut k n rest))
sums-front k n block rest e =
    let front : take k (block ++ rest) ≡ block = ap (λ i. take i (block ++ rest)) (sym e) ∙ take-append_seam block rest in
    let later : drop k (block ++ rest) ≡ rest = ap (λ i. drop i (block ++ rest)) (sym e) ∙ drop-append_seam block rest in
    ap (λ xs. added xs (treatment_sums k (cut k n (drop k (block ++ rest))))) front ∙ ap (λ xs. added block (treatment_sums k (cut k n xs))) later

-- ---- squares

pub squares-within : (m : ℕ) (sums : List ℕ) → AllByRecursion (λ s. s ≤ m) sums → square_sum sums ≤ length sums * (m * m)
squares-within m [] a = omega arith
squares-within m (s ∷ sums) a = omega (arith, sum_by-cons squared s sums, mul-le-mul a.0 a.0, squares-within m sums a.1)

-- ---- Page's sum

pub page-added : (j : ℕ) (xs ys : List ℕ) → page_sum j (added xs ys) ≡ page_sum j xs + page_sum j ys
page-added j [] ys = sym (zero-add (page_sum j ys))
page-added j (x ∷ xs) [] = omega arith
page-added j (x ∷ xs) (y ∷ ys) = omega (arith, page-added (j + 1) xs ys)

pub page-zeros : (j k : ℕ) → page_sum j (replicate k 0) ≡ 0
page-zeros j zero = refl
page-zeros j (suc k) = omega (arith, page-zeros (j + 1) k)

pub page-within : (m j top : ℕ) (sums : List ℕ) → AllByRecursion (λ s. s ≤ m) sums → j + length sums ≤ top → page_sum j sums ≤ length sums * (top * m)
page-within m j top [] a h = omega arith
page-within m j top (s ∷ sums) a h =
    let here : j ≤ top = omega arith in
    omega (arith, mul-le-mul here a.0, page-within m (j + 1) top sums a.1 (omega arith))
