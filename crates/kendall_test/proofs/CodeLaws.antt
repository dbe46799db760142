-- A code says which counts it is of, but for those that are 0.
use Rattle.std.proofs.Common.{◌≡◌, ℕ, zero, suc, ◌+◌, ◌-◌, ◌*◌, ◌<◌, ◌≤◌, ◌^◌, ◌/◌, ◌%◌, List, [], ◌∷◌, ◌++◌, length, take, set, append_assoc, refl, sym, ◌∙◌, ap, arith, drop, get_or, add-one, drop-cons, lit≤, ne_eqb}
use Rattle.std.specs.Prelude.{replicate}
use Rattle.std.specs.Int.Count.{count_trailing_zeros}
use Rattle.std.specs.List.{sum}
use Rattle.std.proofs.Math.Nat.{mul-le-mul_left, mul-div_cancel_left, pow-le-pow_right, pow-succ'}
use Rattle.std.proofs.lemmas.Nat.{pow-add, pow_pos}
use Rattle.std.proofs.lemmas.List.Sums.{sum_by-cons, sum_by-take-drop}
use Rattle.label_network.proofs.Rows.{write-more}
use Rattle.kendall_test.specs.CountCodes.{marks, with_count_bits, last_mark, code, first_count, later_bits, counts_in, counts_of_code}

pub sum-first : (x : ℕ) (xs : List ℕ) → sum (x ∷ xs) ≡ x + sum xs
sum-first x xs = sum_by-cons (λ v. v) x xs

-- the counts that are not 0, in their order
abbrev pub some : List ℕ → List ℕ
some [] = []
some (zero ∷ counts) = some counts
some (suc c ∷ counts) = suc c ∷ some counts

-- some counts, and zeros behind them up to a length
abbrev pub padded : ℕ → List ℕ → List ℕ
padded m counts = counts ++ replicate (m - length counts) 0

-- the counts that are 0 change neither the sum nor the bits

pub sum-some : (xs : List ℕ) → sum (some xs) ≡ sum xs
sum-some [] = refl
sum-some (zero ∷ xs) = omega (arith, sum-first 0 xs, sum-some xs)
sum-some (suc c ∷ xs) = omega (arith, sum-first (suc c) xs, sum-first (suc c) (some xs), sum-some xs)

marks-some : (xs : List ℕ) → marks (some xs) ≡ marks xs
marks-some [] = refl
marks-some (zero ∷ xs) = marks-some xs
marks-some (suc c ∷ xs) = ap (λ m. 2 ^ c * (1 + 2 * m)) (marks-some xs)

code-some : (xs : List ℕ) → code (some xs) ≡ code xs
code-some xs = rw (marks-some xs, sum-some xs) refl

-- lists with the same counts but for zeros have the same code
pub code-same : (xs ys : List ℕ) → some xs ≡ some ys → code xs ≡ code ys
code-same xs ys e = sym (code-some xs) ∙ ap code e ∙ code-some ys

pub some-long : (xs : List ℕ) → length (some xs) ≤ length xs
some-long [] = omega arith
some-long (zero ∷ xs) = omega (arith, some-long xs)
some-long (suc c ∷ xs) = omega (arith, some-long xs)

-- the last unit's bit is set, and none comes after it

more-units : (c s m : ℕ) → last_mark s ≤ m → 2 ^ (c + s) ≤ 2 ^ c * (1 + 2 * m)
more-units c zero m h =
    let all : c + 0 ≡ c = omega arith in
    let most : 2 ^ c * 1 ≤ 2 ^ c * (1 + 2 * m) = mul-le-mul_left (2 ^ c) (omega arith) in
    rw all (omega (arith, most))
more-units c (suc n) m h =
    let most : 2 ^ c * 2 ^ suc n ≤ 2 ^ c * (1 + 2 * m) = mul-le-mul_left (2 ^ c) (omega (arith, h, pow-succ' 2 n)) in
    rw (pow-add 2 c (suc n)) most

pub last-within : (xs : List ℕ) → last_mark (sum xs) ≤ marks xs
last-within [] = omega arith
last-within (zero ∷ xs) = let same : sum (0 ∷ xs) ≡ sum xs = omega (arith, sum-first 0 xs) in rw same (last-within xs)
last-within (suc c ∷ xs) =
    let same : sum (suc c ∷ xs) ≡ suc (c + sum xs) = omega (arith, sum-first (suc c) xs) in
    rw same (more-units c (sum xs) (marks xs) (last-within xs))

fewer-units : (c s m : ℕ) → m < 2 ^ s → 2 ^ c * (1 + 2 * m) < 2 ^ (suc c + s)
fewer-units c s m h =
    let most : 2 ^ c * (2 + 2 * m) ≤ 2 ^ c * (2 * 2 ^ s) = mul-le-mul_left (2 ^ c) (omega (arith, h)) in
    let whole : 2 ^ (suc c + s) ≡ 2 ^ c * (2 * 2 ^ s) = pow-add 2 (suc c) s ∙ rw (pow-succ' 2 c) (omega arith) in
    let some_bit : 0 < 2 ^ c = pow_pos c in
    rw whole (omega (arith, most, some_bit))

marks-below : (xs : List ℕ) → marks xs < 2 ^ sum xs
marks-below [] = omega arith
marks-below (zero ∷ xs) = let same : sum (0 ∷ xs) ≡ sum xs = omega (arith, sum-first 0 xs) in rw same (marks-below xs)
marks-below (suc c ∷ xs) =
    rw (sum-first (suc c) xs) (fewer-units c (sum xs) (marks xs) (marks-below xs))

pub code-marks : (xs : List ℕ) → code xs + last_mark (sum xs) ≡ marks xs
code-marks xs = omega (arith, last-within xs)

-- reading count by count

trailing : (c k z : ℕ) → c < k → count_trailing_zeros k (2 ^ c * (1 + 2 * z)) ≡ c
unfolding count_trailing_zeros
trailing c zero z h = absurd (omega (arith, h))
trailing zero (suc k) z h = let last : 2 ^ 0 * (1 + 2 * z) % 2 ≡ 1 = omega arith in rw last refl
trailing (suc c) (suc k) z h =
    let bits : 2 ^ suc c * (1 + 2 * z) ≡ 2 * (2 ^ c * (1 + 2 * z)) = rw (pow-succ' 2 c) (omega arith) in
    let last : 2 ^ suc c * (1 + 2 * z) % 2 ≡ 0 = omega (arith, bits) in
    let front : 2 ^ suc c * (1 + 2 * z) / 2 ≡ 2 ^ c * (1 + 2 * z) = omega (arith, bits) in
    rw (last, front, trailing c k z (omega (arith, h))) refl

marked-some : (c z : ℕ) → 0 < 2 ^ c * (1 + 2 * z)
marked-some c z = omega (arith, pow_pos c)

counts-marked : (m c z : ℕ) → c < 128 → counts_in (suc m) (2 ^ c * (1 + 2 * z)) ≡ suc c ∷ counts_in m z
counts-marked m c z h =
    let bits : ℕ = 2 ^ c * (1 + 2 * z) in
    let first : first_count bits ≡ suc c = rw (ne_eqb bits 0 (λ e. omega (arith, e, marked-some c z)), trailing c 128 z h) (add-one c) in
    let later : later_bits bits ≡ z = rw (trailing c 128 z h, mul-div_cancel_left (1 + 2 * z) (pow_pos c)) (omega arith) in
    rw (first, later) refl

counts-none : (m : ℕ) → counts_in m 0 ≡ replicate m 0
counts-none zero = refl
counts-none (suc m) =
    let none : later_bits 0 ≡ 0 = omega arith in
    rw none (ap (λ cs. 0 ∷ cs) (counts-none m))

read-marks : (m : ℕ) (xs : List ℕ) → length (some xs) ≤ m → sum xs ≤ 120 → counts_in m (marks xs) ≡ padded m (some xs)
read-marks m [] h few = let all : m - 0 ≡ m = omega arith in counts-none m ∙ ap (λ n. replicate n 0) (sym all)
read-marks m (zero ∷ xs) h few = read-marks m xs h (omega (arith, few, sum-first 0 xs))
read-marks zero (suc c ∷ xs) h few = absurd (omega (arith, h))
read-marks (suc m) (suc c ∷ xs) h few =
    let rest : suc m - suc (length (some xs)) ≡ m - length (some xs) = omega arith in
    counts-marked m c (marks xs) (omega (arith, few, sum-first (suc c) xs))
    ∙ ap (λ cs. suc c ∷ cs) (read-marks m xs (omega (arith, h)) (omega (arith, few, sum-first (suc c) xs)))
    ∙ ap (λ n. suc c ∷ (some xs ++ replicate n 0)) (sym rest)

-- the counts are read back, but for those that are 0, which come last
pub read-code : (m : ℕ) (xs : List ℕ) → length xs ≡ m → sum xs ≤ 120 → counts_of_code m (sum xs) (code xs) ≡ padded m (some xs)
read-code m xs long few = ap (counts_in m) (code-marks xs) ∙ read-marks m xs (omega (arith, long, some-long xs)) few

-- what the bodies ask

pub marks-at : (xs : List ℕ) (i : ℕ) → i < length xs → with_count_bits (get_or xs i 0) (marks (drop (i + 1) xs)) ≡ marks (drop i xs)
marks-at xs i h = let split : drop i xs ≡ get_or xs i 0 ∷ drop (i + 1) xs = rw add-one (drop-cons xs i 0 h) in sym (ap marks split)

pub marks-small : (xs : List ℕ) (i : ℕ) → sum xs ≤ 120 → marks (drop i xs) < 2 ^ 120
marks-small xs i h =
    let part : sum (drop i xs) ≤ 120 = omega (arith, h, sum_by-take-drop (λ v. v) xs i) in
    let most : 2 ^ sum (drop i xs) ≤ 2 ^ 120 = pow-le-pow_right (omega arith) part in
    omega (arith, marks-below (drop i xs), most)

pub code-small : (xs : List ℕ) → sum xs ≤ 120 → code xs < 2 ^ 120
code-small xs h = omega (arith, code-marks xs, marks-small xs 0 h)

pub last-small : (units : ℕ) → units ≤ 120 → last_mark units < 2 ^ 120
last-small zero h = lit≤ tt
last-small (suc n) h =
    let few : n ≤ 119 = omega (arith, h) in
    let most : 2 ^ n ≤ 2 ^ 119 = pow-le-pow_right (omega arith) few in
    omega (arith, most)

-- one count after another is read
pub read-next : (m i bits : ℕ) (counts goal : List ℕ) → i < m → length counts ≡ m → take i counts ++ counts_in (m - i) bits ≡ goal → take (i + 1) (set counts i (first_count bits)) ++ counts_in (m - (i + 1)) (later_bits bits) ≡ goal
read-next m i bits counts goal h long e =
    let more : m - i ≡ suc (m - (i + 1)) = omega (arith, h) in
    let given = rw more at e in
    rw (write-more counts i (first_count bits) (omega (arith, h, long)), append_assoc) given
