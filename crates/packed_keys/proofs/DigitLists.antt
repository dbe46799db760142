-- Digits of a number: back and forth, and how great a number is.
use Rattle.std.proofs.Common.{◌≡◌, ℕ, zero, suc, ◌+◌, ◌-◌, ◌*◌, ◌/◌, ◌%◌, ◌^◌, ◌<◌, ◌≤◌, List, [], ◌∷◌, length, map, get_or, set, drop, refl, sym, ◌∙◌, ap, subst, arith}
use Rattle.std.specs.Prelude.{ℤ, pos, nat_abs}
use Rattle.std.specs.List.{AllByRecursion}
use Rattle.std.proofs.Math.Nat.{mul-le-mul_left, pow-le-pow_right, pow-succ', pow-zero}
use Rattle.std.proofs.lemmas.List.{drop_more, length-drop}
use Rattle.std.proofs.lemmas.Nat.{div-mul-add, mod-mul-add}
use Rattle.weights.specs.declared.TheConstants.{MAX}
use Rattle.label_network.proofs.Rows.{abs-at, length-abs, length-pos}
use Rattle.packed_keys.specs.PackedKeys.{IsDigit, digits, numeral, packed, unpacked}
use Rattle.packed_keys.specs.PackedSteps.{AreDigits}

-- a digit below a number
size-more : (base a n power : ℕ) → a < base → n < power → a + base * n < base * power
size-more base a n power h k =
    let one : base * (n + 1) ≤ base * power = mul-le-mul_left base (omega (arith, k)) in
    let two : base * (n + 1) ≡ base * n + base = split base n in
    omega (arith, one, two, h)
  where
    split : (b n : ℕ) → b * (n + 1) ≡ b * n + b
    split b n = grind arith

turned : (a b n : ℕ) → a + b * n ≡ n * b + a
turned a b n = grind arith

pub numeral-small : (base : ℕ) (ds : List ℕ) → AllByRecursion (λ d. d < base) ds → numeral base ds < base ^ length ds
numeral-small base [] a = let one : base ^ 0 ≡ 1 = pow-zero base in omega (arith, one)
numeral-small base (d ∷ ds) a =
    let here = size-more base d (numeral base ds) (base ^ length ds) a.0 (numeral-small base ds a.1) in
    omega (arith, here, pow-succ' base (length ds))

digits-numeral : (base : ℕ) (ds : List ℕ) → AllByRecursion (λ d. d < base) ds → digits base (length ds) (numeral base ds) ≡ ds
digits-numeral base [] a = refl
digits-numeral base (d ∷ ds) a =
    let rest : ℕ = numeral base ds in
    ap (λ n. (n % base) ∷ digits base (length ds) (n / base)) (turned d base rest)
    ∙ ap (λ x. x ∷ digits base (length ds) ((rest * base + d) / base)) (mod-mul-add rest base d a.0)
    ∙ ap (λ n. d ∷ digits base (length ds) n) (div-mul-add rest base d a.0)
    ∙ ap (λ xs. d ∷ xs) (digits-numeral base ds a.1)

pub sizes-small : (base : ℕ) (zs : List ℤ) → AllByRecursion (IsDigit base) zs → AllByRecursion (λ d. d < base) (map nat_abs zs)
sizes-small base [] a = tt
sizes-small base (z ∷ zs) a = (a.0.small, sizes-small base zs a.1)

held-back : (base : ℕ) (zs : List ℤ) → AllByRecursion (IsDigit base) zs → map pos (map nat_abs zs) ≡ zs
held-back base [] a = refl
held-back base (z ∷ zs) a = ap (λ y. y ∷ map pos (map nat_abs zs)) (sym a.0.held) ∙ ap (λ ys. z ∷ ys) (held-back base zs a.1)

pub unpacked-packed : (base k : ℕ) (zs : List ℤ) → length zs ≡ k → AllByRecursion (IsDigit base) zs → unpacked base k (packed base zs) ≡ zs
unpacked-packed base k zs l a =
    ap (λ n. map pos (digits base n (numeral base (map nat_abs zs)))) (sym l ∙ sym (length-abs zs))
    ∙ ap (map pos) (digits-numeral base (map nat_abs zs) (sizes-small base zs a))
    ∙ held-back base zs a

-- ---- one digit after another

length-digits : (base k n : ℕ) → length (digits base k n) ≡ k
length-digits base zero n = refl
length-digits base (suc k) n = ap suc (length-digits base k (n / base))

pub length-unpacked : (base k n : ℕ) → length (map pos (digits base k n)) ≡ k
length-unpacked base k n = length-pos (digits base k n) ∙ length-digits base k n

pub digit-next : (base k i n : ℕ) (zs : List ℤ) → length zs ≡ k → i < k → drop i zs ≡ map pos (digits base (k - i) n)
    → (get_or zs i (pos 0) ≡ pos (n % base)) × (drop (i + 1) zs ≡ map pos (digits base (k - (i + 1)) (n / base)))
digit-next base k i n zs l h e =
    let one : k - i ≡ suc (k - (i + 1)) = omega (arith, h) in
    let both = sym (drop_more zs i (pos 0) (omega (arith, l, h))) ∙ e ∙ ap (λ j. map pos (digits base j n)) one in
    (ap (λ ys. get_or ys 0 (pos 0)) both, ap (drop 1) both)

-- the digits from a place on
pub small-from : (base i : ℕ) (ds : List ℕ) → AllByRecursion (λ d. d < base) ds → AllByRecursion (λ d. d < base) (drop i ds)
small-from base zero ds a = a
small-from base (suc i) [] a = tt
small-from base (suc i) (d ∷ ds) a = small-from base i ds a.1

-- what a digit and those above it come to is within all
pub numeral-more : (base i : ℕ) (ds : List ℕ) → AllByRecursion (λ d. d < base) ds → i < length ds → (get_or ds i 0 + base * numeral base (drop (i + 1) ds) < base ^ length ds) × (numeral base (drop i ds) ≡ get_or ds i 0 + base * numeral base (drop (i + 1) ds))
numeral-more base i ds a h =
    let more : drop i ds ≡ get_or ds i 0 ∷ drop (i + 1) ds = drop_more ds i 0 h in
    let is : numeral base (drop i ds) ≡ get_or ds i 0 + base * numeral base (drop (i + 1) ds) = ap (numeral base) more in
    let below : numeral base (drop i ds) < base ^ length (drop i ds) = numeral-small base (drop i ds) (small-from base i ds a) in
    let some : 0 < base = first-some ds a h in
    let grows : base ^ length (drop i ds) ≤ base ^ length ds = pow-le-pow_right some (omega (arith, length-drop i ds)) in
    (omega (arith, is, below, grows), is)
  where
    first-some : (ds : List ℕ) → AllByRecursion (λ d. d < base) ds → i < length ds → 0 < base
    first-some [] a h = absurd (omega (arith, h))
    first-some (d ∷ ds) a h = omega (arith, a.0)

-- a digit below those behind it
pub number-more : (bits : ℕ) (zs : List ℤ) → AreDigits bits zs → (i n : ℕ) → 0 < i → i ≤ length zs → n ≡ numeral (2 ^ bits) (drop i (map nat_abs zs))
    → (nat_abs (get_or zs (i - 1) (pos 0)) + 2 ^ bits * n ≤ MAX) × (nat_abs (get_or zs (i - 1) (pos 0)) + 2 ^ bits * n ≡ numeral (2 ^ bits) (drop (i - 1) (map nat_abs zs)))
number-more bits zs a i n some h e =
    let ds : List ℕ = map nat_abs zs in
    let long : length ds ≡ length zs = length-abs zs in
    let last : (i - 1) + 1 ≡ i = omega (arith, some) in
    let here : get_or ds (i - 1) 0 ≡ nat_abs (get_or zs (i - 1) (pos 0)) = abs-at zs (i - 1) (omega (arith, some, h)) in
    let both = numeral-more (2 ^ bits) (i - 1) ds (sizes-small (2 ^ bits) zs a.each) (omega (arith, long, some, h)) in
    let is : get_or ds (i - 1) 0 + 2 ^ bits * numeral (2 ^ bits) (drop ((i - 1) + 1) ds) ≡ nat_abs (get_or zs (i - 1) (pos 0)) + 2 ^ bits * n =
    ap (λ d. d + 2 ^ bits * numeral (2 ^ bits) (drop ((i - 1) + 1) ds)) here
    ∙ ap (λ j. nat_abs (get_or zs (i - 1) (pos 0)) + 2 ^ bits * numeral (2 ^ bits) (drop j ds)) last
    ∙ ap (λ m. nat_abs (get_or zs (i - 1) (pos 0)) + 2 ^ bits * m) (sym e) in
    let fits : (2 ^ bits) ^ length ds ≤ MAX + 1 = subst (λ j. (2 ^ bits) ^ j ≤ MAX + 1) (sym long) a.fits in
    (omega (arith, both.0, is, fits), sym is ∙ sym both.1)

pub number-small : (bits : ℕ) (zs : List ℤ) → AreDigits bits zs → numeral (2 ^ bits) (map nat_abs zs) ≤ MAX
number-small bits zs a =
    let below = numeral-small (2 ^ bits) (map nat_abs zs) (sizes-small (2 ^ bits) zs a.each) in
    let fits : (2 ^ bits) ^ length (map nat_abs zs) ≤ MAX + 1 = subst (λ j. (2 ^ bits) ^ j ≤ MAX + 1) (sym (length-abs zs)) a.fits in
    omega (arith, below, fits)

pub set-only : (zs : List ℤ) (z : ℤ) → length zs ≡ 1 → set zs 0 z ≡ z ∷ []
set-only [] z l = absurd (omega (arith, l))
set-only (y ∷ []) z l = refl
set-only (y ∷ x ∷ zs) z l = absurd (omega (arith, l))

pub set-both : (zs : List ℤ) (y z : ℤ) → length zs ≡ 2 → set (set zs 0 y) 1 z ≡ y ∷ z ∷ []
set-both [] y z l = absurd (omega (arith, l))
set-both (x ∷ []) y z l = absurd (omega (arith, l))
set-both (x ∷ v ∷ []) y z l = refl
set-both (x ∷ v ∷ u ∷ zs) y z l = absurd (omega (arith, l))
