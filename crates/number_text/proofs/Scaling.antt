-- Digits times a power of ten.
use Rattle.std.proofs.Common.{◌≡◌, ℕ, suc, zero, ◌+◌, ◌-◌, ◌*◌, ◌^◌, ◌<◌, ◌≤◌, ◌%◌, ◌/◌, Bool, true, false, nat_lt, min, ℤ, pos, negsuc, ◌+ℤ◌, ◌-ℤ◌, neg_ℤ, ◌<ℤ◌, ◌≤ℤ◌, if◌then◌else◌, Result, Some, None, Ok, Err, OkIff, nat_abs, w32, arith, ap, inl, inr, refl, sym, ◌∙◌, lit<, le_antisymm, le_of_eq, le_of_mul-le-mul_right, le_refl, le_trans, mul-one, mul_assoc, zero-mul, pow-suc, div-add-mod', mul-le-mul}
use Rattle.std.proofs.Math.Nat.{pow-le-pow_right, one-le-pow, mul-mod_left, mul-div_cancel, le-mul_of_pos_right}
use Rattle.std.proofs.lemmas.Bool.{cases_lt, cond-false, le-ltb, ne_eqb}
use Rattle.std.proofs.lemmas.Int.{ints}
use Rattle.std.proofs.lemmas.Nat.{pow-add}
use Rattle.std.specs.Int.{FitsUnsigned}
use Rattle.std.specs.Result.{result_ok}
use Rattle.number_text.specs.declared.digits.TheConstants.{CAP}
use Rattle.number_text.specs.NumberTexts.{units_of, whole_in_range}
use Rattle.number_text.specs.Numerals.{signed}
use Rattle.number_text.specs.Significands.{IsSignificand, scaled}

-- a power of ten, and what it does to a number
ten_pow_pos : (p : ℕ) → 0 < 10 ^ p
ten_pow_pos p = one-le-pow p 10 (lit< tt)

le_times_pow : (n p : ℕ) → n ≤ n * 10 ^ p
le_times_pow n p = le-mul_of_pos_right n (ten_pow_pos p)

-- from 10^36 on nothing is in range
scaled_past : (digits p : ℕ) → CAP ≤ digits * 10 ^ p → scaled CAP digits (pos p) ≡ None
scaled_past digits p past = cond-false (nat_lt (digits * 10 ^ p) CAP) (Some (digits * 10 ^ p)) None (le-ltb _ _ past)

-- so a power of 36 or more is out of range
scaled_above : (digits : ℕ) (power : ℤ) → 0 < digits → pos 36 ≤ℤ power → scaled CAP digits power ≡ None
scaled_above digits (negsuc p) some high = refl
scaled_above digits (pos p) some high =
    let enough : CAP ≤ 10 ^ p = pow-le-pow_right {n = 10} (lit< tt) {i = 36} {j = p} (omega (arith, ints)) in
    scaled_past digits p (le_trans enough (omega (arith, mul-le-mul some (le_refl (10 ^ p)))))

-- a power below 0 leaves no whole number
scaled_below : (digits : ℕ) (power : ℤ) → power <ℤ pos 0 → scaled CAP digits power ≡ None
scaled_below digits (negsuc p) low = refl
scaled_below digits (pos p) low = absurd (omega (arith, ints))

-- a power that is no `u32` is below 0, or past all that is in range
pub scaled_refused : {E : Type 0} (digits : ℕ) (power : ℤ) (r : Result ℕ E) → 0 < digits → OkIff r (FitsUnsigned w32 power) (nat_abs power) → result_ok r ≡ None → scaled CAP digits power ≡ None
scaled_refused digits (negsuc p) r some answer refused = refl
scaled_refused digits (pos p) (Ok n) some answer refused = absurd cc
scaled_refused digits (pos p) (Err n) some answer refused =
    elim (cases_lt p 36) [
      | inl low ↦ absurd (answer (omega (arith, ints), omega (arith, ints)))
      | inr high ↦ scaled_above digits (pos p) some (omega (arith, ints))
    ]

-- the cap on the digits changes no answer
scaled_capped : (exact : ℕ) (power : ℤ) → scaled CAP (min exact CAP) power ≡ scaled CAP exact power
scaled_capped exact (negsuc p) = refl
scaled_capped exact (pos p) =
    elim (cases_lt exact CAP) [
      | inl below ↦ ap (λ n. scaled CAP n (pos p)) (omega arith)
      | inr past ↦
          scaled_past (min exact CAP) p (le_trans (omega arith) (le_times_pow (min exact CAP) p))
          ∙ sym (scaled_past exact p (le_trans past (le_times_pow exact p)))
    ]

-- the power that moves the point of units to the end of the digits
abbrev pub power_at : ℤ → ℕ → ℕ → ℤ
power_at exponent fraction_len tail = pos 18 +ℤ (exponent -ℤ pos fraction_len) +ℤ pos tail

-- an exponent past the cap is out of range with either sign, for texts of any length that memory holds
exponent_past_cap : (digits n fraction_len tail : ℕ) (negative : Bool) → 0 < digits → fraction_len < 2 ^ 64 → tail < 2 ^ 64 → CAP ≤ n →
    scaled CAP digits (power_at (signed negative n) fraction_len tail) ≡ None
exponent_past_cap digits n fraction_len tail true some len_fits tail_fits past = scaled_below digits _ (omega (arith, ints))
exponent_past_cap digits n fraction_len tail false some len_fits tail_fits past = scaled_above digits _ some (omega (arith, ints))

-- the cap on the exponent changes no answer
exponent_capped : (digits n fraction_len tail : ℕ) (negative : Bool) → 0 < digits → fraction_len < 2 ^ 64 → tail < 2 ^ 64 →
    scaled CAP digits (power_at (signed negative (min n CAP)) fraction_len tail) ≡ scaled CAP digits (power_at (signed negative n) fraction_len tail)
exponent_capped digits n fraction_len tail negative some len_fits tail_fits =
    elim (cases_lt n CAP) [
      | inl below ↦ ap (λ m. scaled CAP digits (power_at (signed negative m) fraction_len tail)) (omega arith)
      | inr past ↦
          exponent_past_cap digits (min n CAP) fraction_len tail negative some len_fits tail_fits (omega arith)
          ∙ sym (exponent_past_cap digits n fraction_len tail negative some len_fits tail_fits past)
    ]

-- a multiple of the denominator leaves no remainder
whole_times : (n denominator : ℕ) → 0 < denominator → whole_in_range (n * denominator) denominator ≡ (if nat_lt n CAP then Some n else None)
whole_times n denominator some = rw (mul-mod_left n denominator, mul-div_cancel n some)

-- two powers of ten make one
times_pow_times : (n i j k : ℕ) → k ≡ i + j → n * 10 ^ i * 10 ^ j ≡ n * 10 ^ k
times_pow_times n i j k k_is = mul_assoc n (10 ^ i) (10 ^ j) ∙ ap (λ m. n * m) (sym (pow-add 10 i j)) ∙ ap (λ m. n * 10 ^ m) (sym k_is)

-- a factor that is not 0 may be left out
same_from_times : (m n k : ℕ) → 0 < k → m * k ≡ n * k → m ≡ n
same_from_times m n k some products = le_antisymm (le_of_mul-le-mul_right (le_of_eq products) some) (le_of_mul-le-mul_right (le_of_eq (sym products)) some)

-- digits whose last one is not 0 are no multiple of a higher power of ten
not_multiple : (exact tail more : ℕ) → 0 < exact % 10 → (exact * 10 ^ tail) % 10 ^ (tail + suc more) ≡ 0 → ⊥
not_multiple exact tail more last no_rest =
    let n = exact * 10 ^ tail / 10 ^ (tail + suc more) in
    let whole = div-add-mod' (exact * 10 ^ tail) (10 ^ (tail + suc more)) in
    let times : n * 10 ^ (tail + suc more) ≡ exact * 10 ^ tail = omega arith in
    let moved = times_pow_times n (suc more) tail (tail + suc more) (omega arith) ∙ times in
    let same : n * 10 ^ suc more ≡ exact = same_from_times _ _ (10 ^ tail) (ten_pow_pos tail) moved in
    let ten : n * 10 ^ suc more ≡ n * 10 ^ more * 10 = ap (λ m. n * m) (pow-suc 10 more) ∙ sym (mul_assoc n (10 ^ more) 10) in
    let none : exact % 10 ≡ 0 = ap (λ m. m % 10) (sym same ∙ ten) ∙ mul-mod_left (n * 10 ^ more) 10 in
    omega arith

-- so no whole number of units is left
not_whole : (exact tail more : ℕ) → 0 < exact % 10 → whole_in_range (exact * 10 ^ tail) (10 ^ (tail + suc more)) ≡ None
not_whole exact tail more last = rw (ne_eqb ((exact * 10 ^ tail) % 10 ^ (tail + suc more)) 0 (not_multiple exact tail more last))

-- the definition at a number that is not 0
units_of_pos : (n up : ℕ) → 0 < n → units_of n (pos up) ≡ whole_in_range (n * 10 ^ (18 + up)) 1
unfolding units_of
units_of_pos zero up some = absurd (omega arith)
units_of_pos (suc n) up some = refl

units_of_negsuc : (n down : ℕ) → 0 < n → units_of n (negsuc down) ≡ whole_in_range (n * 10 ^ 18) (10 ^ suc down)
unfolding units_of
units_of_negsuc zero down some = absurd (omega arith)
units_of_negsuc (suc n) down some = refl

-- the units of digits whose last one is not 0, with zeros behind them
units_of_scaled : (exact tail : ℕ) (exponent : ℤ) → 0 < exact % 10 → 0 < exact * 10 ^ tail → units_of (exact * 10 ^ tail) exponent ≡ scaled CAP exact (pos 18 +ℤ exponent +ℤ pos tail)
units_of_scaled exact tail (pos up) last some =
    let n = exact * 10 ^ (18 + up + tail) in
    let moved : exact * 10 ^ tail * 10 ^ (18 + up) ≡ n * 1 =
    times_pow_times exact tail (18 + up) (18 + up + tail) (omega arith) ∙ sym (mul-one n) in
    units_of_pos (exact * 10 ^ tail) up some ∙ ap (λ m. whole_in_range m 1) moved ∙ whole_times n 1 (lit< tt)
units_of_scaled exact tail (negsuc down) last some =
    units_of_negsuc (exact * 10 ^ tail) down some
    ∙ ap (λ m. whole_in_range m (10 ^ suc down)) joined
    ∙ elim (cases_lt (18 + tail) (suc down)) [
      | inl high ↦
          let more = down - (18 + tail) in
          let places : suc down ≡ 18 + tail + suc more = omega arith in
          ap (λ m. whole_in_range (exact * 10 ^ (18 + tail)) (10 ^ m)) places
          ∙ not_whole exact (18 + tail) more last
          ∙ sym (scaled_below exact _ (omega (arith, ints)))
      | inr low ↦
          let rest = 18 + tail - suc down in
          let moved : exact * 10 ^ (18 + tail) ≡ exact * 10 ^ rest * 10 ^ suc down =
          sym (times_pow_times exact rest (suc down) (18 + tail) (omega arith)) in
          let power : pos rest ≡ pos 18 +ℤ negsuc down +ℤ pos tail = omega (arith, ints) in
          ap (λ m. whole_in_range m (10 ^ suc down)) moved
          ∙ whole_times (exact * 10 ^ rest) (10 ^ suc down) (ten_pow_pos (suc down))
          ∙ ap (scaled CAP exact) power
    ]
  where
    joined : exact * 10 ^ tail * 10 ^ 18 ≡ exact * 10 ^ (18 + tail)
    joined = times_pow_times exact tail 18 (18 + tail) (omega arith)

-- the answer for digits and an exponent that are both cut at the cap
pub units_of_capped : (value digits tail fraction_len n : ℕ) (negative : Bool) → IsSignificand CAP value digits tail → 0 < digits → fraction_len < 2 ^ 64 → tail < 2 ^ 64 →
    units_of value (signed negative n -ℤ pos fraction_len) ≡ scaled CAP digits (power_at (signed negative (min n CAP)) fraction_len tail)
units_of_capped value digits tail fraction_len n negative significand some len_fits tail_fits =
    let exact_some : 0 < significand.exact = omega (arith, significand.digits_are) in
    let value_some : 0 < significand.exact * 10 ^ tail = le_trans exact_some (le_times_pow significand.exact tail) in
    ap (λ v. units_of v (signed negative n -ℤ pos fraction_len)) significand.value_is
    ∙ units_of_scaled significand.exact tail (signed negative n -ℤ pos fraction_len) (significand.last_digit exact_some) value_some
    ∙ sym (exponent_capped significand.exact n fraction_len tail negative exact_some len_fits tail_fits)
    ∙ sym (scaled_capped significand.exact (power_at (signed negative (min n CAP)) fraction_len tail))
    ∙ ap (λ d. scaled CAP d (power_at (signed negative (min n CAP)) fraction_len tail)) (sym significand.digits_are)

-- zero is in range, whatever its exponent
pub units_of_none : (value tail : ℕ) (exponent : ℤ) → IsSignificand CAP value 0 tail → units_of value exponent ≡ Some 0
unfolding units_of
units_of_none value tail exponent significand =
    let none : significand.exact ≡ 0 = omega (arith, significand.digits_are) in
    let zero_value : value ≡ 0 = significand.value_is ∙ ap (λ n. n * 10 ^ tail) none ∙ zero-mul (10 ^ tail) in
    rw zero_value

-- a number cut at the cap lies within it, with either sign
pub capped_bounds : (n : ℕ) (negative : Bool) → (neg_ℤ (pos CAP) ≤ℤ signed negative (min n CAP)) × (signed negative (min n CAP) ≤ℤ pos CAP)
capped_bounds n true = (omega (arith, ints), omega (arith, ints))
capped_bounds n false = (omega (arith, ints), omega (arith, ints))
