-- One more place of a box.
use Rattle.std.proofs.Common.{◌≡◌, ℕ, ◌+◌, ◌*◌, ◌<◌, ◌≤◌, List, [], ◌∷◌, length, get_or, drop, min, ◌∙◌, ap, arith, add-one, drop-cons, drop_of_length-le}
use Rattle.std.specs.Prelude.{ℤ, pos, ◌≤ℤ◌, unsigned_abs}
use Rattle.std.proofs.Math.Nat.{mul-le-mul, mul-le-mul_left}
use Rattle.std.proofs.lemmas.Int.{ints}
use Rattle.completion_bounds.specs.Boxes.{least_size, greatest_size, factored_squares, IsInBox, least_squares, greatest_squares, HoldsSquares}

-- the sums of the squares before place i, and the rest
pub record IsBounding (lows highs : List ℤ) (factors : List ℕ) (cap i least greatest : ℕ) : Type 0 where
  pub low : min (least + least_squares (drop i lows) (drop i highs) (drop i factors)) cap ≡ min (least_squares lows highs factors) cap
  pub high : min (greatest + greatest_squares (drop i lows) (drop i highs) (drop i factors)) cap ≡ min (greatest_squares lows highs factors) cap
  pub least_within : least ≤ cap
  pub greatest_within : greatest ≤ cap

-- the same of sums that have no cap
pub record IsSquaring (lows highs : List ℤ) (factors : List ℕ) (i least greatest : ℕ) : Type 0 where
  pub low : least + least_squares (drop i lows) (drop i highs) (drop i factors) ≡ least_squares lows highs factors
  pub high : greatest + greatest_squares (drop i lows) (drop i highs) (drop i factors) ≡ greatest_squares lows highs factors

module _ (lows highs : List ℤ) (factors : List ℕ) (cap i : ℕ) (h : length highs ≡ length lows) (f : length factors ≡ length lows) where
  split-low : i < length lows → least_squares (drop i lows) (drop i highs) (drop i factors) ≡ get_or factors i 0 * (least_size (get_or lows i (pos 0)) (get_or highs i (pos 0)) * least_size (get_or lows i (pos 0)) (get_or highs i (pos 0))) + least_squares (drop (i + 1) lows) (drop (i + 1) highs) (drop (i + 1) factors)
  split-low b =
      let one : drop i lows ≡ get_or lows i (pos 0) ∷ drop (i + 1) lows = rw add-one (drop-cons lows i (pos 0) b) in
      let two : drop i highs ≡ get_or highs i (pos 0) ∷ drop (i + 1) highs = rw add-one (drop-cons highs i (pos 0) (omega (arith, b, h))) in
      let three : drop i factors ≡ get_or factors i 0 ∷ drop (i + 1) factors = rw add-one (drop-cons factors i 0 (omega (arith, b, f))) in
      ap (λ ls. least_squares ls (drop i highs) (drop i factors)) one ∙ ap (λ hs. least_squares (get_or lows i (pos 0) ∷ drop (i + 1) lows) hs (drop i factors)) two ∙ ap (λ fs. least_squares (get_or lows i (pos 0) ∷ drop (i + 1) lows) (get_or highs i (pos 0) ∷ drop (i + 1) highs) fs) three

  split-high : i < length lows → greatest_squares (drop i lows) (drop i highs) (drop i factors) ≡ get_or factors i 0 * (greatest_size (get_or lows i (pos 0)) (get_or highs i (pos 0)) * greatest_size (get_or lows i (pos 0)) (get_or highs i (pos 0))) + greatest_squares (drop (i + 1) lows) (drop (i + 1) highs) (drop (i + 1) factors)
  split-high b =
      let one : drop i lows ≡ get_or lows i (pos 0) ∷ drop (i + 1) lows = rw add-one (drop-cons lows i (pos 0) b) in
      let two : drop i highs ≡ get_or highs i (pos 0) ∷ drop (i + 1) highs = rw add-one (drop-cons highs i (pos 0) (omega (arith, b, h))) in
      let three : drop i factors ≡ get_or factors i 0 ∷ drop (i + 1) factors = rw add-one (drop-cons factors i 0 (omega (arith, b, f))) in
      ap (λ ls. greatest_squares ls (drop i highs) (drop i factors)) one ∙ ap (λ hs. greatest_squares (get_or lows i (pos 0) ∷ drop (i + 1) lows) hs (drop i factors)) two ∙ ap (λ fs. greatest_squares (get_or lows i (pos 0) ∷ drop (i + 1) lows) (get_or highs i (pos 0) ∷ drop (i + 1) highs) fs) three

  pub bounding-more : (least greatest least' greatest' a b : ℕ) → i < length lows → a ≡ least_size (get_or lows i (pos 0)) (get_or highs i (pos 0)) → b ≡ greatest_size (get_or lows i (pos 0)) (get_or highs i (pos 0)) → least' ≡ min (least + get_or factors i 0 * (a * a)) cap → greatest' ≡ min (greatest + get_or factors i 0 * (b * b)) cap → IsBounding lows highs factors cap i least greatest → IsBounding lows highs factors cap (i + 1) least' greatest'
  bounding-more least greatest least' greatest' a b before e g p q r =
      let one : get_or factors i 0 * (a * a) ≡ get_or factors i 0 * (least_size (get_or lows i (pos 0)) (get_or highs i (pos 0)) * least_size (get_or lows i (pos 0)) (get_or highs i (pos 0))) = ap (λ n. get_or factors i 0 * (n * n)) e in
      let two : get_or factors i 0 * (b * b) ≡ get_or factors i 0 * (greatest_size (get_or lows i (pos 0)) (get_or highs i (pos 0)) * greatest_size (get_or lows i (pos 0)) (get_or highs i (pos 0))) = ap (λ n. get_or factors i 0 * (n * n)) g in
      record {
        low = omega (arith, split-low before, one, p, r.low, r.least_within);
        high = omega (arith, split-high before, two, q, r.high, r.greatest_within);
        least_within = omega (arith, p);
        greatest_within = omega (arith, q);
      }

  pub squaring-more : (least greatest least' greatest' a b : ℕ) → i < length lows → a ≡ least_size (get_or lows i (pos 0)) (get_or highs i (pos 0)) → b ≡ greatest_size (get_or lows i (pos 0)) (get_or highs i (pos 0)) → least' ≡ least + get_or factors i 0 * (a * a) → greatest' ≡ greatest + get_or factors i 0 * (b * b) → IsSquaring lows highs factors i least greatest → IsSquaring lows highs factors (i + 1) least' greatest'
  squaring-more least greatest least' greatest' a b before e g p q r =
      let one : get_or factors i 0 * (a * a) ≡ get_or factors i 0 * (least_size (get_or lows i (pos 0)) (get_or highs i (pos 0)) * least_size (get_or lows i (pos 0)) (get_or highs i (pos 0))) = ap (λ n. get_or factors i 0 * (n * n)) e in
      let two : get_or factors i 0 * (b * b) ≡ get_or factors i 0 * (greatest_size (get_or lows i (pos 0)) (get_or highs i (pos 0)) * greatest_size (get_or lows i (pos 0)) (get_or highs i (pos 0))) = ap (λ n. get_or factors i 0 * (n * n)) g in
      record {
        low = omega (arith, split-low before, one, p, r.low);
        high = omega (arith, split-high before, two, q, r.high);
      }

-- the least sum is no more than the greatest
size-order : (l h : ℤ) → least_size l h ≤ greatest_size l h
size-order l h = grind (arith, ints)

pub squares-order : (ls hs : List ℤ) (fs : List ℕ) → least_squares ls hs fs ≤ greatest_squares ls hs fs
squares-order [] hs fs = omega arith
squares-order (l ∷ ls) [] fs = omega arith
squares-order (l ∷ ls) (h ∷ hs) [] = omega arith
squares-order (l ∷ ls) (h ∷ hs) (f ∷ fs) =
    let here = mul-le-mul_left f (mul-le-mul (size-order l h) (size-order l h)) in
    omega (arith, here, squares-order ls hs fs)

-- no sum on the way passes the greatest
module _ (lows highs : List ℤ) (factors : List ℕ) (cap i : ℕ) (h : length highs ≡ length lows) (f : length factors ≡ length lows) where
  pub squaring-fits : (least greatest : ℕ) → i < length lows → IsSquaring lows highs factors i least greatest
      → (least + get_or factors i 0 * (least_size (get_or lows i (pos 0)) (get_or highs i (pos 0)) * least_size (get_or lows i (pos 0)) (get_or highs i (pos 0))) ≤ greatest_squares lows highs factors)
      × (greatest + get_or factors i 0 * (greatest_size (get_or lows i (pos 0)) (get_or highs i (pos 0)) * greatest_size (get_or lows i (pos 0)) (get_or highs i (pos 0))) ≤ greatest_squares lows highs factors)
  squaring-fits least greatest before r = (
    omega (arith, split-low lows highs factors cap i h f before, r.low, squares-order lows highs factors),
    omega (arith, split-high lows highs factors cap i h f before, r.high),
  )

pub squaring-end : (lows highs : List ℤ) (factors : List ℕ) (i least greatest : ℕ) → length lows ≤ i → IsSquaring lows highs factors i least greatest → (least ≡ least_squares lows highs factors) × (greatest ≡ greatest_squares lows highs factors)
squaring-end lows highs factors i least greatest all b =
    let none : drop i lows ≡ [] = drop_of_length-le lows all in
    let no_least : least_squares (drop i lows) (drop i highs) (drop i factors) ≡ 0 = ap (λ rest. least_squares rest (drop i highs) (drop i factors)) none in
    let no_greatest : greatest_squares (drop i lows) (drop i highs) (drop i factors) ≡ 0 = ap (λ rest. greatest_squares rest (drop i highs) (drop i factors)) none in
    (omega (arith, b.low, no_least), omega (arith, b.high, no_greatest))

pub bounding-end : (lows highs : List ℤ) (factors : List ℕ) (cap i least greatest : ℕ) → length lows ≤ i → IsBounding lows highs factors cap i least greatest → (least ≡ min (least_squares lows highs factors) cap) × (greatest ≡ min (greatest_squares lows highs factors) cap)
bounding-end lows highs factors cap i least greatest all b =
    let none : drop i lows ≡ [] = drop_of_length-le lows all in
    let no_least : least_squares (drop i lows) (drop i highs) (drop i factors) ≡ 0 = ap (λ rest. least_squares rest (drop i highs) (drop i factors)) none in
    let no_greatest : greatest_squares (drop i lows) (drop i highs) (drop i factors) ≡ 0 = ap (λ rest. greatest_squares rest (drop i highs) (drop i factors)) none in
    (omega (arith, b.low, b.least_within, no_least), omega (arith, b.high, b.greatest_within, no_greatest))

-- the sum of a point of the box
size-low : (l h p : ℤ) → l ≤ℤ p → p ≤ℤ h → least_size l h ≤ unsigned_abs p
size-low l h p a b = grind (arith, ints)

size-high : (l h p : ℤ) → l ≤ℤ p → p ≤ℤ h → unsigned_abs p ≤ greatest_size l h
size-high l h p a b = grind (arith, ints)

pub squares-low : (ls hs ps : List ℤ) (fs : List ℕ) → IsInBox ls hs ps → least_squares ls hs fs ≤ factored_squares ps fs
squares-low [] [] [] fs i = omega arith
squares-low [] [] (p ∷ ps) fs i = absurd i
squares-low [] (h ∷ hs) ps fs i = absurd i
squares-low (l ∷ ls) [] ps fs i = absurd i
squares-low (l ∷ ls) (h ∷ hs) [] fs i = absurd i
squares-low (l ∷ ls) (h ∷ hs) (p ∷ ps) [] i = omega arith
squares-low (l ∷ ls) (h ∷ hs) (p ∷ ps) (f ∷ fs) i =
    let root = size-low l h p i.0 i.1 in
    let here = mul-le-mul_left f (mul-le-mul root root) in
    omega (arith, here, squares-low ls hs ps fs i.2)

pub squares-high : (ls hs ps : List ℤ) (fs : List ℕ) → IsInBox ls hs ps → factored_squares ps fs ≤ greatest_squares ls hs fs
squares-high [] [] [] fs i = omega arith
squares-high [] [] (p ∷ ps) fs i = absurd i
squares-high [] (h ∷ hs) ps fs i = absurd i
squares-high (l ∷ ls) [] ps fs i = absurd i
squares-high (l ∷ ls) (h ∷ hs) [] fs i = absurd i
squares-high (l ∷ ls) (h ∷ hs) (p ∷ ps) [] i = omega arith
squares-high (l ∷ ls) (h ∷ hs) (p ∷ ps) (f ∷ fs) i =
    let root = size-high l h p i.0 i.1 in
    let here = mul-le-mul_left f (mul-le-mul root root) in
    omega (arith, here, squares-high ls hs ps fs i.2)

pub holds : (lows highs : List ℤ) (factors : List ℕ) (cap : ℕ) → HoldsSquares lows highs factors cap (min (least_squares lows highs factors) cap) (min (greatest_squares lows highs factors) cap)
holds lows highs factors cap point inside most =
    (omega (arith, squares-low lows highs point factors inside), omega (arith, most, squares-high lows highs point factors inside))
