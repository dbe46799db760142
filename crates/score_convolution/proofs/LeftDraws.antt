-- Those who are left, in place of those who are drawn.
use Rattle.std.proofs.Common.{◌≡◌, ℕ, ◌+◌, ◌-◌, ◌≤◌, List, [], ◌∷◌, length, Bool, true, false, ◌||◌, refl, ◌∙◌, ap, arith, nat_eq}
use Rattle.std.specs.Prelude.{ℤ, pos, negsuc, ◌+ℤ◌, ◌-ℤ◌, ◌≤ℤ◌, int_le, int_lt, unsigned_abs}
use Rattle.std.specs.Int.{w128, saturate_signed}
use Rattle.std.proofs.lemmas.Bool.Decides.{nat_tests}
use Rattle.std.proofs.lemmas.Int.{ints}
use Rattle.weights.specs.Numbers.{absolute_sum}
use Rattle.weights.specs.declared.TheConstants.{MAX}
use Rattle.score_convolution.specs.declared.sides.Sides.TheVariants.{Every, UpTo, Above, Apart}
use Rattle.score_convolution.specs.Draws.{draw_sum, score_total}
use Rattle.score_convolution.specs.LeftDraws.{AreLeftSides}
use Rattle.score_convolution.specs.Meetings.{drawn_at}
use Rattle.score_convolution.proofs.ScoreTotals.{size-plus}

-- ---- draws

-- each draw leaves the others, and what f says of the one g says of the other
left-draws : (f g : ℕ → ℤ → ℕ) (n m : ℕ) (v w : ℤ) (scores : List ℤ)
    → ((a b : ℕ) (y z : ℤ) → a + b ≡ (n + m) + length scores → y +ℤ z ≡ (v +ℤ w) +ℤ score_total scores → unsigned_abs y ≤ unsigned_abs v + absolute_sum scores → f a y ≡ g b z)
    → draw_sum f n v scores ≡ draw_sum g m w scores
left-draws f g n m v w [] same = same n m v w (omega arith) (omega (arith, ints)) (omega arith)
left-draws f g n m v w (s ∷ scores) same = omega (
  arith,
  left-draws f g n (m + 1) v (w +ℤ s) scores (λ a b y z e h l. same a b y z (omega (arith, e)) (omega (arith, ints, h)) (omega (arith, l))),
  left-draws f g (n + 1) m (v +ℤ s) w scores (λ a b y z e h l. same a b y z (omega (arith, e)) (omega (arith, ints, h)) (omega (arith, l, size-plus v s))),
)

-- who are left, in place of who are drawn, where their sums pass q
pub drawn-left : (p q : ℤ → Bool) (drawn : ℕ) (scores : List ℤ) → drawn ≤ length scores → ((v : ℤ) → unsigned_abs v ≤ absolute_sum scores → q v ≡ p (score_total scores -ℤ v))
    → draw_sum (drawn_at q (length scores - drawn)) 0 (pos 0) scores ≡ draw_sum (drawn_at p drawn) 0 (pos 0) scores
drawn-left p q drawn scores h same = left-draws (drawn_at q (length scores - drawn)) (drawn_at p drawn) 0 0 (pos 0) (pos 0) scores each
  where
    counts : (a b n len : ℕ) → n ≤ len → a + b ≡ len → nat_eq a (len - n) ≡ nat_eq b n
    counts a b n len h e = grind (arith, nat_tests, h, e)

    lacking : (total y z : ℤ) → y +ℤ z ≡ (pos 0 +ℤ pos 0) +ℤ total → total -ℤ y ≡ z
    lacking total y z e = omega (arith, ints, e)

    each : (a b : ℕ) (y z : ℤ) → a + b ≡ (0 + 0) + length scores → y +ℤ z ≡ (pos 0 +ℤ pos 0) +ℤ score_total scores → unsigned_abs y ≤ unsigned_abs (pos 0) + absolute_sum scores → drawn_at q (length scores - drawn) a y ≡ drawn_at p drawn b z
    each a b y z e s l =
        let whole : a + b ≡ length scores = omega (arith, e) in
        rw (counts a b drawn (length scores) h whole, same y (omega (arith, l)) ∙ ap p (lacking (score_total scores) y z s)) refl

-- ---- sides

-- a number that is cut to 128 bits stands to those within the limit as before
cut-le : (z v : ℤ) → unsigned_abs v ≤ MAX → int_le v (saturate_signed w128 z) ≡ int_le v z
cut-le (pos n) (pos m) h = grind (arith, nat_tests, h)
cut-le (pos n) (negsuc m) h = refl
cut-le (negsuc n) (pos m) h = refl
cut-le (negsuc n) (negsuc m) h = grind (arith, nat_tests, h)

cut-lt : (z v : ℤ) → unsigned_abs v ≤ MAX → int_lt (saturate_signed w128 z) v ≡ int_lt z v
cut-lt (pos n) (pos m) h = grind (arith, nat_tests, h)
cut-lt (pos n) (negsuc m) h = refl
cut-lt (negsuc n) (pos m) h = refl
cut-lt (negsuc n) (negsuc m) h = grind (arith, nat_tests, h)

cut-order : (y z : ℤ) → y ≤ℤ z → saturate_signed w128 y ≤ℤ saturate_signed w128 z
cut-order y z h = grind (arith, ints, h)

-- the greatest number that lacks more than a bound to a total
abbrev pub lacks : ℤ → ℤ → ℤ
lacks total bound = saturate_signed w128 ((total -ℤ pos 1) -ℤ bound)

up : (total most v : ℤ) → unsigned_abs v ≤ MAX → int_lt (lacks total most) v ≡ int_le (total -ℤ v) most
up total most v h = cut-lt ((total -ℤ pos 1) -ℤ most) v h ∙ by (int_lt ((total -ℤ pos 1) -ℤ most) v) (int_le (total -ℤ v) most) refl refl
  where
    by : (p q : Bool) → int_lt ((total -ℤ pos 1) -ℤ most) v ≡ p → int_le (total -ℤ v) most ≡ q → p ≡ q
    by true true i j = refl
    by true false i j = grind (arith, ints)
    by false true i j = grind (arith, ints)
    by false false i j = refl

down : (total least v : ℤ) → unsigned_abs v ≤ MAX → int_le v (lacks total least) ≡ int_lt least (total -ℤ v)
down total least v h = cut-le ((total -ℤ pos 1) -ℤ least) v h ∙ by (int_le v ((total -ℤ pos 1) -ℤ least)) (int_lt least (total -ℤ v)) refl refl
  where
    by : (p q : Bool) → int_le v ((total -ℤ pos 1) -ℤ least) ≡ p → int_lt least (total -ℤ v) ≡ q → p ≡ q
    by true true i j = refl
    by true false i j = grind (arith, ints)
    by false true i j = grind (arith, ints)
    by false false i j = refl

turned : (a b : Bool) → (a || b) ≡ (b || a)
turned true true = refl
turned true false = refl
turned false true = refl
turned false false = refl

pub every-left : (total : ℤ) → AreLeftSides total Every Every
every-left total = record { ordered = λ h. h; pass = λ v h. refl }

pub up_to-left : (total most : ℤ) → AreLeftSides total (UpTo most) (Above (lacks total most))
up_to-left total most = record { ordered = λ h. h; pass = λ v h. up total most v h }

pub above-left : (total least : ℤ) → AreLeftSides total (Above least) (UpTo (lacks total least))
above-left total least = record { ordered = λ h. h; pass = λ v h. down total least v h }

pub apart-left : (total most least : ℤ) → AreLeftSides total (Apart most least) (Apart (lacks total least) (lacks total most))
apart-left total most least = record {
  ordered = λ h. cut-order ((total -ℤ pos 1) -ℤ least) ((total -ℤ pos 1) -ℤ most) (omega (arith, ints, h));
  pass = λ v h. rw (down total least v h, up total most v h) (turned (int_lt least (total -ℤ v)) (int_le (total -ℤ v) most));
}
