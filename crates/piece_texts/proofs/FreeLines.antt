-- Lines without a line feed.
use Rattle.std.proofs.Common.{◌≡◌, ℕ, ◌<◌, ◌≤◌, List, [], ◌∷◌, ◌++◌, decimal, not, nat_eq, Bool, true, false, ◌&&◌, refl, subst, arith}
use Rattle.std.specs.Char.{digit_value}
use Rattle.std.specs.Str.Parse.{AllDigits}
use Rattle.std.proofs.lemmas.Fmt.{decimal_is_IsNumeral_wide}
use Rattle.weights.specs.declared.TheConstants.{MAX}
use Rattle.piece_texts.specs.declared.piece.PieceSum.{PieceSum}
use Rattle.piece_texts.specs.PieceTexts.{SumFits, HasNoFeed, is_digit, all_digits, sums_text}
use Rattle.piece_texts.proofs.FieldsRead.{wide}

free_digits : (xs : List ℕ) → AllDigits 10 xs → HasNoFeed xs
free_digits [] a = tt
free_digits (x ∷ xs) a = (λ e. not_digit x e a.0, free_digits xs a.1)
  where
    not_digit : (x : ℕ) → x ≡ 10 → digit_value x < 10 → ⊥
    not_digit x e h = absurd (omega (arith, subst (λ y. digit_value y < 10) e h))

pub free-decimal : (n : ℕ) → n ≤ MAX → HasNoFeed (decimal n)
free-decimal n h = free_digits (decimal n) (decimal_is_IsNumeral_wide n (wide n h)).0.1

pub free-append : (xs ys : List ℕ) → HasNoFeed xs → HasNoFeed ys → HasNoFeed (xs ++ ys)
free-append [] ys a b = b
free-append (x ∷ xs) ys a b = (a.0, free-append xs ys a.1 b)

abbrev pub no_feed : List ℕ → Bool
no_feed [] = true
no_feed (x ∷ xs) = not (nat_eq x 10) && no_feed xs

-- told by computing
pub free-words : (xs : List ℕ) → no_feed xs ≡ true → HasNoFeed xs
free-words [] e = tt
free-words (x ∷ xs) e = by (nat_eq x 10) refl e (free-words xs)
  where
    by : (b : Bool) → nat_eq x 10 ≡ b → (not b && no_feed xs) ≡ true → (no_feed xs ≡ true → HasNoFeed xs) → HasNoFeed (x ∷ xs)
    by true s h rest = absurd cc
    by false s h rest = (λ is. absurd (grind (arith, s, is)), rest h)

pub free-name : (xs : List ℕ) → all_digits xs ≡ true → HasNoFeed xs
free-name [] e = tt
free-name (x ∷ xs) e = by (is_digit x) refl e (free-name xs)
  where
    digit : (x : ℕ) → x ≡ 10 → is_digit x ≡ true → ⊥
    digit x e s = let none : is_digit 10 ≡ true = subst (λ y. is_digit y ≡ true) e s in cc

    by : (b : Bool) → is_digit x ≡ b → (b && all_digits xs) ≡ true → (all_digits xs ≡ true → HasNoFeed xs) → HasNoFeed (x ∷ xs)
    by true s h rest = (λ is. digit x is s, rest h)
    by false s h rest = absurd cc

pub free-sums : (s : PieceSum) → SumFits s → HasNoFeed (sums_text s)
free-sums s f = free-append (decimal s.closed) (32 ∷ decimal s.sum) (free-decimal s.closed f.closed) ((λ e. cc), free-decimal s.sum f.sum)
