-- Places that do not pass, one more of them.
use Rattle.std.proofs.Common.{◌≡◌, ℕ, zero, suc, ◌+◌, ◌<◌, List, [], ◌∷◌, ◌++◌, length, take, get_or, Bool, true, false, ◌||◌, nat_eq, refl, sym, ◌∙◌, ap, arith}
use Rattle.std.proofs.lemmas.List.{take_more, get_or-map}
use Rattle.piece_texts.specs.declared.piece.Piece.{Piece}
use Rattle.piece_texts.specs.Places.{unknown, piece_at, NoneBelow}
use Rattle.piece_texts.specs.Merges.{occurs, parts_of}

eq_is : (o p : ℕ) → nat_eq o p ≡ true → o ≡ p
eq_is o p e = grind arith

below : (i j : ℕ) → j < i + 1 → nat_eq j i ≡ false → j < i
below i j h e = grind arith

pub none-more : (p : ℕ → Bool) (i : ℕ) → NoneBelow p i → p i ≡ false → NoneBelow p (i + 1)
none-more p i none here j low = by (nat_eq j i) refl
  where
    by : (b : Bool) → nat_eq j i ≡ b → p j ≡ false
    by true e = ap p (eq_is j i e) ∙ here
    by false e = none j (below i j low e)

or_false : (a : Bool) → (a || false) ≡ a
or_false true = refl
or_false false = refl

or_assoc : (a b c : Bool) → ((a || b) || c) ≡ (a || (b || c))
or_assoc true b c = refl
or_assoc false b c = refl

pub occurs-append : (p : ℕ) (xs ys : List ℕ) → occurs p (xs ++ ys) ≡ (occurs p xs || occurs p ys)
occurs-append p [] ys = refl
occurs-append p (x ∷ xs) ys = ap (λ b. nat_eq x p || b) (occurs-append p xs ys) ∙ sym (or_assoc (nat_eq x p) (occurs p xs) (occurs p ys))

pub part-at : (pieces : List Piece) (i : ℕ) → i < length pieces → get_or (parts_of pieces) i 0 ≡ (piece_at pieces i).part
part-at pieces i low = get_or-map (λ (p : Piece). p.part) pieces i unknown 0 low

pub occurs-more : (p : ℕ) (pieces : List Piece) (i : ℕ) → i < length pieces → occurs p (take i (parts_of pieces)) ≡ false → nat_eq (piece_at pieces i).part p ≡ false → occurs p (take (i + 1) (parts_of pieces)) ≡ false
occurs-more p pieces i low before here =
    ap (occurs p) (take_more (parts_of pieces) i 0 (long pieces i low))
    ∙ occurs-append p (take i (parts_of pieces)) (get_or (parts_of pieces) i 0 ∷ [])
    ∙ ap (λ b. b || (nat_eq (get_or (parts_of pieces) i 0) p || false)) before
    ∙ or_false (nat_eq (get_or (parts_of pieces) i 0) p)
    ∙ ap (λ x. nat_eq x p) (part-at pieces i low) ∙ here
  where
    long : (pieces : List Piece) (i : ℕ) → i < length pieces → i < length (parts_of pieces)
    long [] i low = low
    long (q ∷ pieces) zero low = omega arith
    long (q ∷ pieces) (suc i) low = omega (arith, long pieces i (omega (arith, low)))

pub occurs-within : (p : ℕ) (pieces : List Piece) (i end : ℕ) → i < end → i < length pieces → nat_eq (piece_at pieces i).part p ≡ true → occurs p (take end (parts_of pieces)) ≡ true
occurs-within p [] i end low within here = absurd (omega (arith, within))
occurs-within p (q ∷ pieces) i zero low within here = absurd (omega (arith, low))
occurs-within p (q ∷ pieces) zero (suc end) low within here = ap (λ b. b || occurs p (take end (parts_of pieces))) here
occurs-within p (q ∷ pieces) (suc i) (suc end) low within here = or_true (nat_eq q.part p) (occurs-within p pieces i end (omega (arith, low)) (omega (arith, within)) here)
  where
    or_true : {b : Bool} (a : Bool) → b ≡ true → (a || b) ≡ true
    or_true true e = refl
    or_true false e = e
