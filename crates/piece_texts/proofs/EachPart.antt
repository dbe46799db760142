-- Where no part is doubled or missing, the sums of the pieces are those of all parts.
use Rattle.std.proofs.Common.{◌≡◌, ℕ, zero, suc, ◌+◌, ◌*◌, ◌<◌, ◌≤◌, List, [], ◌∷◌, ◌++◌, length, take, get_or, Bool, true, false, cond, not, ◌||◌, nat_eq, Option, refl, sym, ◌∙◌, ap, arith, append_assoc}
use Rattle.std.specs.List.{sum_by, AllByRecursion}
use Rattle.std.proofs.lemmas.List.{length-map, take_all}
use Rattle.std.proofs.lemmas.List.Sums.{sum_by-cons}
use Rattle.piece_texts.specs.declared.piece.Piece.{Piece}
use Rattle.piece_texts.specs.declared.piece.PieceSum.{PieceSum}
use Rattle.piece_texts.specs.PieceTexts.{IsPiece}
use Rattle.piece_texts.specs.Places.{piece_at, NoneBelow}
use Rattle.piece_texts.specs.Merges.{occurs, over_parts, parts_of, foreign_at, sum_of, closed_of, less_of, greater_of, two_of, AddsUp, AllAddUp, IsComplete}
use Rattle.piece_texts.proofs.FirstPlaces.{occurs-append, part-at}

-- how often a number occurs
abbrev pub occurrences : ℕ → List ℕ → ℕ
occurrences i [] = 0
occurrences i (x ∷ xs) = cond (nat_eq x i) 1 0 + occurrences i xs

pub over-plus : (f h : ℕ → ℕ) (parts : ℕ) → over_parts (λ p. f p + h p) parts ≡ over_parts f parts + over_parts h parts
over-plus f h zero = refl
over-plus f h (suc parts) = omega (arith, over-plus f h parts)

over-below : (f h : ℕ → ℕ) (parts : ℕ) → ((p : ℕ) → p < parts → f p ≡ h p) → over_parts f parts ≡ over_parts h parts
over-below f h zero same = refl
over-below f h (suc parts) same = omega (arith, over-below f h parts (λ p low. same p (omega (arith, low))), same parts (omega arith))

over-none : (f : ℕ → ℕ) (parts : ℕ) → ((p : ℕ) → f p ≡ 0) → over_parts f parts ≡ 0
over-none f zero none = refl
over-none f (suc parts) none = omega (arith, over-none f parts none, none parts)

eq_is : (o p : ℕ) → nat_eq o p ≡ true → o ≡ p
eq_is o p e = grind arith

ne_is : (o p : ℕ) → nat_eq o p ≡ false → o < suc p → o < p
ne_is o p e h = grind arith

past : (o p : ℕ) → p < o → nat_eq o p ≡ false
past o p h = grind arith

pick_none : (f : ℕ → ℕ) (o parts : ℕ) → parts ≤ o → over_parts (λ p. cond (nat_eq o p) 1 0 * f p) parts ≡ 0
pick_none f o zero h = refl
pick_none f o (suc parts) h = rw (past o parts (omega (arith, h))) (omega (arith, pick_none f o parts (omega (arith, h))))

pick_one : (f : ℕ → ℕ) (o parts : ℕ) → o < parts → over_parts (λ p. cond (nat_eq o p) 1 0 * f p) parts ≡ f o
pick_one f o zero h = absurd (omega arith)
pick_one f o (suc parts) h = by (nat_eq o parts) refl (pick_one f o parts)
  where
    by : (b : Bool) → nat_eq o parts ≡ b → (o < parts → over_parts (λ p. cond (nat_eq o p) 1 0 * f p) parts ≡ f o) → over_parts (λ p. cond (nat_eq o p) 1 0 * f p) (suc parts) ≡ f o
    by true e rest =
        let same : o ≡ parts = eq_is o parts e in
        rw e (omega (arith, pick_none f o parts (omega (arith, same)), ap f same))
    by false e rest = rw e (omega (arith, rest (ne_is o parts e h)))

nothing-times : (c : ℕ) → 0 * c ≡ 0
nothing-times c = grind arith

add-times : (a b c : ℕ) → (a + b) * c ≡ a * c + b * c
add-times a b c = grind arith

pub by-occurrences : (f : ℕ → ℕ) (xs : List ℕ) (parts : ℕ) → AllByRecursion (λ x. x < parts) xs → sum_by f xs ≡ over_parts (λ p. occurrences p xs * f p) parts
by-occurrences f [] parts a = sym (over-none (λ p. 0 * f p) parts (λ p. nothing-times (f p)))
by-occurrences f (x ∷ xs) parts a =
    sum_by-cons f x xs
    ∙ sym (over-below _ (λ p. cond (nat_eq x p) 1 0 * f p + occurrences p xs * f p) parts (λ p low. add-times (cond (nat_eq x p) 1 0) (occurrences p xs) (f p))
    ∙ over-plus (λ p. cond (nat_eq x p) 1 0 * f p) (λ p. occurrences p xs * f p) parts
    ∙ omega (arith, pick_one f x parts a.0, by-occurrences f xs parts a.1))

-- what occurs, occurs at least once
pub occurs-least : (p : ℕ) (xs : List ℕ) → occurs p xs ≡ true → 1 ≤ occurrences p xs
occurs-least p [] e = cc
occurs-least p (x ∷ xs) e = by (nat_eq x p) e (occurs-least p xs)
  where
    by : (b : Bool) → (b || occurs p xs) ≡ true → (occurs p xs ≡ true → 1 ≤ occurrences p xs) → 1 ≤ cond b 1 0 + occurrences p xs
    by true h rest = omega arith
    by false h rest = omega (arith, rest h)

-- where unknown is doubled, each occurs at most once
abbrev AtMostOnce : ℕ → List ℕ → List ℕ → Type 0
AtMostOnce p seen xs = (occurs p seen ≡ true → occurrences p xs ≡ 0) × (occurrences p xs ≤ 1)

or_true : (a b : Bool) → b ≡ true → (a || b) ≡ true
or_true true b e = refl
or_true false b e = e

seen-more : (p x : ℕ) (seen : List ℕ) → nat_eq x p ≡ true → occurs p (seen ++ x ∷ []) ≡ true
seen-more p x seen s = occurs-append p seen (x ∷ []) ∙ or_true (occurs p seen) (nat_eq x p || false) (ap (λ b. b || false) s)

seen-still : (p x : ℕ) (seen : List ℕ) → occurs p seen ≡ true → occurs p (seen ++ x ∷ []) ≡ true
seen-still p x seen e = occurs-append p seen (x ∷ []) ∙ ap (λ b. b || (nat_eq x p || false)) e

once_more : (p x : ℕ) (seen xs : List ℕ) → occurs x seen ≡ false → (b : Bool) → nat_eq x p ≡ b → AtMostOnce p (seen ++ x ∷ []) xs → AtMostOnce p seen (x ∷ xs)
once_more p x seen xs h true s rest =
    let none : occurrences p xs ≡ 0 = rest.0 (seen-more p x seen s) in
    let one : occurrences p (x ∷ xs) ≡ 1 = rw s (omega (arith, none)) in
    (λ yes. let same : occurs p seen ≡ false = ap (λ q. occurs q seen) (sym (eq_is x p s)) ∙ h in cc, omega (arith, one))
once_more p x seen xs h false s rest =
    let same : occurrences p (x ∷ xs) ≡ occurrences p xs = rw s (omega arith) in
    (λ yes. same ∙ rest.0 (seen-still p x seen yes), omega (arith, same, rest.1))

-- no number of a list occurs before it, or among those seen
abbrev NoneTwice : List ℕ → List ℕ → Type 0
NoneTwice seen xs = (i : ℕ) → i < length xs → occurs (get_or xs i 0) (seen ++ take i xs) ≡ false

append-nothing : (xs : List ℕ) → xs ++ [] ≡ xs
append-nothing [] = refl
append-nothing (x ∷ xs) = ap (λ ys. x ∷ ys) (append-nothing xs)

not_doubled : (p : ℕ) (seen xs : List ℕ) → NoneTwice seen xs → AtMostOnce p seen xs
not_doubled p seen [] none = (λ h. refl, omega arith)
not_doubled p seen (x ∷ xs) none =
    let first : occurs x seen ≡ false = ap (occurs x) (sym (append-nothing seen)) ∙ none 0 (omega arith) in
    let rest : NoneTwice (seen ++ x ∷ []) xs = λ i low. ap (occurs (get_or xs i 0)) (append_assoc seen (x ∷ []) (take i xs)) ∙ none (suc i) (omega (arith, low)) in
    once_more p x seen xs first (nat_eq x p) refl (not_doubled p (seen ++ x ∷ []) xs rest)

-- so the sums over the numbers are those over all below
pub all-parts : (f : ℕ → ℕ) (xs : List ℕ) (parts : ℕ) → AllByRecursion (λ x. x < parts) xs → NoneTwice [] xs → ((p : ℕ) → p < parts → occurs p xs ≡ true) → sum_by f xs ≡ over_parts f parts
all-parts f xs parts below twice each =
    by-occurrences f xs parts below
    ∙ over-below (λ p. occurrences p xs * f p) f parts (λ p low.
    let once : occurrences p xs ≡ 1 = omega (arith, (not_doubled p [] xs twice).1, occurs-least p xs (each p low)) in
    rw once (omega arith))

not_false : (b : Bool) → not b ≡ false → b ≡ true
not_false true e = refl
not_false false e = cc

right_false : (a b : Bool) → (a || b) ≡ false → b ≡ false
right_false true b e = cc
right_false false b e = e

from-places : (P : Piece → Type 0) (pieces : List Piece) → ((i : ℕ) → i < length pieces → P (piece_at pieces i)) → AllByRecursion P pieces
from-places P [] each = tt
from-places P (p ∷ pieces) each = (each 0 (omega arith), from-places P pieces (λ i low. each (suc i) (omega (arith, low))))

same-parts : (pieces : List Piece) → NoneBelow (foreign_at pieces) (length pieces) → AllByRecursion (λ (p : Piece). (piece_at pieces 0).parts ≡ p.parts) pieces
same-parts pieces none = from-places (λ p. (piece_at pieces 0).parts ≡ p.parts) pieces (λ i low. sym (eq_is _ _ (not_false _ (right_false _ _ (none i low)))))

below-parts : (parts : ℕ) (pieces : List Piece) → AllByRecursion IsPiece pieces → AllByRecursion (λ (p : Piece). parts ≡ p.parts) pieces → AllByRecursion (λ x. x < parts) (parts_of pieces)
below-parts parts [] formed same = tt
below-parts parts (p ∷ pieces) formed same = (omega (arith, formed.0.part, same.0), below-parts parts pieces formed.1 same.1)

sum-by-part : (tail : Piece → Option PieceSum) (f : ℕ → ℕ) (pieces : List Piece) → AllByRecursion (λ (p : Piece). sum_of (tail p) ≡ f p.part) pieces → sum_by (λ p. sum_of (tail p)) pieces ≡ sum_by f (parts_of pieces)
sum-by-part tail f [] same = refl
sum-by-part tail f (p ∷ pieces) same =
    omega (arith, sum_by-cons (λ q. sum_of (tail q)) p pieces, sum_by-cons f p.part (parts_of pieces), same.0, sum-by-part tail f pieces same.1)

pub adds-up : (tail : Piece → Option PieceSum) (pieces : List Piece) → AllByRecursion IsPiece pieces → IsComplete pieces → AddsUp tail pieces
adds-up tail pieces formed none f same =
    let twice : NoneTwice [] (parts_of pieces) = λ i low. let here : i < length pieces = omega (arith, low, length-map pieces (λ (p : Piece). p.part)) in ap (λ x. occurs x (take i (parts_of pieces))) (part-at pieces i here) ∙ none.0.1 i here in
    let below : AllByRecursion (λ x. x < (piece_at pieces 0).parts) (parts_of pieces) = below-parts (piece_at pieces 0).parts pieces formed (same-parts pieces none.0.0) in
    let each : (p : ℕ) → p < (piece_at pieces 0).parts → occurs p (parts_of pieces) ≡ true = λ p low. not_false (occurs p (parts_of pieces)) (none.1 p low) in
    ap (λ m. closed_of (tail (piece_at pieces 0)) + m)
    (ap (sum_by (λ p. sum_of (tail p))) (take_all (length pieces) pieces (omega arith))
    ∙ sum-by-part tail f pieces same ∙ all-parts f (parts_of pieces) (piece_at pieces 0).parts below twice each)

pub all-add-up : (pieces : List Piece) → AllByRecursion IsPiece pieces → IsComplete pieces → AllAddUp pieces
all-add-up pieces formed none = record {
  less = adds-up less_of pieces formed none;
  greater = adds-up greater_of pieces formed none;
  two = adds-up two_of pieces formed none;
}
