-- The sums of one piece more.
use Rattle.std.proofs.Common.{◌≡◌, ℕ, ◌+◌, ◌<◌, ◌≤◌, List, length, false, nat_lt, Option, refl, arith}
use Rattle.std.proofs.lemmas.List.Sums.{sum_by_more}
use Rattle.piece_texts.specs.declared.piece.Piece.{Piece}
use Rattle.piece_texts.specs.declared.piece.PieceSum.{PieceSum}
use Rattle.piece_texts.specs.Places.{unknown, piece_at, NoneBelow}
use Rattle.piece_texts.specs.declared.totals.TailTotals.{TailTotals}
use Rattle.piece_texts.specs.Merges.{sum_of, summed_to, less_of, greater_of, two_of, passes_total, differs, unequal_at}
use Rattle.piece_texts.specs.TotalSteps.{Totalled, sums_with, AllWithin}
use Rattle.piece_texts.proofs.FirstPlaces.{none-more}

pub summed-more : (tail : Piece → Option PieceSum) (pieces : List Piece) (i : ℕ) → i < length pieces → summed_to tail pieces (i + 1) ≡ summed_to tail pieces i + sum_of (tail (piece_at pieces i))
summed-more tail pieces i low = omega (arith, sum_by_more (λ p. sum_of (tail p)) pieces i unknown low)

not_over : (total sum : ℕ) → sum ≤ total → nat_lt total sum ≡ false
not_over total sum h = grind (arith, h)

totalled-more : (pieces : List Piece) (i : ℕ) (sums : TailTotals) → i < length pieces → Totalled pieces i sums → Totalled pieces (i + 1) (sums_with sums (piece_at pieces i))
totalled-more pieces i sums low t = record {
  less = omega (arith, summed-more less_of pieces i low, t.less);
  greater = omega (arith, summed-more greater_of pieces i low, t.greater);
  two = omega (arith, summed-more two_of pieces i low, t.two);
}

not_passing : (tail : Piece → Option PieceSum) (pieces : List Piece) (i sum : ℕ) → sum ≡ summed_to tail pieces (i + 1) → sum ≤ (piece_at pieces 0).total → passes_total tail pieces i ≡ false
not_passing tail pieces i sum is h = not_over (piece_at pieces 0).total (summed_to tail pieces (i + 1)) (omega (arith, is, h))

pub totals-more : (pieces : List Piece) (i : ℕ) (sums : TailTotals) → i < length pieces → NoneBelow (unequal_at pieces) i → Totalled pieces i sums → differs (piece_at pieces 0) (piece_at pieces i) ≡ false → AllWithin (piece_at pieces 0).total (sums_with sums (piece_at pieces i)) → NoneBelow (unequal_at pieces) (i + 1) × Totalled pieces (i + 1) (sums_with sums (piece_at pieces i))
totals-more pieces i sums low none t same within =
    let more = totalled-more pieces i sums low t in
    let here : unequal_at pieces i ≡ false = rw (same, not_passing less_of pieces i _ more.less within.less, not_passing greater_of pieces i _ more.greater within.greater, not_passing two_of pieces i _ more.two within.two) refl in
    (none-more (unequal_at pieces) i none here, more)
