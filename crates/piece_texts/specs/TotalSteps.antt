-- The sums of the first pieces, kept while the pieces are gone through.
use Rattle.std.specs.Prelude.{◌≡◌, ℕ, ◌+◌, ◌≤◌, List, length, Result, Ok, Err}
use Rattle.piece_texts.specs.declared.piece.Piece.{Piece}
use Rattle.piece_texts.specs.declared.totals.TailTotals.{TailTotals}
use Rattle.piece_texts.specs.Places.{NoneBelow, IsFirst}
use Rattle.piece_texts.specs.Merges.{sum_of, less_of, greater_of, two_of, summed_to, unequal_at}

pub record Totalled (pieces : List Piece) (i : ℕ) (sums : TailTotals) : Type 0 where
  pub less : sums.less ≡ summed_to less_of pieces i
  pub greater : sums.greater ≡ summed_to greater_of pieces i
  pub two : sums.two ≡ summed_to two_of pieces i

abbrev pub sums_with : TailTotals → Piece → TailTotals
sums_with sums p = record {
  less = sums.less + sum_of p.less;
  greater = sums.greater + sum_of p.greater;
  two = sums.two + sum_of p.two;
}

pub record AllWithin (total : ℕ) (sums : TailTotals) : Type 0 where
  pub less : sums.less ≤ total
  pub greater : sums.greater ≤ total
  pub two : sums.two ≤ total

abbrev pub TotalsGive : List Piece → Result TailTotals ℕ → Type 0
TotalsGive pieces (Err i) = IsFirst (unequal_at pieces) (length pieces) i
TotalsGive pieces (Ok sums) =
    NoneBelow (unequal_at pieces) (length pieces) × Totalled pieces (length pieces) sums
