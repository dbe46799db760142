-- Pieces of one run put together again, and the faults of pieces that are not.
use Rattle.std.specs.Prelude.{⊤, ◌≡◌, ℕ, zero, suc, ◌+◌, List, [], ◌∷◌, map, take, length, Bool, true, false, ◌||◌, not, nat_eq, nat_lt, Option, Some, None, Result, Ok, Err}
use Rattle.std.specs.Str.{bytes_eq}
use Rattle.std.specs.List.{sum_by, AllByRecursion}
use Rattle.piece_texts.specs.declared.piece.Piece.{Piece}
use Rattle.piece_texts.specs.declared.piece.PieceSum.{PieceSum}
use Rattle.piece_texts.specs.declared.merging.MergeFault.{MergeFault}
use Rattle.piece_texts.specs.declared.merging.MergeFault.TheVariants.{Foreign, Doubled, Missing, Unequal, NoMemory}
use Rattle.piece_texts.specs.declared.merging.Merged.{Merged}
use Rattle.piece_texts.specs.Places.{piece_at, NoneBelow, IsFirst, IsFirstPiece}

-- whether a number is in a list
abbrev pub occurs : ℕ → List ℕ → Bool
occurs i [] = false
occurs i (x ∷ xs) = nat_eq x i || occurs i xs

abbrev pub parts_of : List Piece → List ℕ
parts_of pieces = map (λ p. p.part) pieces

-- of another run than the first piece, or of another number of parts
abbrev pub is_foreign : Piece → Piece → Bool
is_foreign one p = not (bytes_eq p.name one.name) || not (nat_eq p.parts one.parts)

abbrev pub foreign_at : List Piece → ℕ → Bool
foreign_at pieces i = is_foreign (piece_at pieces 0) (piece_at pieces i)

-- its part occurred before
abbrev pub doubled_at : List Piece → ℕ → Bool
doubled_at pieces i = occurs (piece_at pieces i).part (take i (parts_of pieces))

abbrev pub lacks_piece : List Piece → ℕ → Bool
lacks_piece pieces part = not (occurs part (parts_of pieces))

-- a tail is asked in one of two pieces alone, or its closed sums differ
abbrev pub tail_differs : Option PieceSum → Option PieceSum → Bool
tail_differs None None = false
tail_differs None (Some s) = true
tail_differs (Some a) None = true
tail_differs (Some a) (Some s) = not (nat_eq s.closed a.closed)

abbrev pub differs : Piece → Piece → Bool
differs one p =
    not (bytes_eq p.head one.head)
    || (tail_differs one.less p.less
    || (tail_differs one.greater p.greater || tail_differs one.two p.two))

-- what a tail's cut closed, and its part's sum, 0 where it is not asked
abbrev pub closed_of : Option PieceSum → ℕ
closed_of None = 0
closed_of (Some s) = s.closed

abbrev pub sum_of : Option PieceSum → ℕ
sum_of None = 0
sum_of (Some s) = s.sum

abbrev pub less_of : Piece → Option PieceSum
less_of p = p.less

abbrev pub greater_of : Piece → Option PieceSum
greater_of p = p.greater

abbrev pub two_of : Piece → Option PieceSum
two_of p = p.two

-- a tail's closed sum, of the first piece, and the sums of the first i pieces
abbrev pub summed_to : (Piece → Option PieceSum) → List Piece → ℕ → ℕ
summed_to tail pieces i =
    closed_of (tail (piece_at pieces 0)) + sum_by (λ p. sum_of (tail p)) (take i pieces)

-- with this piece they pass the total
abbrev pub passes_total : (Piece → Option PieceSum) → List Piece → ℕ → Bool
passes_total tail pieces i = nat_lt (piece_at pieces 0).total (summed_to tail pieces (i + 1))

abbrev pub unequal_at : List Piece → ℕ → Bool
unequal_at pieces i =
    differs (piece_at pieces 0) (piece_at pieces i)
    || (passes_total less_of pieces i
    || (passes_total greater_of pieces i || passes_total two_of pieces i))

-- the tests of pieces, each after those before it
abbrev pub IsOneRun : List Piece → Type 0
IsOneRun pieces = NoneBelow (foreign_at pieces) (length pieces)

abbrev pub IsUndoubled : List Piece → Type 0
IsUndoubled pieces = IsOneRun pieces × NoneBelow (doubled_at pieces) (length pieces)

abbrev pub IsComplete : List Piece → Type 0
IsComplete pieces = IsUndoubled pieces × NoneBelow (lacks_piece pieces) (piece_at pieces 0).parts

abbrev pub IsMergeable : List Piece → Type 0
IsMergeable pieces = IsComplete pieces × NoneBelow (unequal_at pieces) (length pieces)

-- a tail's number: its closed sum and the sums of all pieces, where it is asked
abbrev pub number_told : Option PieceSum → ℕ → Option ℕ
number_told None sum = None
number_told (Some s) sum = Some sum

abbrev pub merged_number : (Piece → Option PieceSum) → List Piece → Option ℕ
merged_number tail pieces =
    number_told (tail (piece_at pieces 0)) (summed_to tail pieces (length pieces))

pub record IsMerged (pieces : List Piece) (merged : Merged) : Type 0 where
  pub head : merged.head ≡ (piece_at pieces 0).head
  pub total : merged.total ≡ (piece_at pieces 0).total
  pub less : merged.less ≡ merged_number less_of pieces
  pub greater : merged.greater ≡ merged_number greater_of pieces
  pub two : merged.two ≡ merged_number two_of pieces

-- what each answer of a merge says
abbrev pub MergeGives : List Piece → Result Merged MergeFault → Type 0
MergeGives pieces (Ok merged) = IsMergeable pieces × IsMerged pieces merged
MergeGives pieces (Err (Foreign k)) = IsFirstPiece (foreign_at pieces) (length pieces) k
MergeGives pieces (Err (Doubled k)) =
    IsOneRun pieces × IsFirstPiece (doubled_at pieces) (length pieces) k
MergeGives pieces (Err (Missing part)) =
    IsUndoubled pieces × IsFirst (lacks_piece pieces) (piece_at pieces 0).parts part
MergeGives pieces (Err (Unequal k)) =
    IsComplete pieces × IsFirstPiece (unequal_at pieces) (length pieces) k
MergeGives pieces (Err NoMemory) = ⊤

-- the sum over the parts
abbrev pub over_parts : (ℕ → ℕ) → ℕ → ℕ
over_parts sum zero = 0
over_parts sum (suc parts) = over_parts sum parts + sum parts

-- where each piece has the sum of its part, the number is the closed sum and those of all parts
abbrev pub AddsUp : (Piece → Option PieceSum) → List Piece → Type 0
AddsUp tail pieces =
    (sum : ℕ → ℕ) → AllByRecursion (λ (p : Piece). sum_of (tail p) ≡ sum p.part) pieces
    → summed_to tail pieces (length pieces)
    ≡ closed_of (tail (piece_at pieces 0)) + over_parts sum (piece_at pieces 0).parts

pub record AllAddUp (pieces : List Piece) : Type 0 where
  pub less : AddsUp less_of pieces
  pub greater : AddsUp greater_of pieces
  pub two : AddsUp two_of pieces
