-- Pieces that are the parts of one divided run, put together.
use Rattle.std.specs.Prelude.{⊤, ◌≡◌, ℕ, ◌≤◌, List, length, Option, Some, None, Result, Ok, Err, ◌⊎◌}
use Rattle.std.specs.List.{AllByRecursion}
use Rattle.weights.specs.declared.tails.Tail.{Tail}
use Rattle.networks.specs.Network.{Network}
use Rattle.networks.specs.Completions.{extreme_weight}
use Rattle.piece_texts.specs.declared.piece.Piece.{Piece}
use Rattle.piece_texts.specs.declared.piece.PieceSum.{PieceSum}
use Rattle.piece_texts.specs.declared.merging.Merged.{Merged}
use Rattle.piece_texts.specs.declared.merging.MergeFault.{MergeFault}
use Rattle.piece_texts.specs.declared.merging.MergeFault.TheVariants.{Foreign, Doubled, Missing, Unequal, NoMemory}
use Rattle.piece_texts.specs.Places.{piece_at, NoneBelow}
use Rattle.piece_texts.specs.Merges.{less_of, greater_of, two_of, doubled_at, lacks_piece}
use Rattle.pieces.specs.Cuts.{PiecesAddUp, piece_sum}

-- of a tail, each piece has the sums of its part of a run over this network, divided at this stage
pub record AreSumsOf (n : Network) (t : Tail) (at : ℕ) (tail : Piece → Option PieceSum)
    (pieces : List Piece) : Type 0 where
  pub add : PiecesAddUp n t at (piece_at pieces 0).parts
  pub each : AllByRecursion
      (λ (p : Piece). tail p ≡ Some (piece_sum n t at (piece_at pieces 0).parts p.part)) pieces

-- then the number of the tail is that of the run that is not divided
pub record IsUndivided (pieces : List Piece) (merged : Merged) : Type 0 where
  pub less : (n : Network) (t : Tail) (at : ℕ) → AreSumsOf n t at less_of pieces
      → merged.less ≡ Some (extreme_weight n t 0 n.first)
  pub greater : (n : Network) (t : Tail) (at : ℕ) → AreSumsOf n t at greater_of pieces
      → merged.greater ≡ Some (extreme_weight n t 0 n.first)
  pub two : (n : Network) (t : Tail) (at : ℕ) → AreSumsOf n t at two_of pieces
      → merged.two ≡ Some (extreme_weight n t 0 n.first)

-- a tail that is not asked, or one of which each piece has its part's sums, and whose number is at
-- most the total
abbrev pub IsDivided : (Piece → Option PieceSum) → List Piece → Type 0
IsDivided tail pieces =
    AllByRecursion (λ (p : Piece). tail p ≡ None) pieces
    ⊎ ((n : Network) × (t : Tail) × (at : ℕ) × AreSumsOf n t at tail pieces
    × (extreme_weight n t 0 n.first ≤ (piece_at pieces 0).total))

-- one piece of each part of one divided run, in any order
pub record AreOfOneRun (pieces : List Piece) : Type 0 where
  pub same_name : AllByRecursion (λ (p : Piece). p.name ≡ (piece_at pieces 0).name) pieces
  pub same_parts : AllByRecursion (λ (p : Piece). p.parts ≡ (piece_at pieces 0).parts) pieces
  pub same_head : AllByRecursion (λ (p : Piece). p.head ≡ (piece_at pieces 0).head) pieces
  pub once : NoneBelow (doubled_at pieces) (length pieces)
  pub each : NoneBelow (lacks_piece pieces) (piece_at pieces 0).parts
  pub less : IsDivided less_of pieces
  pub greater : IsDivided greater_of pieces
  pub two : IsDivided two_of pieces

-- no fault but want of memory
abbrev pub OkOrNoMemory : Result Merged MergeFault → Type 0
OkOrNoMemory (Ok merged) = ⊤
OkOrNoMemory (Err (Foreign k)) = ⊥
OkOrNoMemory (Err (Doubled k)) = ⊥
OkOrNoMemory (Err (Missing i)) = ⊥
OkOrNoMemory (Err (Unequal k)) = ⊥
OkOrNoMemory (Err NoMemory) = ⊤
