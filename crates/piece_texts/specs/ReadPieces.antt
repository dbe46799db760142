-- Bytes that are the texts of pieces, and the line at fault of bytes that are none.
use Rattle.std.specs.Prelude.{⊤, ◌≡◌, ℕ, ◌+◌, ◌<◌, List, [], ◌∷◌, ◌++◌, length, Result, Ok, Err, ◌⊎◌}
use Rattle.std.specs.List.{AllByRecursion, flat_map}
use Rattle.piece_texts.specs.declared.piece.Piece.{Piece}
use Rattle.piece_texts.specs.declared.reading.PieceFault.{PieceFault}
use Rattle.piece_texts.specs.declared.reading.PieceFault.TheVariants.{Line, NoMemory}
use Rattle.piece_texts.specs.PieceTexts.{IsPiece, ended, HasNoFeed, piece_text}

-- the bytes are the texts of these pieces, one after another
pub record AreTexts (bytes : List ℕ) (pieces : List Piece) : Type 0 where
  pub some : 0 < length pieces
  pub formed : AllByRecursion IsPiece pieces
  pub text : bytes ≡ flat_map piece_text pieces

abbrev pub NoTexts : List ℕ → Type 0
NoTexts bytes = (pieces : List Piece) → AreTexts bytes pieces → ⊥

-- some texts of pieces begin with these bytes
abbrev pub Starts : List ℕ → Type 0
Starts bytes = (more : List ℕ) × (pieces : List Piece) × AreTexts (bytes ++ more) pieces

-- the bytes are these lines, and what is left behind the last line feed
pub record AreLines (bytes : List ℕ) (lines : List (List ℕ)) (rest : List ℕ) : Type 0 where
  pub free : AllByRecursion HasNoFeed lines
  pub cut : bytes ≡ flat_map ended lines ++ rest

-- the line at this number, from 1, is the first that no texts of pieces have at its place
pub record FaultFollows (bytes : List ℕ) (number : ℕ) : Type 0 where
  pub lines : List (List ℕ)
  pub line : List ℕ
  pub rest : List ℕ
  pub cut : AreLines bytes lines (line ++ 10 ∷ rest)
  pub free : HasNoFeed line
  pub counted : number ≡ length lines + 1
  pub before : Starts (flat_map ended lines)
  pub cannot : Starts (flat_map ended (lines ++ line ∷ [])) → ⊥

-- no whole line is at fault, and the number is that of the line behind them, which may have bytes
pub record FaultEnds (bytes : List ℕ) (number : ℕ) : Type 0 where
  pub lines : List (List ℕ)
  pub rest : List ℕ
  pub cut : AreLines bytes lines rest
  pub last : HasNoFeed rest
  pub counted : number ≡ length lines + 1
  pub before : Starts (flat_map ended lines)

pub record IsFaultLine (bytes : List ℕ) (number : ℕ) : Type 0 where
  pub none : NoTexts bytes
  pub line : FaultFollows bytes number ⊎ FaultEnds bytes number

-- what each answer of the reader says
abbrev pub ReadGives : List ℕ → Result (List Piece) PieceFault → Type 0
ReadGives bytes (Ok pieces) = AreTexts bytes pieces
ReadGives bytes (Err (Line number)) = IsFaultLine bytes number
ReadGives bytes (Err NoMemory) = ⊤
