-- Where lines lead, one after another, and what was read of bytes so far.
use Rattle.std.proofs.Common.{◌≡◌, ℕ, ◌+◌, List, [], ◌∷◌, length}
use Rattle.piece_texts.specs.declared.piece.Piece.{Piece}
use Rattle.piece_texts.specs.declared.reader.Step.TheVariants.{Outside}
use Rattle.piece_texts.specs.Places.{unknown}
use Rattle.piece_texts.specs.ReadPieces.{AreLines}
use Rattle.piece_texts.specs.ReaderSteps.{Leads, Reading, fresh}

abbrev pub Runs : Reading → List (List ℕ) → Reading → Type 0
Runs s [] e = e ≡ s
Runs s (line ∷ lines) e = (next : Reading) × Leads s.at s line next × Runs next lines e

-- behind pieces, of the next of which nothing was read
abbrev pub after_pieces : List Piece → Reading
after_pieces pieces = record { done = pieces; draft = unknown; at = Outside }

-- what was read of bytes: whole lines, each of which may follow
pub record IsRead (bytes rest : List ℕ) (number : ℕ) (s : Reading) : Type 0 where
  pub lines : List (List ℕ)
  pub cut : AreLines bytes lines rest
  pub counted : number ≡ length lines + 1
  pub runs : Runs fresh lines s
