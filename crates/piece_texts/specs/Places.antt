-- Places in a list of pieces, and the first that passes a test.
use Rattle.std.specs.Prelude.{◌≡◌, ℕ, ◌+◌, ◌<◌, List, [], Option, Some, None, Bool, true, false, get_or, replicate}
use Rattle.piece_texts.specs.declared.piece.Piece.{Piece}

-- a piece of which nothing is known
abbrev pub unknown : Piece
unknown = record {
  name = replicate 64 48;
  parts = 0;
  part = 0;
  head = [];
  total = 0;
  less = None;
  greater = None;
  two = None;
}

abbrev pub piece_at : List Piece → ℕ → Piece
piece_at pieces i = get_or pieces i unknown

-- no number below n passes
abbrev pub NoneBelow : (ℕ → Bool) → ℕ → Type 0
NoneBelow p n = (i : ℕ) → i < n → p i ≡ false

-- the least of the numbers below n that pass
pub record IsFirst (p : ℕ → Bool) (n : ℕ) (k : ℕ) : Type 0 where
  pub within : k < n
  pub passes : p k ≡ true
  pub before : NoneBelow p k

abbrev pub FoundFirst : (ℕ → Bool) → ℕ → Option ℕ → Type 0
FoundFirst p n None = NoneBelow p n
FoundFirst p n (Some k) = IsFirst p n k

-- the number, from 1, of the first of n pieces that passes
pub record IsFirstPiece (p : ℕ → Bool) (n : ℕ) (k : ℕ) : Type 0 where
  pub place : ℕ
  pub counted : k ≡ place + 1
  pub first : IsFirst p n place
