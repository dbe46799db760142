-- The fields of a line, each read or found to be none.
use Rattle.std.specs.Prelude.{◌≡◌, ◌≢◌, ℕ, zero, suc, ◌+◌, ◌<◌, ◌≤◌, List, ◌∷◌, ◌++◌, length, take, drop, codes, decimal, Option, Some, None}
use Rattle.std.specs.List.{AllByRecursion}
use Rattle.std.specs.Borrow.{Bor}
use Rattle.weights.specs.declared.TheConstants.{MAX}
use Rattle.piece_texts.specs.declared.piece.PieceSum.{PieceSum}
use Rattle.piece_texts.specs.PieceTexts.{IsName, SumFits, sums_text, HasNoFeed}

-- a list without a byte
abbrev pub Without : ℕ → List ℕ → Type 0
Without b bytes = AllByRecursion (λ x. x ≢ b) bytes

-- the first place of a byte
pub record CutAt (b : ℕ) (bytes : List ℕ) (i : ℕ) : Type 0 where
  pub within : i < length bytes
  pub cut : bytes ≡ take i bytes ++ b ∷ drop (i + 1) bytes
  pub free : Without b (take i bytes)

abbrev pub ByteFound : ℕ → List ℕ → Option ℕ → Type 0
ByteFound b bytes None = Without b bytes
ByteFound b bytes (Some i) = CutAt b bytes i

-- a number in a range, in its shortest form
pub record IsIn (least most n : ℕ) (text : List ℕ) : Type 0 where
  pub low : least ≤ n
  pub high : n ≤ most
  pub shortest : text ≡ decimal n

abbrev pub LineCut : List ℕ → Option (Bor (List ℕ) × Bor (List ℕ)) → Type 0
LineCut bytes None = HasNoFeed bytes
LineCut bytes (Some (line, rest)) = HasNoFeed line.now × (bytes ≡ line.now ++ 10 ∷ rest.now)

abbrev pub NumberRead : ℕ → ℕ → List ℕ → Option ℕ → Type 0
NumberRead least most text None = (n : ℕ) → IsIn least most n text → ⊥
NumberRead least most text (Some n) = IsIn least most n text

-- what stands behind words
abbrev pub RestAfter : List ℕ → List ℕ → Option (Bor (List ℕ)) → Type 0
RestAfter words line None = (rest : List ℕ) → line ≢ words ++ rest
RestAfter words line (Some rest) = line ≡ words ++ rest.now

pub record IsAfter (words : List ℕ) (least most n : ℕ) (line : List ℕ) : Type 0 where
  pub low : least ≤ n
  pub high : n ≤ most
  pub fits : n ≤ MAX
  pub text : line ≡ words ++ decimal n

abbrev pub NumberAfter : List ℕ → ℕ → ℕ → List ℕ → Option ℕ → Type 0
NumberAfter words least most line None = (n : ℕ) → IsAfter words least most n line → ⊥
NumberAfter words least most line (Some n) = IsAfter words least most n line

abbrev pub NameAfter : List ℕ → List ℕ → Option (List ℕ) → Type 0
NameAfter words line None = (name : List ℕ) → IsName name → line ≢ words ++ name
NameAfter words line (Some name) = IsName name × (line ≡ words ++ name)

abbrev pub SumsRead : List ℕ → Option PieceSum → Type 0
SumsRead text None = (s : PieceSum) → SumFits s → text ≢ sums_text s
SumsRead text (Some s) = SumFits s × (text ≡ sums_text s)

abbrev pub BothRead : List ℕ → List ℕ → Option PieceSum → Type 0
BothRead closed sum None =
    (s : PieceSum) → SumFits s → closed ≡ decimal s.closed → sum ≡ decimal s.sum → ⊥
BothRead closed sum (Some s) =
    SumFits s × (closed ≡ decimal s.closed) × (sum ≡ decimal s.sum)

abbrev pub SumsAfter : List ℕ → List ℕ → Option PieceSum → Type 0
SumsAfter words line None = (s : PieceSum) → SumFits s → line ≢ words ++ sums_text s
SumsAfter words line (Some s) = SumFits s × (line ≡ words ++ sums_text s)

abbrev pub tail_words : ℕ → List ℕ
tail_words zero = codes "less "
tail_words (suc zero) = codes "greater "
tail_words (suc (suc t)) = codes "two "

-- the line of one of the three tails, from a place on
pub record IsTail (from tail : ℕ) (s : PieceSum) (line : List ℕ) : Type 0 where
  pub low : from ≤ tail
  pub high : tail ≤ 2
  pub fits : SumFits s
  pub text : line ≡ tail_words tail ++ sums_text s

abbrev pub TailRead : ℕ → List ℕ → Option (ℕ × PieceSum) → Type 0
TailRead from line None = (tail : ℕ) (s : PieceSum) → IsTail from tail s line → ⊥
TailRead from line (Some (tail, s)) = IsTail from tail s line
