-- The text of a piece, line by line, and what a piece keeps.
use Rattle.std.specs.Prelude.{⊤, ◌≡◌, ◌≢◌, ℕ, ◌+◌, ◌<◌, ◌≤◌, List, [], ◌∷◌, ◌++◌, length, codes, decimal, nat_eq, nat_le, Bool, true, ◌&&◌, ◌||◌, cond, Option, Some, None, ◌⊎◌}
use Rattle.std.specs.List.{AllByRecursion, flat_map, list_all}
use Rattle.weights.specs.declared.TheConstants.{MAX}
use Rattle.piece_texts.specs.declared.piece.Piece.{Piece}
use Rattle.piece_texts.specs.declared.piece.PieceSum.{PieceSum}

-- every line ends with a line feed
abbrev pub ended : List ℕ → List ℕ
ended line = line ++ 10 ∷ []

-- how many lines end in a text
abbrev pub line_count : List ℕ → ℕ
line_count [] = 0
line_count (byte ∷ text) = cond (nat_eq byte 10) 1 0 + line_count text

-- what a tail's cut closed, and its part's sum
abbrev pub sums_text : PieceSum → List ℕ
sums_text s = decimal s.closed ++ 32 ∷ decimal s.sum

-- the line of a tail, and nothing of a tail that is not asked
abbrev pub piece_tail_line : List ℕ → Option PieceSum → List ℕ
piece_tail_line words None = []
piece_tail_line words (Some s) = ended (words ++ sums_text s)

-- the text of a piece: which part of which run it is, the lines of its head behind their count, and
-- its tails
abbrev pub piece_text : Piece → List ℕ
piece_text p =
    ended (codes "piece 1")
    ++ ended (codes "name " ++ p.name)
    ++ ended (codes "parts " ++ decimal p.parts)
    ++ ended (codes "part " ++ decimal p.part)
    ++ ended (codes "head " ++ decimal (line_count p.head))
    ++ p.head
    ++ piece_tail_line (codes "less ") p.less
    ++ piece_tail_line (codes "greater ") p.greater
    ++ piece_tail_line (codes "two ") p.two
    ++ ended (codes "end")

-- a lower-case hexadecimal digit
abbrev pub is_digit : ℕ → Bool
is_digit d = (nat_le 48 d && nat_le d 57) || (nat_le 97 d && nat_le d 102)

-- each byte is a lower-case hexadecimal digit
abbrev pub all_digits : List ℕ → Bool
all_digits digits = list_all is_digit digits

pub record IsName (name : List ℕ) : Type 0 where
  pub long : length name ≡ 64
  pub digits : all_digits name ≡ true

-- a line without its line feed
abbrev pub HasNoFeed : List ℕ → Type 0
HasNoFeed line = AllByRecursion (λ b. b ≢ 10) line

-- any lines, and behind them the total's
pub record IsHead (total : ℕ) (head : List ℕ) : Type 0 where
  pub lines : List (List ℕ)
  pub whole : AllByRecursion HasNoFeed lines
  pub text : head ≡ flat_map ended lines ++ ended (codes "total " ++ decimal total)

pub record SumFits (s : PieceSum) : Type 0 where
  pub closed : s.closed ≤ MAX
  pub sum : s.sum ≤ MAX

abbrev pub TailFits : Option PieceSum → Type 0
TailFits None = ⊤
TailFits (Some s) = SumFits s

-- what each piece keeps: a part of at most 64, a head that ends with the total, sums that fit, and
-- a tail
pub record IsPiece (p : Piece) : Type 0 where
  pub name : IsName p.name
  pub some_parts : 1 ≤ p.parts
  pub few_parts : p.parts ≤ 64
  pub part : p.part < p.parts
  pub head : IsHead p.total p.head
  pub few_lines : line_count p.head ≤ MAX
  pub some_total : 1 ≤ p.total
  pub total : p.total ≤ MAX
  pub less : TailFits p.less
  pub greater : TailFits p.greater
  pub two : TailFits p.two
  pub asked : (p.less ≢ None) ⊎ ((p.greater ≢ None) ⊎ (p.two ≢ None))
