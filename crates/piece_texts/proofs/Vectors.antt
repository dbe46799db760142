-- Worked texts and merges of the definitions, by computation.
use Rattle.std.specs.Prelude.{◌≡◌, ℕ, List, [], ◌∷◌, codes, true, false, Option, Some, None}
use Rattle.std.proofs.Common.{refl}
use Rattle.std.specs.Fmt.{digits}
use Rattle.piece_texts.specs.declared.piece.Piece.{Piece}
use Rattle.piece_texts.specs.declared.piece.PieceSum.{PieceSum}
use Rattle.piece_texts.specs.PieceTexts.{piece_text, all_digits}
use Rattle.piece_texts.specs.Merges.{foreign_at, doubled_at, lacks_piece, unequal_at, merged_number, less_of, greater_of}

abbrev head : List ℕ
head = codes "test ranksum\ngroup 3 x\ngroup 3 y\nstatistic 30/2\ntotal 20\n"

abbrev name : List ℕ
name = codes "00112233445566778899aabbccddeeff00112233445566778899aabbccddeeff"

abbrev sums : ℕ → ℕ → Option PieceSum
sums closed sum = Some (record { closed = closed; sum = sum })

-- a part of two of a run that asks for the greater tail
abbrev part : ℕ → Option PieceSum → Piece
part i greater = record {
  name = name;
  parts = 2;
  part = i;
  head = head;
  total = 20;
  less = None;
  greater = greater;
  two = None;
}

digits_of_name : all_digits name ≡ true
digits_of_name = refl

first_part :
    piece_text (part 0 (sums 0 1))
    ≡ codes "piece 1\nname 00112233445566778899aabbccddeeff00112233445566778899aabbccddeeff\nparts 2\npart 0\nhead 5\ntest ranksum\ngroup 3 x\ngroup 3 y\nstatistic 30/2\ntotal 20\ngreater 0 1\nend\n"
unfolding digits
first_part = refl

-- the tails stand in their order
three_tails :
    piece_text (record (part 1 (sums 3 4)) { less = sums 1 2; two = sums 5 6 })
    ≡ codes "piece 1\nname 00112233445566778899aabbccddeeff00112233445566778899aabbccddeeff\nparts 2\npart 1\nhead 5\ntest ranksum\ngroup 3 x\ngroup 3 y\nstatistic 30/2\ntotal 20\nless 1 2\ngreater 3 4\ntwo 5 6\nend\n"
unfolding digits
three_tails = refl

abbrev both : List Piece
both = part 0 (sums 0 1) ∷ part 1 (sums 0 0) ∷ []

merged : merged_number greater_of both ≡ Some 1
merged = refl

not_asked : merged_number less_of both ≡ None
not_asked = refl

-- the closed sum is added once
closed_once : merged_number greater_of (part 1 (sums 5 2) ∷ part 0 (sums 5 3) ∷ []) ≡ Some 10
closed_once = refl

first_missing : lacks_piece (part 1 (sums 0 0) ∷ []) 0 ≡ true
first_missing = refl

none_missing : lacks_piece both 1 ≡ false
none_missing = refl

twice : doubled_at (part 0 (sums 0 1) ∷ part 0 (sums 0 1) ∷ []) 1 ≡ true
twice = refl

other_parts : foreign_at (part 0 (sums 0 1) ∷ record (part 1 (sums 0 0)) { parts = 3 } ∷ []) 1 ≡ true
other_parts = refl

other_name : foreign_at (part 0 (sums 0 1) ∷ record (part 1 (sums 0 0)) { name = codes "ff" } ∷ []) 1 ≡ true
other_name = refl

-- a sum past the total, and one that is the total
past_total : unequal_at (part 0 (sums 0 21) ∷ part 1 (sums 0 0) ∷ []) 0 ≡ true
past_total = refl

whole_total : unequal_at (part 0 (sums 15 5) ∷ part 1 (sums 15 0) ∷ []) 1 ≡ false
whole_total = refl

other_closed : unequal_at (part 0 (sums 0 1) ∷ part 1 (sums 1 0) ∷ []) 1 ≡ true
other_closed = refl

other_head : unequal_at (part 0 (sums 0 1) ∷ record (part 1 (sums 0 0)) { head = codes "total 20\n" } ∷ []) 1 ≡ true
other_head = refl

other_tails : unequal_at (part 0 (sums 0 1) ∷ record (part 1 None) { less = sums 0 0 } ∷ []) 1 ≡ true
other_tails = refl
