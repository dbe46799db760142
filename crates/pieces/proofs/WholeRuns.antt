-- The parts of a divided run, put together, are the run that is not divided.
use Rattle.std.proofs.Common.{◌≡◌, ℕ, zero, suc, ◌+◌, ◌<◌, ◌≤◌, List, [], ◌∷◌, length, Bool, true, false, nat_eq, nat_lt, inl, inr, Option, Some, None, refl, ◌∙◌, ap, arith}
use Rattle.std.specs.Prelude.{Result, Ok, Err, OnOk, IfOk}
use Rattle.std.specs.List.{AllByRecursion, sum_by}
use Rattle.std.specs.Str.{bytes_eq}
use Rattle.std.proofs.lemmas.Slice.Eq.{bytes_eq-Decides}
use Rattle.std.proofs.lemmas.List.{take_all}
use Rattle.std.proofs.lemmas.List.Sums.{sum_by-cons, sum_by-take-drop}
use Rattle.weights.specs.declared.tails.Tail.{Tail}
use Rattle.networks.specs.Network.{Network}
use Rattle.networks.specs.Completions.{extreme_weight}
use Rattle.piece_texts.specs.declared.piece.Piece.{Piece}
use Rattle.piece_texts.specs.declared.piece.PieceSum.{PieceSum}
use Rattle.piece_texts.specs.declared.merging.Merged.{Merged}
use Rattle.piece_texts.specs.declared.merging.MergeFault.{MergeFault}
use Rattle.piece_texts.specs.declared.merging.MergeFault.TheVariants.{Foreign, Doubled, Missing, Unequal, NoMemory}
use Rattle.piece_texts.specs.PieceTexts.{IsPiece}
use Rattle.piece_texts.specs.Places.{piece_at, NoneBelow, IsFirst}
use Rattle.piece_texts.specs.Merges.{less_of, greater_of, two_of, summed_to, sum_of, closed_of, over_parts, number_told, merged_number, AddsUp, AllAddUp, IsComplete, IsMergeable, IsMerged, MergeGives, foreign_at, doubled_at, lacks_piece, unequal_at, tail_differs, passes_total}
use Rattle.piece_texts.proofs.EachPart.{all-add-up}
use Rattle.pieces.specs.Cuts.{closed_sum, cut_stage, piece_sum}
use Rattle.pieces.specs.Undivided.{AreSumsOf, IsUndivided, IsDivided, AreOfOneRun, OkOrNoMemory}

at-place : (P : Piece → Type 0) (pieces : List Piece) (i : ℕ) → i < length pieces → AllByRecursion P pieces → P (piece_at pieces i)
at-place P [] i low a = absurd (omega (arith, low))
at-place P (p ∷ pieces) zero low a = a.0
at-place P (p ∷ pieces) (suc i) low a = at-place P pieces i (omega (arith, low)) a.1

sums-of : (tail : Piece → Option PieceSum) (f : ℕ → PieceSum) (pieces : List Piece) → AllByRecursion (λ (p : Piece). tail p ≡ Some (f p.part)) pieces → AllByRecursion (λ (p : Piece). sum_of (tail p) ≡ (f p.part).sum) pieces
sums-of tail f [] a = tt
sums-of tail f (p ∷ pieces) a = (ap sum_of a.0, sums-of tail f pieces a.1)

module _ (tail : Piece → Option PieceSum) (pieces : List Piece) (some : 0 < length pieces) (n : Network) (t : Tail) (at : ℕ) (sums : AreSumsOf n t at tail pieces) where
  abbrev part-sums : ℕ → PieceSum
  part-sums = piece_sum n t at (piece_at pieces 0).parts

  first : tail (piece_at pieces 0) ≡ Some (part-sums (piece_at pieces 0).part)
  first = at-place (λ p. tail p ≡ Some (part-sums p.part)) pieces 0 some sums.each

  whole : AddsUp tail pieces → summed_to tail pieces (length pieces) ≡ extreme_weight n t 0 n.first
  whole up =
      up (λ part. (part-sums part).sum) (sums-of tail part-sums pieces sums.each)
      ∙ ap (λ s. closed_of s + over_parts (λ part. (part-sums part).sum) (piece_at pieces 0).parts) first
      ∙ sums.add

  whole-tail : AddsUp tail pieces → merged_number tail pieces ≡ Some (extreme_weight n t 0 n.first)
  whole-tail up = ap (λ s. number_told s (summed_to tail pieces (length pieces))) first ∙ ap Some (whole up)

pub undivided : (pieces : List Piece) (m : Merged) → 0 < length pieces → AllAddUp pieces → IsMerged pieces m → IsUndivided pieces m
undivided pieces m some up is = record {
  less = λ n t at sums. is.less ∙ whole-tail less_of pieces some n t at sums up.less;
  greater = λ n t at sums. is.greater ∙ whole-tail greater_of pieces some n t at sums up.greater;
  two = λ n t at sums. is.two ∙ whole-tail two_of pieces some n t at sums up.two;
}

pub undivided-result : (pieces : List Piece) (r : Result Merged MergeFault) → 0 < length pieces → MergeGives pieces r → OnOk r (AllAddUp pieces) → IfOk r (IsUndivided pieces)
undivided-result pieces (Ok m) some g up = undivided pieces m some up g.1
undivided-result pieces (Err e) some g up = tt

bytes-same : (xs ys : List ℕ) → xs ≡ ys → bytes_eq xs ys ≡ true
bytes-same xs ys e = (bytes_eq-Decides xs ys).1 e

nat-same : (x y : ℕ) → x ≡ y → nat_eq x y ≡ true
nat-same x y e = grind (arith, e)

not-foreign : (pieces : List Piece) → AreOfOneRun pieces → NoneBelow (foreign_at pieces) (length pieces)
not-foreign pieces run i low = rw (bytes-same _ _ (at-place (λ p. p.name ≡ (piece_at pieces 0).name) pieces i low run.same_name), nat-same _ _ (at-place (λ p. p.parts ≡ (piece_at pieces 0).parts) pieces i low run.same_parts)) refl

differs-none : (a b : Option PieceSum) → a ≡ None → b ≡ None → tail_differs a b ≡ false
differs-none a b e f = rw (e, f) refl

differs-some : (a b : Option PieceSum) (closed s u : ℕ) → a ≡ Some (record { closed = closed; sum = s }) → b ≡ Some (record { closed = closed; sum = u }) → tail_differs a b ≡ false
differs-some a b closed s u e f = rw (e, f) (rw (nat-same closed closed refl) refl)

same-tail : (tail : Piece → Option PieceSum) (pieces : List Piece) (i : ℕ) → i < length pieces → IsDivided tail pieces → tail_differs (tail (piece_at pieces 0)) (tail (piece_at pieces i)) ≡ false
same-tail tail pieces i low (inl none) = differs-none _ _ (at-place (λ p. tail p ≡ None) pieces 0 (omega (arith, low)) none) (at-place (λ p. tail p ≡ None) pieces i low none)
same-tail tail pieces i low (inr d) =
    let sums = d.3 in
    let f : ℕ → PieceSum = piece_sum d.0 d.1 d.2 (piece_at pieces 0).parts in
    let P : Piece → Type 0 = λ (p : Piece). tail p ≡ Some (f p.part) in
    differs-some _ _ (closed_sum d.0 d.1 (cut_stage d.0 d.2)) _ _ (at-place P pieces 0 (omega (arith, low)) sums.each) (at-place P pieces i low sums.each)

summed-le : (tail : Piece → Option PieceSum) (pieces : List Piece) (i : ℕ) → summed_to tail pieces i ≤ summed_to tail pieces (length pieces)
summed-le tail pieces i = omega (arith, sum_by-take-drop (λ p. sum_of (tail p)) pieces i, ap (sum_by (λ p. sum_of (tail p))) (take_all (length pieces) pieces (omega arith)))

none-sums : (tail : Piece → Option PieceSum) (pieces : List Piece) → AllByRecursion (λ (p : Piece). tail p ≡ None) pieces → sum_by (λ p. sum_of (tail p)) pieces ≡ 0
none-sums tail [] a = refl
none-sums tail (p ∷ pieces) a = omega (arith, sum_by-cons (λ q. sum_of (tail q)) p pieces, ap sum_of a.0, none-sums tail pieces a.1)

not-over : (total sum : ℕ) → sum ≤ total → nat_lt total sum ≡ false
not-over total sum h = grind (arith, h)

within-total : (tail : Piece → Option PieceSum) (pieces : List Piece) → 0 < length pieces → AddsUp tail pieces → IsDivided tail pieces → summed_to tail pieces (length pieces) ≤ (piece_at pieces 0).total
within-total tail pieces some up (inl none) =
    omega (arith, ap closed_of (at-place (λ p. tail p ≡ None) pieces 0 some none), none-sums tail pieces none, ap (sum_by (λ p. sum_of (tail p))) (take_all (length pieces) pieces (omega arith)))
within-total tail pieces some up (inr d) = omega (arith, whole tail pieces some d.0 d.1 d.2 d.3 up, d.4)

not-passing : (tail : Piece → Option PieceSum) (pieces : List Piece) (i : ℕ) → 0 < length pieces → AddsUp tail pieces → IsDivided tail pieces → passes_total tail pieces i ≡ false
not-passing tail pieces i some up d = not-over (piece_at pieces 0).total (summed_to tail pieces (i + 1)) (omega (arith, summed-le tail pieces (i + 1), within-total tail pieces some up d))

not-unequal : (pieces : List Piece) → 0 < length pieces → AllAddUp pieces → AreOfOneRun pieces → NoneBelow (unequal_at pieces) (length pieces)
not-unequal pieces some up run i low =
    rw (bytes-same _ _ (at-place (λ p. p.head ≡ (piece_at pieces 0).head) pieces i low run.same_head), same-tail less_of pieces i low run.less, same-tail greater_of pieces i low run.greater, same-tail two_of pieces i low run.two, not-passing less_of pieces i some up.less run.less, not-passing greater_of pieces i some up.greater run.greater, not-passing two_of pieces i some up.two run.two) refl

refuses : (p : ℕ → Bool) (n k : ℕ) → IsFirst p n k → NoneBelow p n → ⊥
refuses p n k first none = let yes' : p k ≡ true = first.passes in let no' : p k ≡ false = none k first.within in cc

-- pieces of one run can be merged
pub one-run-mergeable : (pieces : List Piece) → 0 < length pieces → AllByRecursion IsPiece pieces → AreOfOneRun pieces → IsMergeable pieces
one-run-mergeable pieces some formed run =
    let complete : IsComplete pieces = ((not-foreign pieces run, run.once), run.each) in
    (complete, not-unequal pieces some (all-add-up pieces formed complete) run)

only-memory : (pieces : List Piece) (r : Result Merged MergeFault) → IsMergeable pieces → MergeGives pieces r → OkOrNoMemory r
only-memory pieces (Ok m) able g = tt
only-memory pieces (Err (Foreign k)) able g = refuses (foreign_at pieces) (length pieces) g.place g.first able.0.0.0
only-memory pieces (Err (Doubled k)) able g = refuses (doubled_at pieces) (length pieces) g.1.place g.1.first able.0.0.1
only-memory pieces (Err (Missing i)) able g = refuses (lacks_piece pieces) (piece_at pieces 0).parts i g.1 able.0.1
only-memory pieces (Err (Unequal k)) able g = refuses (unequal_at pieces) (length pieces) g.1.place g.1.first able.1
only-memory pieces (Err NoMemory) able g = tt

-- and are
pub one-run-merges : (pieces : List Piece) (r : Result Merged MergeFault) → 0 < length pieces → AllByRecursion IsPiece pieces → MergeGives pieces r → AreOfOneRun pieces → OkOrNoMemory r
one-run-merges pieces r some formed g run = only-memory pieces r (one-run-mergeable pieces some formed run) g
