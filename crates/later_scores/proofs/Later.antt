-- The later scores from one column to the next.
use Rattle.std.proofs.Common.{◌≡◌, ℕ, ◌+◌, ◌<◌, List, [], ◌∷◌, ◌++◌, length, drop, refl, arith, add-one, drop-cons, length-append, drop_of_length-le}
use Rattle.std.specs.Prelude.{ℤ, pos, replicate, slice_index, slice_index_or}
use Rattle.std.specs.List.{sum}
use Rattle.std.proofs.lemmas.List.{length-replicate, length-drop}
use Rattle.std.proofs.lemmas.List.Sums.{sum_by-cons}
use Rattle.later_scores.specs.LaterSums.{subjects, later_scores}

pub length-subjects : (ss : List ℤ) (cs : List ℕ) → length ss ≡ length cs → length (subjects ss cs) ≡ sum cs
length-subjects [] [] e = refl
length-subjects [] (c ∷ cs) e = absurd (omega (arith, e))
length-subjects (s ∷ ss) [] e = absurd (omega (arith, e))
length-subjects (s ∷ ss) (c ∷ cs) e = omega (arith, length-append (replicate c s) (subjects ss cs), length-replicate c s, length-subjects ss cs (omega (arith, e)), sum_by-cons (λ v. v) c cs)

module _ (scores : List ℤ) (columns : List ℕ) where
  pub later-next : (g : ℕ) → g < length columns → length scores ≡ length columns → later_scores scores columns g ≡ replicate (slice_index columns g) (slice_index_or scores g (pos 0)) ++ later_scores scores columns (g + 1)
  later-next g h e =
      let ss : drop g scores ≡ slice_index_or scores g (pos 0) ∷ drop (g + 1) scores = rw add-one (drop-cons scores g (pos 0) (omega (arith, h, e))) in
      let cs : drop g columns ≡ slice_index columns g ∷ drop (g + 1) columns = rw add-one (drop-cons columns g 0 h) in
      rw (ss, cs) refl

  pub later-end : length scores ≡ length columns → later_scores scores columns (length columns) ≡ []
  later-end e =
      let ss : drop (length columns) scores ≡ [] = drop_of_length-le scores {i = length columns} (omega (arith, e)) in
      rw ss refl

  pub later-length : (g : ℕ) → length scores ≡ length columns → length (later_scores scores columns g) ≡ sum (drop g columns)
  later-length g e = length-subjects (drop g scores) (drop g columns) (omega (arith, e, length-drop {A = ℤ}, length-drop {A = ℕ}))
